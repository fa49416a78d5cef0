use Rattle.std.proofs.Common.{rules, ◌≡◌, true, cond, ◌&&◌, Some, None, ◌+◌, ◌<◌, length, get_or, pos, ◌+ℤ◌, unsigned_abs, ap, sym, refl, ◌∙◌, arith}
use Rattle.planes.specs.Sizes.{cell}
use Rattle.std.proofs.lemmas.List.{get_or_default}
use Rattle.stages.specs.Planes.{blank}
use Rattle.stages.specs.Sites.{seen}
use Rattle.stages.specs.Stages.{on_card}
use Rattle.stages.specs.Taps.{tap_code}
use Rattle.stages.proofs.site.Site.code_near.Goals as goal

pub returns : goal.returns
returns g c =
    let k = g.T.Tone.kind in
    let site = c.args.self.now in
    let size = site.frame.size in
    let tap = c.args.tap.now in
    let (across, down, flat) = c.requires in
    let test : (on_card size.width (pos site.x +ℤ tap.dx) && on_card size.height (pos site.y +ℤ tap.dy)) ≡ true = rw (across, down) refl in
    let column : c.wrapping_add_signed-column.result ≡ unsigned_abs (pos site.x +ℤ tap.dx) = search (rules, across) in
    let row : c.wrapping_add_signed-row.result ≡ unsigned_abs (pos site.y +ℤ tap.dy) = search (rules, down) in
    let u = unsigned_abs (pos site.x +ℤ tap.dx) in
    let v = unsigned_abs (pos site.y +ℤ tap.dy) in
    let cells : c.cell.result ≡ cell size u v = c.cell.ensures.value ∙ ap (λ i. cell size i c.wrapping_add_signed-row.result) column ∙ ap (cell size u) row in
    let place : c.cell.result ≡ 0 + cell size u v = omega (arith, cells) in
    let within : c.cell.result < length site.plane.now = omega (arith, c.cell.ensures.bound, site.filled) in
    let read = get_or_default site.plane.now c.cell.result c.index-self-cell.result (blank k) within ∙ ap (λ i. get_or site.plane.now i (blank k)) place in
    let tone : c.of_row.result ≡ seen site u v = c.of_row.ensures ∙ ap k.counted read in
    let still = ap (k.lowered c.of_row.result) flat ∙ g.met.T.Tone.lawful.still c.of_row.result in
    let code : c.code.result ≡ tap_code k size (seen site) site.x site.y tap = c.code.ensures ∙ ap k.code (sym still ∙ ap (λ t. k.lowered t tap.amount) tone) in
    ap Some code ∙ sym (ap (λ b. cond b (Some (tap_code k size (seen site) site.x site.y tap)) None) test)
