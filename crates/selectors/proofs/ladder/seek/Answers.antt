use Rattle.std.proofs.Common.{rules, ◌≤◌, get_or, arith}
use Rattle.std.proofs.lemmas.Grind.{common_steps}
use Rattle.selectors.specs.Entries.{blank}
use Rattle.selectors.proofs.ladder.seek.Goals as goal

pub returns-in-Some-2 : goal.returns-in-Some-2
returns-in-Some-2 c =
    let es = c.args.entries.now in
    let up : (get_or es c.in-Some.at blank).code ≤ c.args.code = search rules in
    (search rules, λ i l. grind (arith, up, c.requires i c.in-Some.at), λ i l m. grind (arith, common_steps))
