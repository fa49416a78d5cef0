use Rattle.std.proofs.Common.{◌≡◌, ap, Some, arith, rules}
use Rattle.std.specs.Option.{option_map}
use Rattle.calls.specs.Calls.{number}
use Rattle.cards.specs.Meanings.{state_of}
use Rattle.cards.specs.OpenCards.{notes_of}
use Rattle.cards.specs.Writing.{Writes}
use Rattle.cards.proofs.Files.{Bounded, once_more, read_back, right_files}
use Rattle.cards.proofs.card.Card+Grey+S.write.Goals as goal

pub returns-in_err-opened-clause-right : goal.returns-in_err-opened-clause-right
returns-in_err-opened-clause-right g c = right_files

pub returns-in_err-opened-clause-once_more : goal.returns-in_err-opened-clause-once_more
returns-in_err-opened-clause-once_more g c = once_more

pub returns-in_err-fits-clause-right : goal.returns-in_err-fits-clause-right
returns-in_err-fits-clause-right g c = right_files

pub returns-in_err-fits-clause-once_more : goal.returns-in_err-fits-clause-once_more
returns-in_err-fits-clause-once_more g c = once_more

pub returns-in_err-settled-clause-right : goal.returns-in_err-settled-clause-right
returns-in_err-settled-clause-right g c = right_files

pub returns-in_err-settled-clause-once_more : goal.returns-in_err-settled-clause-once_more
returns-in_err-settled-clause-once_more g c = once_more

pub returns-clause-right : goal.returns-clause-right
returns-clause-right g c = right_files

pub returns-clause-once_more : goal.returns-clause-once_more
returns-clause-once_more g c = once_more

pub returns-clause-read_back : goal.returns-clause-read_back
returns-clause-read_back g c =
    let opened = c.in_ok-opened.opened.now in
    let at = state_of g.S.Selector.weight c.args.self.now c.args.memory.now in
    let is : c.args.self.now.opened ≡ Some opened = search rules in
    let wrote : Writes at c.args.file.now (number c.ok_or-2.result) c.write.new.file = search rules in
    let bounded : Bounded (notes_of opened) c.args.memory.now = record {
      limits = opened.areas.frame.within;
      few = opened.fits;
      bytes = λ i. omega (arith, c.type_inv.memory i);
    } in
    read_back at c.args.file.now c.write.new.file (number c.ok_or-2.result) wrote (notes_of opened) (ap (option_map notes_of) is) bounded
