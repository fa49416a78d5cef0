use Rattle.std.proofs.Common.{rules, ◌∙◌, sym, arith, inr, length-set}
use Rattle.selectors.specs.Entries.{weigh}
use Rattle.selectors.proofs.Sums.{below_at}
use Rattle.selectors.proofs.Keeping.{found_some, weigh_held, tally_more}
use Rattle.selectors.proofs.Puts.{put_heavy, put_taken}
use Rattle.selectors.proofs.Weighing.{weigh_some, weigh_more}
use Rattle.selectors.proofs.entries.Entries.raise.Goals as goal

pub returns-in_err-self-clause-answer : goal.returns-in_err-self-clause-answer
returns-in_err-self-clause-answer c =
    let s = c.args.self.now in
    let e = c.args.entry in
    let at = found_some s.places s.count e.code c.args.at (omega arith) c.requires.1 in
    let heavy = put_heavy (weigh s.places s.count) 33554432 e.code e.weight (omega arith) (omega arith) (inr (weigh_held s.places s.count c.args.at e.code s.weighty at.0 at.1)) (omega (arith, c.in_err-self.ensures)) in
    grind (arith, heavy, c.from_residual.ensures, c.in_err-self.ensures)

pub overflow_add-self : goal.overflow_add-self
overflow_add-self c =
    let s = c.args.self.now in
    let e = c.args.entry in
    let at = found_some s.places s.count e.code c.args.at (omega arith) c.requires.1 in
    omega (arith, weigh_some s.places s.count c.args.at e.code at.0 at.1, below_at (weigh s.places s.count) e.code 33554432 (omega arith), c.in_ok-self.ensures)

pub invariant_of-self : goal.invariant_of-self
invariant_of-self c =
    let s = c.args.self.now in
    let e = c.args.entry in
    let at = found_some s.places s.count e.code c.args.at (omega arith) c.requires.1 in
    record {
      size = length-set s.places c.args.at _ ∙ s.size;
      weighty = search rules;
      tally = rw c.in_ok-self.ensures.0 (tally_more s.places 33554432 s.count s.sum c.args.at e.code e.weight s.weighty s.tally at.0 (omega arith) at.1 (omega arith) (omega arith) (omega arith));
    }

pub returns-clause-answer : goal.returns-clause-answer
returns-clause-answer c =
    let s = c.args.self.now in
    let e = c.args.entry in
    let at = found_some s.places s.count e.code c.args.at (omega arith) c.requires.1 in
    sym (put_taken (weigh s.places s.count) 33554432 e.code e.weight (omega arith) (omega arith) (inr (weigh_held s.places s.count c.args.at e.code s.weighty at.0 at.1)) (omega (arith, c.in_ok-self.ensures)))

pub returns-clause-weights : goal.returns-clause-weights
returns-clause-weights c d =
    let s = c.args.self.now in
    let e = c.args.entry in
    let at = found_some s.places s.count e.code c.args.at (omega arith) c.requires.1 in
    weigh_more s.places s.count c.args.at e.code e.weight d at.0 (omega arith) at.1
