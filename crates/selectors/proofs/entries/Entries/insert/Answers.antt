use Rattle.std.proofs.Common.{rules, ◌<◌, ◌∙◌, sym, arith, length-set}
use Rattle.selectors.specs.Entries.{weigh}
use Rattle.selectors.proofs.Climbing.{rising_inserted}
use Rattle.selectors.proofs.Keeping.{found_none, tally_inserted}
use Rattle.selectors.proofs.Puts.{put_full}
use Rattle.selectors.proofs.Weighing.{inserted_copied, weigh_inserted, weigh_none}
use Rattle.selectors.proofs.entries.Entries.insert.Goals as goal

pub returns-then-self-eq-MOST_CODES-clause-answer : goal.returns-then-self-eq-MOST_CODES-clause-answer
returns-then-self-eq-MOST_CODES-clause-answer c =
    let s = c.args.self.now in
    let e = c.args.entry in
    let none = found_none s.places s.count e.code c.args.at (omega arith) c.requires.1 in
    sym (put_full (weigh s.places s.count) 33554432 e.code e.weight (omega arith) (omega arith) (omega arith) (weigh_none s.places s.count e.code none.1))

pub invariant_of-self : goal.invariant_of-self
invariant_of-self c =
    let s = c.args.self.now in
    let e = c.args.entry in
    let none = found_none s.places s.count e.code c.args.at (omega arith) c.requires.1 in
    let few : s.count < 64 = omega arith in
    let copied = c.copy_within.ensures in
    let ins = inserted_copied s.places c.copy_within.new.self s.count c.args.at e none.0 (omega arith) copied.len copied.by_index.0 copied.by_index.1 in
    record {
      size = length-set c.copy_within.new.self c.args.at e ∙ copied.len ∙ s.size;
      weighty = search rules;
      tally = rw c.in_ok-self.ensures.0 (tally_inserted s.places _ 33554432 s.count s.sum c.args.at e s.tally none.0 ins (weigh_none s.places s.count e.code none.1) (omega arith) (omega arith) few (omega arith));
    }

pub returns-clause-weights : goal.returns-clause-weights
returns-clause-weights c d =
    let s = c.args.self.now in
    let e = c.args.entry in
    let none = found_none s.places s.count e.code c.args.at (omega arith) c.requires.1 in
    let copied = c.copy_within.ensures in
    let ins = inserted_copied s.places c.copy_within.new.self s.count c.args.at e none.0 (omega arith) copied.len copied.by_index.0 copied.by_index.1 in
    weigh_inserted s.places _ s.count c.args.at e d none.0 ins

pub returns-clause-rising : goal.returns-clause-rising
returns-clause-rising c seat r =
    let s = c.args.self.now in
    let copied = c.copy_within.ensures in
    let none = found_none s.places s.count c.args.entry.code c.args.at (omega arith) c.requires.1 in
    let ins = inserted_copied s.places c.copy_within.new.self s.count c.args.at c.args.entry none.0 (omega arith) copied.len copied.by_index.0 copied.by_index.1 in
    rising_inserted s.places _ s.count c.args.at c.args.entry (omega arith) seat ins r
