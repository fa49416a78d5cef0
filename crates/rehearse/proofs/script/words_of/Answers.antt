use Rattle.std.proofs.Common.{rules, ◌≡◌, [], ◌∷◌, ◌++◌, sym, append-nil, append_assoc}
use Rattle.rehearse.proofs.script.words_of.Goals as goal

pub loop-word-preserved : goal.loop-word-preserved
loop-word-preserved c more cut =
    let word = c.in-Some.word in
    let (gap, split, some, before, inside, after) = c.in-Some.ensures.steps in
    let pushed : c.push.new.self.items ≡ c.loop-word.words.items ++ word ∷ [] = search rules in
    rw (pushed, append_assoc) (c.loop-word.invariant (word ∷ more) (gap, c.next.new.self.rest.now, split, (some, before, inside, after), cut))

pub returns : goal.returns
returns c = rw (sym (append-nil c.loop-word.words.items)) (c.loop-word.invariant [] c.in-None.ensures.steps.1)
