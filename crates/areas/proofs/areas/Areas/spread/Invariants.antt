use Rattle.std.proofs.Common.{◌≡◌, ◌++◌, length, take, drop}
use Rattle.areas.specs.Rects.{Fits}
use Rattle.areas.specs.Areas.{spread}
use Rattle.areas.specs.Listed.{listed}
use Rattle.areas.proofs.areas.Areas.spread.Given as goal

-- the areas so far are spread, and what is left of them is spread from there
abbrev pub invariant-loop-i : goal.invariant-loop-i
invariant-loop-i l =
    let size = l.self.frame.size in
    let n = length l.yielded in
    (goal.iterator-loop-i).can_next l.i-iterator × (goal.iterator-loop-i).is_finite l.i-iterator
    × (l.self.frame ≡ l.initial.self.frame) × (l.self.count ≡ l.initial.self.count) × Fits size l.below
    × (take n (listed l.self) ++ spread size (drop n l.stages) l.below (drop n (listed l.self)) ≡ spread size l.stages l.fn.rect (listed l.initial.self))
