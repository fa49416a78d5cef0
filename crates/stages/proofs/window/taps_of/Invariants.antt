use Rattle.std.proofs.Common.{◌≡◌, map, length, take}
use Rattle.recipes.specs.Placed.{placed}
use Rattle.stages.specs.Taps.{tap_of}
use Rattle.stages.proofs.window.taps_of.Given as goal

abbrev pub invariant-loop-i : goal.invariant-loop-i
invariant-loop-i l =
    record {
      long : length l.taps ≡ 49;
      taps : take l.i l.taps ≡ map (tap_of l.stage) (take l.i (placed l.stage.element));
    }
