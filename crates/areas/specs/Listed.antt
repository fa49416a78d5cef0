-- The list of the areas, and the frame of their card. Assumes nothing.
use Rattle.std.specs.Prelude.{List, take}
use Rattle.planes.specs.declared.frame.Frame.{Frame}
use Rattle.areas.specs.declared.areas.Areas.{Areas}
use Rattle.areas.specs.Areas.{Area}

-- the areas, one a stage
abbrev pub listed : Areas → List Area
listed a = take a.count a.areas

abbrev pub frame_of : Areas → Frame
frame_of a = a.frame
