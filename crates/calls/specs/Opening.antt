-- What opening a card answers and leaves. Assumes nothing.
use Rattle.std.specs.Prelude.{ℕ, Bool, if◌then◌else◌, ◌&&◌, [], Some, None, Option, ◌==◌, nat_le}
use Rattle.calls.specs.Calls.{Notes, room}

-- a number is from 1 to a greatest one
abbrev pub from_1_to : ℕ → ℕ → Bool
from_1_to most n = nat_le 1 n && nat_le n most

-- a width from 1 to 1,024, a height from 1 to 256, and from 1 to 8 stages
abbrev pub limits : ℕ → ℕ → ℕ → Bool
limits width height stages = from_1_to 1024 width && from_1_to 256 height && from_1_to 8 stages

-- the notes of a card just opened: an empty recipe, and nothing stale
abbrev pub fresh : ℕ → ℕ → ℕ → Notes
fresh width height stages = record {
  size = record { width = width; height = height };
  most = stages;
  recipe = [];
  areas = [];
}

-- the rows of memory that such a card is lent; nothing outside the limits
abbrev pub memory_of : ℕ → ℕ → ℕ → Option ℕ
memory_of width height stages =
    if limits width height stages then Some (room (fresh width height stages)) else None

-- an open is refused where the size or the number of stages is outside its limits (13), then where the memory has
-- another length (14), then where the selector's range is smaller than the number of tones (15)
abbrev pub open_refusal : ℕ → ℕ → ℕ → ℕ → ℕ → ℕ → Option ℕ
open_refusal tones range long width height stages =
    if limits width height stages
    then (if long == room (fresh width height stages)
    then (if nat_le tones range then None else Some 15)
    else Some 14)
    else Some 13
