-- The number of each refusal, and its text. Assumes nothing.
use Rattle.std.specs.Prelude.{ℕ, List, ◌++◌, codes}
use Rattle.std.specs.Fmt.{decimal}
use Rattle.tones.specs.declared.refusals.ToneRefusal.{ToneRefusal}
use Rattle.tones.specs.declared.refusals.ToneRefusal.TheVariants.{OutsideLimits}

abbrev pub refusal_number : ToneRefusal → ℕ
refusal_number OutsideLimits = 1

-- the number, a colon and the cause
abbrev pub refusal_text : ToneRefusal → List ℕ
refusal_text e = decimal (refusal_number e) ++ codes ": a part is outside its limits"
