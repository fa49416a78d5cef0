use Rattle.std.proofs.Common.{rules}
use Rattle.scripts.specs.Lines.{Calls}
use Rattle.scripts.specs.declared.commands.CardCall.TheVariants.{Open, Install, Patch, Work, Row, Left, Due, Residue, Tone}
use Rattle.scripts.proofs.reading.read_call.Goals as goal
use Rattle.scripts.proofs.reading.read_call.Goals.{in_default-via-in-open-0+then-rest-lt3, in_default-via-in-install-0+else-this-lt1, in_default-via-in-patch-0+then-this-lt4, in_default-via-in-work-0+then-this-lt1-2, in_default-via-in-work-0+else-this-lt1-2+else-this-lt2, in_default-via-in-row-0+then-this-lt3, in_default-via-in-row-0+else-this-lt3+else-this-lt4-2, in_default-via-in-left-0+else-this-lt1-3, in_default-via-in-due-0+else-this-lt1-4, in_default-via-in-residue-0+else-this-lt1-5, in_default-via-in_default}

pub returns-in_default : goal.returns-in_default
returns-in_default c =
    elim c.in_default.branch as (λ _. (a : _) → Calls c.args.name.now c.args.rest.now a → ⊥) [
      | in_default-via-in-open-0+then-rest-lt3 w ↦ search rules
      | in_default-via-in-install-0+else-this-lt1 w ↦ search rules
      | in_default-via-in-patch-0+then-this-lt4 w ↦ search rules
      | in_default-via-in-work-0+then-this-lt1-2 w ↦ search rules
      | in_default-via-in-work-0+else-this-lt1-2+else-this-lt2 w ↦ search rules
      | in_default-via-in-row-0+then-this-lt3 w ↦ search rules
      | in_default-via-in-row-0+else-this-lt3+else-this-lt4-2 w ↦ search rules
      | in_default-via-in-left-0+else-this-lt1-3 w ↦ search rules
      | in_default-via-in-due-0+else-this-lt1-4 w ↦ search rules
      | in_default-via-in-residue-0+else-this-lt1-5 w ↦ search rules
      | in_default-via-in_default w ↦
          λ a. elim a as (λ a. Calls c.args.name.now c.args.rest.now a → ⊥) [
            | Open o rows ↦ search rules
            | Install ↦ search rules
            | Patch p rows ↦ search rules
            | Work b ↦ search rules
            | Row x y n ↦ search rules
            | Left ↦ search rules
            | Due ↦ search rules
            | Residue ↦ search rules
            | Tone parts ↦ search rules
          ]
    ]
