-- What a line of words does to a player and a workspace, and what it is answered. Assumes nothing.
use Rattle.cards.specs.Meanings.{selector_of}
use Rattle.std.specs.Prelude.{◌≡◌, ◌≢◌, ◌⊎◌, ℕ, List, [], ◌∷◌, false, true, Err, Result}
use Rattle.std.specs.Borrow.{Bor}
use Rattle.tones.specs.Kind.{Kind}
use Rattle.recipes.specs.Placed.{placed, order_of}
use Rattle.selectors.specs.Played.{bag_after}
use Rattle.scripts.specs.Workspaces.{Drafted, Edited, edit_order, edit_places}
use Rattle.scripts.specs.Lines.{Says}
use Rattle.scripts.specs.Words.{Rest}
use Rattle.scripts.specs.declared.answers.Answer.{Answer}
use Rattle.scripts.specs.declared.answers.Fault.{Fault}
use Rattle.scripts.specs.declared.answers.Fault.TheVariants.{Unknown}
use Rattle.scripts.specs.declared.commands.Command.{Command}
use Rattle.scripts.specs.declared.commands.Command.TheVariants.{Choose, OnElement, OnDraft, OnCard, OnFile, OnSelector}
use Rattle.scripts.specs.declared.workspace.Workspace.{Workspace}
use Rattle.std.specs.Str.{IsUtf8}
use Rattle.rehearse.specs.Cuts.{CutInto, is_comment}
use Rattle.rehearse.specs.Plays.{Filed, Made, Ranks, draft_after}
use Rattle.rehearse.specs.Seen.{Seen, stands}
use Rattle.scripts.specs.Scripted.{Scripted}
use Rattle.rehearse.specs.declared.session.Line.{Line}
use Rattle.rehearse.specs.declared.session.Line.TheVariants as line

-- the first word is a name, and it and the others say a command
abbrev pub Asks : Rest → Command → Type 0
Asks ws c =
    (name : Bor (List ℕ)) × (others : Rest) × (ws ≡ name ∷ others) × Says name.now others c

-- there are words, and they say no command
abbrev pub SaysNothing : Rest → Type 0
SaysNothing ws = (ws ≢ []) × ((c : Command) → Asks ws c → ⊥)

module _ {T R S : Type 0} (K : Kind T R) (W : Scripted R) (Zero : R → Type 0)
    (weight : S → ℕ → ℕ) (range : S → ℕ) where
  -- a command is played on a player and a workspace, and answered
  abbrev pub Commanded : Seen T R S → Workspace → Command
      → Result Answer Fault → Seen T R S → Workspace → Type 0
  Commanded p d (Choose c) r q e = ⊥
  Commanded p d (OnElement edit) r q e = (q ≡ p) × Edited (placed d.element) edit r
      × (placed e.element ≡ edit_places (placed d.element) edit)
      × (order_of e.element ≡ edit_order (placed d.element) (order_of d.element) edit)
      × (e.draft ≡ d.draft)
  Commanded p d (OnDraft drafting) r q e = (q ≡ p)
      × Drafted d.draft d.element drafting e.draft r × (e.element ≡ d.element)
  Commanded p d (OnSelector call) r q e = (e ≡ d)
      × (q.card ≡ p.card) × (q.memory ≡ p.memory) × (q.area ≡ p.area)
      × Ranks (weight p.own) (range p.own) call r
      × ((c : ℕ) → weight q.own c ≡ bag_after (weight p.own) (range p.own) call c)
  Commanded p d (OnFile call) r q e = (e ≡ d) × (q.own ≡ p.own) × (q.area ≡ p.area)
      × Filed W (stands weight p) call r (stands weight q)
  Commanded p d (OnCard call) r q e = (q.own ≡ p.own)
      × (e.element ≡ d.element) × (e.draft ≡ draft_after call d.draft)
      × Made K W Zero (range (selector_of p.card)) (stands weight p) p.area d.draft call r
      (stands weight q) q.area

  -- a line without words is passed over; one with words asks for another card, or is answered: its
  -- command is played, or it is not read
  abbrev pub Played : Rest → Seen T R S → Workspace → Line
      → Seen T R S → Workspace → Type 0
  Played ws p d line.Empty q e = (ws ≡ []) × (q ≡ p) × (e ≡ d)
  Played ws p d (line.Next c) q e = Asks ws (Choose c) × (q ≡ p) × (e ≡ d)
  Played ws p d (line.Answered r) q e =
      (SaysNothing ws × (r ≡ Err Unknown) × (q ≡ p) × (e ≡ d))
      ⊎ ((c : Command) × Asks ws c × Commanded p d c r q e)

  -- a text is played: the words that it is cut into; a line that is no text is not read
  abbrev pub TextPlayed : List ℕ → Seen T R S → Workspace → Line
      → Seen T R S → Workspace → Type 0
  TextPlayed bytes p d l q e =
      (¬ (IsUtf8 bytes) × (l ≡ line.Answered (Err Unknown)) × (q ≡ p) × (e ≡ d))
      ⊎ (IsUtf8 bytes × ((ws : Rest) × CutInto bytes ws × Played ws p d l q e))

  -- a line of these bytes is played: a comment is passed over, text or not
  abbrev pub LinePlayed : List ℕ → Seen T R S → Workspace → Line
      → Seen T R S → Workspace → Type 0
  LinePlayed bytes p d l q e =
      ((is_comment bytes ≡ true) × (l ≡ line.Empty) × (q ≡ p) × (e ≡ d))
      ⊎ ((is_comment bytes ≡ false) × TextPlayed bytes p d l q e)
