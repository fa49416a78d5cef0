-- What the name of a line and the words after it say. Assumes nothing.
use Rattle.std.specs.Prelude.{◌≡◌, ℕ, ◌≤◌, List, length, drop, codes, encode_utf8}
use Rattle.std.specs.Char.{IsScalar}
use Rattle.std.specs.Int.{w32}
use Rattle.selectors.specs.Played.{name_of}
use Rattle.selectors.specs.declared.calls.SelectorCall.{SelectorCall}
use Rattle.selectors.specs.declared.calls.SelectorCall.TheVariants.{Put, Total, Select, Empty}
use Rattle.recipes.specs.Parts.{part_name}
use Rattle.scripts.specs.Words.{Rest, Natural, Integer, word, tones_name}
use Rattle.scripts.specs.declared.commands.Choice.{Choice}
use Rattle.scripts.specs.declared.commands.Edit.{Edit}
use Rattle.scripts.specs.declared.commands.Edit.TheVariants.{Element, Place, Amount, Order, Standard}
use Rattle.scripts.specs.declared.commands.Drafting.{Drafting}
use Rattle.scripts.specs.declared.commands.Drafting.TheVariants.{Begin, Step}
use Rattle.scripts.specs.declared.commands.CardCall.{CardCall}
use Rattle.scripts.specs.declared.commands.CardCall.TheVariants.{Open, Install, Patch, Work, Row, Left, Due, Residue, Tone}
use Rattle.scripts.specs.declared.commands.FileCall.{FileCall}
use Rattle.scripts.specs.declared.commands.FileCall.TheVariants.{Write, Save, Load}
use Rattle.scripts.specs.declared.commands.TheConstants.{MOST_ROOM}
use Rattle.scripts.specs.declared.commands.Command.{Command}
use Rattle.scripts.specs.declared.commands.Command.TheVariants.{Choose, OnElement, OnDraft, OnCard, OnFile, OnSelector}

-- a name with so many words after it
abbrev pub Named : List ℕ → Rest → List ℕ → ℕ → Type 0
Named name ws this n = (name ≡ this) × (length ws ≡ n)

-- a name with so many words after it, or more
abbrev pub Begins : List ℕ → Rest → List ℕ → ℕ → Type 0
Begins name ws this n = (name ≡ this) × (n ≤ length ws)

-- a card is chosen
abbrev pub Chooses : List ℕ → Rest → Choice → Type 0
Chooses name ws c = Named name ws (codes "card") 2
    × (word ws 0 ≡ tones_name c.tones) × (word ws 1 ≡ name_of c.selector)

-- a call on an element
abbrev pub Edits : List ℕ → Rest → Edit → Type 0
Edits name ws Element = Named name ws (codes "element") 0
Edits name ws (Place dx dy p a) = Named name ws (codes "place") 4
    × Integer w32 (word ws 0) dx × Integer w32 (word ws 1) dy
    × (word ws 2 ≡ part_name p) × Integer w32 (word ws 3) a
Edits name ws (Amount dx dy a) = Named name ws (codes "amount") 3
    × Integer w32 (word ws 0) dx × Integer w32 (word ws 1) dy × Integer w32 (word ws 2) a
Edits name ws (Order k) = Named name ws (codes "order") 1 × Natural 32 (word ws 0) k
Edits name ws (Standard i) = Named name ws (codes "standard") 1 × Natural 32 (word ws 0) i

-- a call on a draft
abbrev pub Drafts : List ℕ → Rest → Drafting → Type 0
Drafts name ws (Begin n) = Named name ws (codes "begin") 1 × Natural 64 (word ws 0) n
Drafts name ws (Step l) = Named name ws (codes "step") 1 × IsScalar l × (word ws 0 ≡ encode_utf8 l)

-- a call on a card: the words of the rows of open and patch, and of the parts of a tone come last
abbrev pub Calls : List ℕ → Rest → CardCall → Type 0
Calls name ws (Open o rows) = Begins name ws (codes "open") 3
    × Natural 64 (word ws 0) o.width × Natural 64 (word ws 1) o.height
    × Natural 64 (word ws 2) o.stages × (rows.now ≡ drop 3 ws)
Calls name ws Install = Named name ws (codes "install") 0
Calls name ws (Patch p rows) = Begins name ws (codes "patch") 4
    × Natural 64 (word ws 0) p.x × Natural 64 (word ws 1) p.y
    × Natural 64 (word ws 2) p.width × Natural 64 (word ws 3) p.height × (rows.now ≡ drop 4 ws)
Calls name ws (Work b) = Named name ws (codes "work") 1 × Natural 64 (word ws 0) b
Calls name ws (Row x y n) = Named name ws (codes "row") 3
    × Natural 64 (word ws 0) x × Natural 64 (word ws 1) y × Natural 64 (word ws 2) n
Calls name ws Left = Named name ws (codes "left") 0
Calls name ws Due = Named name ws (codes "due") 0
Calls name ws Residue = Named name ws (codes "residue") 0
Calls name ws (Tone parts) = (name ≡ codes "tone") × (parts.now ≡ ws)

-- a word writes how many bytes are lent, no more than the most
abbrev pub IsRoom : List ℕ → ℕ → Type 0
IsRoom w n = Natural 64 w n × (n ≤ MOST_ROOM)

-- a call that makes a file or takes one: its path comes last
abbrev pub Files : List ℕ → Rest → FileCall → Type 0
Files name ws (Write room) = Named name ws (codes "write") 1 × IsRoom (word ws 0) room
Files name ws (Save path) = Named name ws (codes "save") 1 × (path.now ≡ word ws 0)
Files name ws (Load x y path) = Named name ws (codes "load") 3
    × Natural 64 (word ws 0) x × Natural 64 (word ws 1) y × (path.now ≡ word ws 2)

-- a call on a selector
abbrev pub Ranks : List ℕ → Rest → SelectorCall → Type 0
Ranks name ws (Put c a) = Named name ws (codes "put") 2
    × Natural 32 (word ws 0) c × Natural 32 (word ws 1) a
Ranks name ws Total = Named name ws (codes "total") 0
Ranks name ws (Select r) = Named name ws (codes "select") 1 × Natural 32 (word ws 0) r
Ranks name ws Empty = Named name ws (codes "empty") 0

-- a command
abbrev pub Says : List ℕ → Rest → Command → Type 0
Says name ws (Choose c) = Chooses name ws c
Says name ws (OnElement e) = Edits name ws e
Says name ws (OnDraft d) = Drafts name ws d
Says name ws (OnCard c) = Calls name ws c
Says name ws (OnFile f) = Files name ws f
Says name ws (OnSelector r) = Ranks name ws r
