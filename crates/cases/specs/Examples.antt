-- Worked examples, over the definitions that the contracts cite. Assumes nothing.
use Rattle.std.specs.Prelude.{◌≡◌, ℕ, ◌≤◌, [], ◌∷◌, ◌++◌, length, ℤ, pos, negsuc, Some, None, Ok, Err, Result, MatchResult}
use Rattle.calls.specs.Calls.{Open, refusal}
use Rattle.calls.specs.Calls.Answer.{Done, Number, Piece, Next, Refused, Met}
use Rattle.calls.specs.Calls.Call.{Install, Work, Row, Left, Due}
use Rattle.calls.specs.History.{History, noted}
use Rattle.calls.specs.Opening.{open_refusal}
use Rattle.calls.specs.Outcomes.{answer_open, drafted, install_refusal}
use Rattle.calls.specs.Refusals.{refusal_number}
use Rattle.calls.specs.Residue.{difference, residue_after, residue_answer}
use Rattle.calls.specs.Runs.{IsRight}
use Rattle.calls.specs.declared.refusals.Refusal.TheVariants.{Stale}
use Rattle.planes.specs.declared.size.Size.{Size}
use Rattle.recipes.specs.Drafts.{letter_of, steps_of, declared_by}
use Rattle.recipes.specs.Edits.{order_refusal}
use Rattle.recipes.specs.Recipes.{Finished, staged}
use Rattle.recipes.specs.Refusals.{draft_number}
use Rattle.recipes.specs.Shapes.{shape_of, standard_places}
use Rattle.recipes.specs.declared.draft.Draft.{Draft}
use Rattle.recipes.specs.declared.draft.Letter.TheVariants as letter
use Rattle.recipes.specs.declared.recipe.Operation.TheVariants.{Dilation}
use Rattle.recipes.specs.declared.recipe.Recipe.{Recipe}
use Rattle.recipes.specs.declared.refusals.DraftRefusal.{DraftRefusal}
use Rattle.recipes.specs.declared.refusals.DraftRefusal.TheVariants.{TooFew}
use Rattle.recipes.specs.declared.shapes.Shape.TheVariants.{Cross}
use Rattle.selectors.specs.Bag.{added}
use Rattle.selectors.specs.Calls.{Selected, select_number}
use Rattle.selectors.specs.declared.refusals.SelectRefusal.{SelectRefusal}
use Rattle.selectors.specs.declared.refusals.SelectRefusal.TheVariants.{Unranked}
use Rattle.stages.specs.Planes.{picture}
use Rattle.stages.specs.Stages.{Picture, made, shifted}
use Rattle.cases.specs.Patches.{PatchExamples}
use Rattle.cases.specs.Refused.{RefusalExamples}
use Rattle.cases.specs.Written.{FileExamples, HeaderExamples}
use Rattle.tones.specs.Colours.{colour, colours, parts, Making}
use Rattle.tones.specs.Greys.{greys}
use Rattle.tones.specs.Refusals.{refusal_number as tone_number}
use Rattle.tones.specs.Reliefs.{reliefs}
use Rattle.tones.specs.declared.colours.Colour.{Colour}
use Rattle.tones.specs.declared.greys.Grey.{Grey}
use Rattle.tones.specs.declared.reliefs.Relief.{Relief}
use Rattle.tones.specs.declared.refusals.ToneRefusal.{ToneRefusal}
use Rattle.tones.specs.declared.refusals.ToneRefusal.TheVariants.{OutsideLimits}
use Rattle.cases.specs.Sides.{SideExamples, SkewExamples}
use Rattle.cases.specs.Samples.{CCross, DCross, ECross, OCross, DRaising, Makes, after, answer, card, cleared, corner, cross_places, eroded, fresh_card, fresh_for_two, one, one_pixel, one_stage, opened, tens, three, two_stages}

-- the weights 5:2, 7:3 and 9:1
abbrev pub weighed : ℕ → ℕ
weighed = added (added (added (λ c. 0) 5 2) 7 3) 9 1

-- the one answer at a rank, of a selector with those weights and any range that has the codes
abbrev pub AtRank : ℕ → Result ℕ SelectRefusal → Type 0
AtRank r x =
    (range : ℕ) → 10 ≤ range → Selected weighed range r x
    × ((y : Result ℕ SelectRefusal) → Selected weighed range r y → y ≡ x)

pub record SelectorExamples : Type 0 where
  -- ranks 2, 3, 5 and 6 give 5, 7, 7 and 9
  pub rank_2 : AtRank 2 (Ok 5)
  pub rank_3 : AtRank 3 (Ok 7)
  pub rank_5 : AtRank 5 (Ok 7)
  pub rank_6 : AtRank 6 (Ok 9)
  -- ranks 0 and 7 are refused with 5
  pub rank_0 : AtRank 0 (Err Unranked)
  pub rank_7 : AtRank 7 (Err Unranked)
  pub number : select_number Unranked ≡ 5

-- three parts make a colour, and whatever making it gives has that code
abbrev pub HasCode : ℕ → ℕ → ℕ → ℕ → Type 0
HasCode hue saturation brightness n =
    Making (parts hue saturation brightness) (Ok (colour hue saturation brightness))
    × ((r : Result Colour ToneRefusal) → Making (parts hue saturation brightness) r
    → MatchResult r (λ c. colours.code c ≡ n) (λ e. ⊥))

-- three parts are refused with that number, and making them gives nothing else
abbrev pub RefusedWith : ℕ → ℕ → ℕ → ℕ → Type 0
RefusedWith hue saturation brightness n =
    Making (parts hue saturation brightness) (Err OutsideLimits)
    × ((r : Result Colour ToneRefusal) → Making (parts hue saturation brightness) r
    → MatchResult r (λ c. ⊥) (λ e. tone_number e ≡ n))

pub record ColourExamples : Type 0 where
  -- hue, saturation and brightness 0, 255, 0 have code 0; 120, 200, 10 have 941,520; 359, 0, 255 have 23,592,959
  pub first : HasCode 0 255 0 0
  pub middle : HasCode 120 200 10 941520
  pub last : HasCode 359 0 255 23592959
  -- a hue of 360 is refused with 1
  pub hue_360 : (saturation brightness : ℕ) → RefusedWith 360 saturation brightness 1

pub record ToneExamples : Type 0 where
  -- the grey 3 lowered by 5 is 0
  pub lowered : (t : Grey) → t.level ≡ 3 → (greys.lowered t (pos 5)).level ≡ 0
  -- the grey 250 raised by 10, as a dilation raises it, is 255
  pub raised : (t : Grey) → t.level ≡ 250 → (shifted greys Dilation t (pos 10)).level ≡ 255
  -- the relief -250 lowered by 10 is -255
  pub relief :
      (t : Relief) → t.height ≡ negsuc 249 → (reliefs.lowered t (pos 10)).height ≡ negsuc 254

pub record OrderExamples : Type 0 where
  -- shape 0 is the cross
  pub shape : shape_of 0 ≡ Some Cross
  pub places : standard_places Cross ≡ cross_places
  -- it takes order 2
  pub order_2 : order_refusal (standard_places Cross) 2 ≡ None
  -- orders 0 and 3 are refused with 10
  pub order_0 : order_refusal (standard_places Cross) 0 ≡ Some 10
  pub order_3 : order_refusal (standard_places Cross) 3 ≡ Some 10

-- E with the cross of order 2 on the card 10 20 30 / 40 50 60 / 70 80 90 makes
-- 10 20 30 / 40 40 50 / 70 70 80
pub record ErosionExamples (d : Draft) : Type 0 where
  pub makes : Makes (10 ∷ 20 ∷ 30 ∷ 40 ∷ 40 ∷ 50 ∷ 70 ∷ 70 ∷ 80 ∷ []) d

-- D makes 20 30 30 / 50 60 60 / 70 80 90
pub record DilationExamples (d : Draft) : Type 0 where
  pub makes : Makes (20 ∷ 30 ∷ 30 ∷ 50 ∷ 60 ∷ 60 ∷ 70 ∷ 80 ∷ 90 ∷ []) d

-- O makes 20 30 30 / 40 50 50 / 70 70 80
pub record OpeningExamples (d : Draft) : Type 0 where
  pub makes : Makes (20 ∷ 30 ∷ 30 ∷ 40 ∷ 50 ∷ 50 ∷ 70 ∷ 70 ∷ 80 ∷ []) d

-- C makes 20 30 30 / 50 50 60 / 70 70 80
pub record ClosingExamples (d : Draft) : Type 0 where
  pub makes : Makes (20 ∷ 30 ∷ 30 ∷ 50 ∷ 50 ∷ 60 ∷ 70 ∷ 70 ∷ 80 ∷ []) d

-- a card with E of the cross, whatever its selector holds and whatever tone is patched
pub record OneStageExamples (d : Draft) (w : ℕ → ℕ) (t : ℕ) : Type 0 where
  -- an open with memory for one stage is not refused
  pub opens : open_refusal 256 512 18 3 3 1 ≡ None
  -- an install is done, and a work of 9 redoes the three rows: plane 1 is then
  -- 10 20 30 / 40 40 50 / 70 70 80, and nothing is stale
  pub installs : answer (fresh_card w) (Install d) ≡ Done
  pub works : answer (after (fresh_card w) (Install d)) (Work 9) ≡ Number 3
  pub notes : (cleared (fresh_card w) d).notes ≡ (one_stage w d).notes
  pub memory :
      (cleared (fresh_card w) d).memory
      ≡ tens ++ (10 ∷ 20 ∷ 30 ∷ 40 ∷ 40 ∷ 50 ∷ 70 ∷ 70 ∷ 80 ∷ [])
  pub clean : answer (one_stage w d) Left ≡ Number 0
  -- a patch of the top left pixel is done, and leaves 2 rows
  pub patch : answer (one_stage w d) (corner t) ≡ Done
  pub left : answer (after (one_stage w d) (corner t)) Left ≡ Number 2
  -- row 0 of stage 1 is due
  pub due : answer (after (one_stage w d) (corner t)) Due ≡ Next (Some (1, 0))
  -- the pixel (0, 0) is refused with 22 and column 0
  pub stale_pixel : answer (after (one_stage w d) (corner t)) (Row 0 0 1) ≡ Met 0
  pub met : refusal {R = ℕ} (Stale 0) ≡ Met 0
  pub number : refusal_number (Stale 0) ≡ 22
  -- the pixel (2, 0) is handed out, and is 30
  pub fresh_pixel : answer (after (one_stage w d) (corner t)) (Row 2 0 1) ≡ Piece (30 ∷ [])

-- a card with O of the cross
pub record TwoStageExamples (d : Draft) (w : ℕ → ℕ) (t : ℕ) : Type 0 where
  -- an open with memory for two stages is not refused
  pub opens : open_refusal 256 512 27 3 3 2 ≡ None
  -- an install is done, and a work of 9 redoes three rows of each stage: plane 1 is then what E
  -- makes, plane 2 what O makes, and nothing is stale
  pub installs : answer (fresh_for_two w) (Install d) ≡ Done
  pub works : answer (after (fresh_for_two w) (Install d)) (Work 9) ≡ Number 6
  pub notes : (cleared (fresh_for_two w) d).notes ≡ (two_stages w d).notes
  pub planes : (cleared (fresh_for_two w) d).memory ≡ tens ++ (eroded ++ opened)
  pub clean : answer (two_stages w d) Left ≡ Number 0
  -- a patch of the top left pixel leaves 5 rows: 2 of stage 1 and 3 of stage 2
  pub left : answer (after (two_stages w d) (corner t)) Left ≡ Number 5
  pub due : answer (after (two_stages w d) (corner t)) Due ≡ Next (Some (1, 0))
  -- a work of 0 redoes none
  pub idle : answer (after (two_stages w d) (corner t)) (Work 0) ≡ Number 0
  pub still_left : answer (after (after (two_stages w d) (corner t)) (Work 0)) Left ≡ Number 5
  -- a work of 2 redoes the rows of stage 1, and then stage 2 is due
  pub some : answer (after (two_stages w d) (corner t)) (Work 2) ≡ Number 2
  pub due_next :
      answer (after (after (two_stages w d) (corner t)) (Work 2)) Due ≡ Next (Some (2, 0))
  -- a work of 9 redoes 5, and then nothing is left or due
  pub enough : answer (after (two_stages w d) (corner t)) (Work 9) ≡ Number 5
  pub none_left : answer (after (after (two_stages w d) (corner t)) (Work 9)) Left ≡ Number 0
  pub none_due : answer (after (after (two_stages w d) (corner t)) (Work 9)) Due ≡ Next None
  -- where the tone is 100, plane 1 is then 40 20 30 / 40 40 50 / 70 70 80, and plane 2 is
  -- 40 40 30 / 40 50 50 / 70 70 80
  pub memory : (after (after (two_stages w d) (corner 100)) (Work 9)).memory ≡
      (100 ∷ 20 ∷ 30 ∷ 40 ∷ 50 ∷ 60 ∷ 70 ∷ 80 ∷ 90 ∷ [])
      ++ (40 ∷ 20 ∷ 30 ∷ 40 ∷ 40 ∷ 50 ∷ 70 ∷ 70 ∷ 80 ∷ [])
      ++ (40 ∷ 40 ∷ 30 ∷ 40 ∷ 50 ∷ 50 ∷ 70 ∷ 70 ∷ 80 ∷ [])

-- the history of an install, a work of 9 that redid n rows, and a patch of the top left pixel with the tone t
abbrev pub history : Draft → ℕ → ℕ → History ℕ
history d n t = noted (corner t) Done (noted (Work 9) (Number n) (noted (Install d) Done []))

-- what the rules say after it, with E of the cross: the same as the card answers
pub record OneStageRules (d : Draft) (t : ℕ) : Type 0 where
  pub left : IsRight greys three 1 card (history d 3 t) Left (Number 2)
  pub due : IsRight greys three 1 card (history d 3 t) Due (Next (Some (1, 0)))
  pub stale_pixel : IsRight greys three 1 card (history d 3 t) (Row 0 0 1) (Met 0)
  pub fresh_pixel : IsRight greys three 1 card (history d 3 t) (Row 2 0 1) (Piece (30 ∷ []))

-- and with O of the cross
pub record TwoStageRules (d : Draft) (t : ℕ) : Type 0 where
  pub left : IsRight greys three 2 card (history d 6 t) Left (Number 5)
  pub idle : IsRight greys three 2 card (history d 6 t) (Work 0) (Number 0)
  pub enough : IsRight greys three 2 card (history d 6 t) (Work 9) (Number 5)
  pub none_left :
      IsRight greys three 2 card (noted (Work 9) (Number 5) (history d 6 t)) Left (Number 0)

-- a draft is refused with 19, by its finish, which gives nothing else, and by every card of greys
pub record IsTooShort (d : Draft) : Type 0 where
  pub short : Finished d (Err TooFew)
  pub finish :
      (r : Result Recipe DraftRefusal) → Finished d r
      → MatchResult r (λ k. ⊥) (λ e. draft_number e ≡ 19)
  pub refused : (span most : ℕ) → install_refusal span most d ≡ Some 19
  pub install : (o : Open ℕ) → answer_open greys o (Install d) ≡ Refused 19

-- a draft without steps makes the recipe without stages, which every card of greys takes, and of which the finished card is the raw card
pub record NoSteps (d : Draft) : Type 0 where
  pub finish :
      (r : Result Recipe DraftRefusal) → Finished d r
      → MatchResult r (λ k. staged k ≡ []) (λ e. ⊥)
  pub stages : drafted d ≡ []
  pub install : (o : Open ℕ) → answer_open greys o (Install d) ≡ Done
  pub makes : (size : Size) (f : Picture Grey) (x y : ℕ) → made greys size (drafted d) f x y ≡ f x y
  -- so row 1 of the card 10 20 30 / 40 50 60 / 70 80 90 is handed out as 40 50 60, and nothing is left
  pub row :
      (w : ℕ → ℕ)
      → answer (after (fresh_card w) (Install d)) (Row 0 1 3) ≡ Piece (40 ∷ 50 ∷ 60 ∷ [])
  pub left : (w : ℕ → ℕ) → answer (after (fresh_card w) (Install d)) Left ≡ Number 0

pub record DraftExamples : Type 0 where
  -- the letters E, D, O and C, and X, which is none
  pub erosion : letter_of 69 ≡ Some letter.Erosion
  pub dilation : letter_of 68 ≡ Some letter.Dilation
  pub opening : letter_of 79 ≡ Some letter.Opening
  pub closing : letter_of 67 ≡ Some letter.Closing
  pub unknown : letter_of 88 ≡ None
  -- two steps declared, and one there
  pub one_of_two : (d : Draft) → declared_by d ≡ 2 → length (steps_of d) ≡ 1 → IsTooShort d
  -- five steps declared, whatever steps are there
  pub five : (d : Draft) → declared_by d ≡ 5 → IsTooShort d
  -- none declared
  pub none : (d : Draft) → declared_by d ≡ 0 → NoSteps d

-- a card of one pixel with D of the amount 5 at the origin, whatever its selector holds
pub record ResidueExamples (d : Draft) (w : ℕ → ℕ) : Type 0 where
  -- the stage raises 20 to 25
  pub raises : (made greys one (drafted d) (picture greys one 0 (20 ∷ [])) 0 0).level ≡ 25
  -- raw 20 and finished 25 leave -5
  pub leaves : difference 20 25 ≡ negsuc 4
  -- the residue of the card is done, and -5 stands where any relief stood
  pub done : residue_answer (one_pixel w d).notes (one_pixel w d).memory 1 ≡ Done
  pub reliefs_after :
      (z : ℤ)
      → residue_after (one_pixel w d).notes (one_pixel w d).memory (z ∷ []) ≡ negsuc 4 ∷ []

-- there are such drafts
pub record DraftsThere : Type 0 where
  pub erosion : (d : Draft) × ECross d
  pub dilation : (d : Draft) × DCross d
  pub opening : (d : Draft) × OCross d
  pub closing : (d : Draft) × CCross d
  pub raising : (d : Draft) × DRaising d

pub record WorkedExamples : Type 0 where
  pub selectors : SelectorExamples
  pub colours : ColourExamples
  pub tones : ToneExamples
  pub orders : OrderExamples
  pub erosions : (d : Draft) → ECross d → ErosionExamples d
  pub dilations : (d : Draft) → DCross d → DilationExamples d
  pub openings : (d : Draft) → OCross d → OpeningExamples d
  pub closings : (d : Draft) → CCross d → ClosingExamples d
  pub sides : SideExamples
  pub one_stage_cards : (d : Draft) → ECross d → (w : ℕ → ℕ) (t : ℕ) → OneStageExamples d w t
  pub one_stage_rules : (d : Draft) → ECross d → (t : ℕ) → OneStageRules d t
  pub two_stage_cards : (d : Draft) → OCross d → (w : ℕ → ℕ) (t : ℕ) → TwoStageExamples d w t
  pub two_stage_rules : (d : Draft) → OCross d → (t : ℕ) → TwoStageRules d t
  pub skew_cards : SkewExamples
  pub patches : (w : ℕ → ℕ) → PatchExamples w
  pub refusals : (w : ℕ → ℕ) → RefusalExamples w
  pub headers : HeaderExamples
  pub files : (d : Draft) → ECross d → (w : ℕ → ℕ) (t : ℕ) → FileExamples d w t
  pub drafts : DraftExamples
  pub residues : (d : Draft) → DRaising d → (w : ℕ → ℕ) → ResidueExamples d w
  pub drafts_there : DraftsThere
