-- Any refusal of the library: its number, and its text. Assumes nothing.
use Rattle.std.specs.Prelude.{ℕ, List}
use Rattle.selectors.specs.Median.{median_number, median_text}
use Rattle.selectors.specs.Played.{call_number, call_text}
use Rattle.tones.specs.Refusals.{refusal_number as tone_number, refusal_text as tone_text}
use Rattle.recipes.specs.Refusals.{element_number, element_text, draft_number, draft_text}
use Rattle.calls.specs.Refusals.{refusal_number, refusal_text}
use Rattle.cards.specs.Loading.{load_number, load_text}
use Rattle.cards.specs.declared.refused.AnyRefusal.{AnyRefusal}
use Rattle.cards.specs.declared.refused.AnyRefusal.TheVariants.{Tone, Selector, Median, Element, Draft, Card, Load}

-- the number of each refusal
abbrev pub any_number : AnyRefusal → ℕ
any_number (Tone e) = tone_number e
any_number (Selector e) = call_number e
any_number (Median e) = median_number e
any_number (Element e) = element_number e
any_number (Draft e) = draft_number e
any_number (Card e) = refusal_number e
any_number (Load e) = load_number e

-- its text: the number and the cause
abbrev pub any_text : AnyRefusal → List ℕ
any_text (Tone e) = tone_text e
any_text (Selector e) = call_text e
any_text (Median e) = median_text e
any_text (Element e) = element_text e
any_text (Draft e) = draft_text e
any_text (Card e) = refusal_text e
any_text (Load e) = load_text e
