-- The worked examples of selectors and colours.
use Rattle.std.proofs.Common.{◌≡◌, ℕ, suc, ◌+◌, ◌-◌, ◌*◌, ◌<◌, ◌≤◌, true, Ok, Err, Result, sym, refl, ap, ◌∙◌, inl, inr, true≢false, arith, lit<, lit≤, MatchResult}
use Rattle.std.proofs.lemmas.Bool.Decides.{nat_tests}
use Rattle.selectors.proofs.Ranks.{ranked_from, selected_one}
use Rattle.selectors.proofs.Sums.{below_cut}
use Rattle.selectors.specs.Bag.{below}
use Rattle.selectors.specs.Calls.{Selected}
use Rattle.selectors.specs.declared.refusals.SelectRefusal.{SelectRefusal}
use Rattle.selectors.specs.declared.refusals.SelectRefusal.TheVariants.{Unranked}
use Rattle.tones.specs.Colours.{Making, colours, is_colour_row, parts}
use Rattle.tones.specs.Refusals.{refusal_number}
use Rattle.tones.specs.declared.colours.Colour.{Colour}
use Rattle.tones.specs.declared.refusals.ToneRefusal.{ToneRefusal}
use Rattle.cases.specs.Examples.{AtRank, ColourExamples, SelectorExamples, weighed}

-- the codes weigh 6 together
sum_6 : (range : ℕ) → 10 ≤ range → below weighed range ≡ 6
unfolding below
sum_6 range h = below_cut weighed weighed 10 range h (λ i l. refl) (λ i l k. grind (arith, nat_tests))

at_rank : (r : ℕ) (x : Result ℕ SelectRefusal) → ((range : ℕ) → 10 ≤ range → Selected weighed range r x) → AtRank r x
at_rank r x s range h = (s range h, λ y q. selected_one weighed range r y x q (s range h))

-- where the running weight reaches the rank
reached : (r c : ℕ) → 0 < r → r ≤ 6 → below weighed c < r → r ≤ below weighed (suc c) → AtRank r (Ok c)
reached r c p l lo hi = at_rank r (Ok c) (λ range h. (p, omega (arith, l, sum_6 range h), ranked_from weighed r c lo hi))

pub selector_examples : SelectorExamples
unfolding below
selector_examples =
    record {
      rank_2 = reached 2 5 (lit< tt) (lit≤ tt) (lit< tt) (lit≤ tt);
      rank_3 = reached 3 7 (lit< tt) (lit≤ tt) (lit< tt) (lit≤ tt);
      rank_5 = reached 5 7 (lit< tt) (lit≤ tt) (lit< tt) (lit≤ tt);
      rank_6 = reached 6 9 (lit< tt) (lit≤ tt) (lit< tt) (lit≤ tt);
      rank_0 = at_rank 0 (Err Unranked) (λ range h. (refl, inl refl));
      rank_7 = at_rank 7 (Err Unranked) (λ range h. (refl, inr (omega (arith, sum_6 range h))));
      number = refl;
    }

-- parts within the limits are not refused, and the code is that of the parts
coded : (h s v : ℕ) → is_colour_row (parts h s v) ≡ true → (r : Result Colour ToneRefusal) → Making (parts h s v) r → MatchResult r (λ c. colours.code c ≡ (v * 256 + 255 - s) * 360 + h) (λ e. ⊥)
coded h s v l (Ok c) m = ap (λ r. (r.brightness * 256 + 255 - r.saturation) * 360 + r.hue) m
coded h s v l (Err e) m = absurd (true≢false (sym l ∙ m.1))

no_hue_360 : (s v : ℕ) (r : Result Colour ToneRefusal) → Making (parts 360 s v) r → MatchResult r (λ c. ⊥) (λ e. refusal_number e ≡ 1)
no_hue_360 s v (Ok c) m = let e : c.hue ≡ 360 = ap (λ r. r.hue) m in omega (arith, e, c.within.0)
no_hue_360 s v (Err e) m = m.0

pub colour_examples : ColourExamples
colour_examples =
    record {
      first = (refl, coded 0 255 0 refl);
      middle = (refl, coded 120 200 10 refl);
      last = (refl, coded 359 0 255 refl);
      hue_360 = λ s v. ((refl, refl), no_hue_360 s v);
    }
