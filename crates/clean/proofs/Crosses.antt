-- Elements with the same places and the same order erode alike.
use Rattle.std.proofs.Common.{◌≡◌, ℕ, cond, ◌&&◌, eqb, List, [], ◌∷◌, sym, refl, ap, ◌∙◌, arith}
use mathlib.Core.Path.{fun_ext}
use Rattle.planes.specs.declared.size.Size.{Size}
use Rattle.recipes.specs.Placed.{placed}
use Rattle.recipes.specs.Recipes.{eroding}
use Rattle.recipes.specs.declared.element.Element.{Element}
use Rattle.recipes.specs.declared.places.Place.{Place}
use Rattle.stages.specs.Stages.{weight, inside, code_at, adds, window, ranked_code, cleaned}
use Rattle.filters.specs.Restaging.{lines}
use Rattle.tones.specs.Greys.{greys}
use Rattle.clean.specs.Cleaning.{CrossOfOrder2, Shades, eroded, pictured}

module _ (d e : Element) (order : d.order ≡ e.order) (s : Size) (f : Shades) (x y : ℕ) where
  window_alike : (ps : List Place) (c : ℕ) → window greys s (eroding d) f x y ps c ≡ window greys s (eroding e) f x y ps c
  unfolding window
  window_alike [] c = refl
  window_alike (p ∷ ps) c =
      let here : adds greys s (eroding d) f x y p c ≡ adds greys s (eroding e) f x y p c = ap (λ k. cond {A = ℕ} (inside greys s (eroding e) f x y p && eqb (code_at greys s (eroding e) f x y p) c) (weight k p) 0) order in
      omega (arith, here, window_alike ps c)

  cleaned_alike : placed d ≡ placed e → cleaned greys s (eroding d) f x y ≡ cleaned greys s (eroding e) f x y
  unfolding cleaned
  cleaned_alike places =
      ap (λ b. greys.tone (ranked_code b d.order 256)) (fun_ext (λ c. window_alike (placed d) c ∙ ap (λ ps. window greys s (eroding e) f x y ps c) places))
      ∙ ap (λ k. greys.tone (ranked_code (λ c. window greys s (eroding e) f x y (placed e) c) k 256)) order

-- so every cross of order 2 gives the same tones
pub eroded_alike : (d e : Element) → CrossOfOrder2 d → CrossOfOrder2 e → (s : Size) (samples : List ℕ) → eroded d s samples ≡ eroded e s samples
eroded_alike d e p q s samples =
    ap (λ (f : Shades). lines greys s f s.height) (fun_ext (λ x. fun_ext (λ y. cleaned_alike d e (p.order ∙ sym q.order) s (pictured s samples) x y (p.places ∙ sym q.places))))
