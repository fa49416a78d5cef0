use Rattle.std.proofs.Common.{◌≡◌, sym, ap, ◌∙◌, subst}
use Rattle.recipes.specs.Shapes.{standard_places, Members}
use Rattle.recipes.proofs.Members.{shape_members}
use Rattle.recipes.proofs.element.Element.standard.Goals as goal

pub returns-clause-members : goal.returns-clause-members
returns-clause-members c = λ s e.
    let is : c.in_ok-try_from.field-0 ≡ s = cc (c.in_ok-try_from.ensures, e) in
    subst (Members s) (sym (c.element.ensures.places ∙ ap standard_places is)) (shape_members s)
