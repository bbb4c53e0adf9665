use Rattle.std.proofs.Common.{List, ◌++◌, ◌∷◌, [], sym, subst, ◌∙◌, ap}
use Rattle.saber_plan.specs.Parts.{Part}
use Rattle.saber_partial.specs.Piles.{piled_part, CanPile}
use Rattle.saber_partial.proofs.PileFacts.{piled-push, can_push}
use Rattle.saber_partial.proofs.piles.put_row.Goals as goal

pub returns-clause-all : goal.returns-clause-all
returns-clause-all g c =
    let old = c.args.parts.now.items in
    ap piled_part c.in_ok-push.ensures.items ∙ ap (λ (p : Part). piled_part (old ++ p ∷ [])) c.in_ok-of_row_in.ensures ∙ piled-push old c.args.part.now

pub returns-clause-can : goal.returns-clause-can
returns-clause-can g c =
    let old = c.args.parts.now.items in
    subst CanPile (sym {A = List Part} c.in_ok-push.ensures.items) (subst (λ (p : Part). CanPile (old ++ p ∷ [])) (sym c.in_ok-of_row_in.ensures)
    (can_push old c.args.part.now c.requires.can c.requires.room))
