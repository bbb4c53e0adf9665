use Rattle.std.proofs.Common.{IfOk, ◌∙◌, ap, subst}
use Rattle.saber_plan.specs.Trees.{Tree, tree_of}
use Rattle.saber_fragment.specs.Drafts.{own_sight}
use Rattle.saber_changes.specs.Outputs.{way_by}
use Rattle.saber_group.specs.SlicePieces.{IsMade}
use Rattle.saber_group.proofs.Making.{pieces_are_made, slices_are_made}
use Rattle.saber_group.proofs.operator.GroupOperatorOperator.start.Goals as goal

pub returns-in-None : goal.returns-in-None
returns-in-None c =
    let own = own_sight c.args.own.now in
    let made = c.piece_uncounted.result in
    subst (λ (t : Tree). IfOk made (λ d. IsMade t own d)) (ap tree_of c.self.view_is)
    (pieces_are_made (tree_of c.self.inside.group) own made (c.self.invariant.0 ∙ ap way_by c.in-None.is) c.piece_uncounted.ensures.gives c.piece_uncounted.ensures.after)

pub returns-in-Some : goal.returns-in-Some
returns-in-Some c =
    let own = own_sight c.args.own.now in
    let made = c.all_slices.result in
    subst (λ (t : Tree). IfOk made (λ d. IsMade t own d)) (ap tree_of c.self.view_is)
    (slices_are_made (tree_of c.self.inside.group) own made c.all_slices.ensures.slices c.all_slices.ensures.none c.all_slices.ensures.after)
