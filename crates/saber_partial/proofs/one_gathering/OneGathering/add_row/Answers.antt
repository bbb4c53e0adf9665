use Rattle.std.proofs.Common.{◌∷◌, [], sym, subst}
use Rattle.saber_plan.specs.Parts.{Part, group_part}
use Rattle.saber_plan.specs.Trees.{tree_of}
use Rattle.saber_partial.specs.Ones.{AreOf}
use Rattle.saber_partial.specs.Tallies.{CanMerge}
use Rattle.saber_partial.proofs.Makings.{begun_done, begun_last, done_still, joined_some, last_begun, new_done, new_last}
use Rattle.saber_partial.proofs.one_gathering.OneGathering.add_row.Goals as goal

pub add_row-requires-clause-some : goal.add_row-requires-clause-some
add_row-requires-clause-some c = c.self.invariant c.if-self.true

pub add_row-requires-clause-room : goal.add_row-requires-clause-room
add_row-requires-clause-room c =
    let p = group_part (tree_of c.args.aggregates.now) (c.args.row.now.values ∷ []) in
    subst (λ (x : Part). CanMerge x p) (sym (last_begun c.self.inside.begun c.self.inside.parts c.args.self.now c.self.view_is c.if-self.true)) c.requires.room

pub returns-then-self-clause-done : goal.returns-then-self-clause-done
returns-then-self-clause-done c =
    let p = group_part (tree_of c.args.aggregates.now) (c.args.row.now.values ∷ []) in
    begun_done c.self.inside.begun c.self.inside.parts c.add_row.new.self p c.args.self.now c.self.view_is c.if-self.true (c.self.invariant c.if-self.true) c.add_row.ensures

pub returns-then-self-clause-last : goal.returns-then-self-clause-last
returns-then-self-clause-last c =
    let p = group_part (tree_of c.args.aggregates.now) (c.args.row.now.values ∷ []) in
    begun_last c.self.inside.begun c.self.inside.parts c.add_row.new.self p c.args.self.now c.self.view_is c.if-self.true (c.self.invariant c.if-self.true) c.add_row.ensures

pub push_row-requires-clause-others : goal.push_row-requires-clause-others
push_row-requires-clause-others c =
    subst (AreOf (tree_of c.args.aggregates.now)) (sym (done_still c.self.inside.begun c.self.inside.parts c.args.self.now c.self.view_is c.if-self.false)) c.requires.others

pub invariant_of-self : goal.invariant_of-self
invariant_of-self c = λ begun.
    let p = group_part (tree_of c.args.aggregates.now) (c.args.row.now.values ∷ []) in
    joined_some c.self.inside.parts c.add_row.new.self p (c.self.invariant c.if-self.true) c.add_row.ensures

pub returns-clause-done : goal.returns-clause-done
returns-clause-done c =
    let p = group_part (tree_of c.args.aggregates.now) (c.args.row.now.values ∷ []) in
    new_done c.self.inside.begun c.self.inside.parts c.push_row.new.self p c.args.self.now c.self.view_is c.if-self.false c.in_ok-push_row.ensures.ok

pub returns-clause-last : goal.returns-clause-last
returns-clause-last c =
    let p = group_part (tree_of c.args.aggregates.now) (c.args.row.now.values ∷ []) in
    new_last c.self.inside.begun c.self.inside.parts c.push_row.new.self p c.args.self.now c.self.view_is c.if-self.false c.in_ok-push_row.ensures.ok
