use Rattle.std.proofs.Common.{◌≡◌, [], ◌∷◌, true, false, cond, ◌&&◌, sym, ◌∙◌, ap}
use Rattle.std.proofs.lemmas.Result.{IfOk-weaker}
use Rattle.saber_plan.specs.declared.plans.Plan.{Plan}
use Rattle.saber_plan.specs.Trees.{tree_of}
use Rattle.saber_plan.specs.Parts.{no_part, group_part, merge}
use Rattle.saber_plan.specs.Values.{passes}
use Rattle.saber_group.specs.SliceParts.{with_row}
use Rattle.saber_plan.specs.Facts.Parts.{merge-empty_left}
use Rattle.saber_group.proofs.group.Group.part_of_row.Goals as goal

pub returns-then-counts : goal.returns-then-counts
returns-then-counts c =
    let q = tree_of c.args.self.now in
    let row = c.args.row.now in
    let one = group_part q (row.values ∷ []) in
    let same : c.self.inside.aggregates ≡ c.args.self.now = c.self.invariant.3 ∙ c.self.view_is in
    let both : c.args.is_wanted && passes q.predicate row.values [] ≡ true = sym c.counts.ensures ∙ c.if-counts.true in
    let part : one ≡ with_row q c.args.is_wanted no_part row = sym (merge-empty_left one) ∙ ap (λ b. cond b (merge no_part one) no_part) (sym both) in
    IfOk-weaker c.of_row.result (λ p. p ≡ group_part (tree_of c.self.inside.aggregates) (row.values ∷ [])) (λ p. p ≡ with_row q c.args.is_wanted no_part row)
    (λ p h. h ∙ ap (λ (s : Plan). group_part (tree_of s) (row.values ∷ [])) same ∙ part) c.of_row.ensures

pub returns : goal.returns
returns c =
    let q = tree_of c.args.self.now in
    let row = c.args.row.now in
    let neither : c.args.is_wanted && passes q.predicate row.values [] ≡ false = sym c.counts.ensures ∙ c.if-counts.false in
    c.empty.ensures ∙ ap (λ b. cond b (merge no_part (group_part q (row.values ∷ []))) no_part) (sym neither)
