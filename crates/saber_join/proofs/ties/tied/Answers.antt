use Rattle.std.proofs.Common.{subst₂, sym}
use Rattle.saber_plan.specs.declared.predicates.Cmp.TheVariants as cmps
use Rattle.saber_plan.specs.Trees.{compare}
use Rattle.saber_join.specs.Ties.{TiesTest}
use Rattle.saber_join.proofs.Tying.{ties_by, ties_back}
use Rattle.saber_join.proofs.ties.tied.Goals as goal

pub returns-then-is_right : goal.returns-then-is_right
returns-then-is_right c =
    subst₂ (λ l r. TiesTest (compare c.args.x.now cmps.Equal c.args.y.now) (record { left = l; right = r })) (sym c.end_of.ensures) (sym c.end_of-then-is_right.ensures)
    (ties_by c.args.x.now c.args.y.now (c.is_left.ensures c.if-is_left.true) (c.is_right.ensures c.if-is_right.true))

pub returns-then-is_right-2 : goal.returns-then-is_right-2
returns-then-is_right-2 c =
    subst₂ (λ l r. TiesTest (compare c.args.x.now cmps.Equal c.args.y.now) (record { left = l; right = r })) (sym c.end_of-then-is_right-2.ensures) (sym c.end_of-then-is_right-2-2.ensures)
    (ties_back c.args.x.now c.args.y.now (c.is_left-2.ensures c.if-is_left-2.true) (c.is_right-then-is_left-2.ensures c.if-is_right-2.true))
