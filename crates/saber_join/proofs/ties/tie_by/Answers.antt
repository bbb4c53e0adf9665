use Rattle.std.proofs.Common.{IfSome, sym, ap, subst, ◌∙◌}
use Rattle.saber_plan.specs.Trees.{Test, compare, test_of}
use Rattle.saber_join.specs.Ties.{TiesTest}
use Rattle.saber_join.proofs.Tying.{compare_shape}
use Rattle.saber_join.proofs.ties.tie_by.Goals as goal

pub returns-in-Equal : goal.returns-in-Equal
returns-in-Equal c =
    let x = c.in-Compare.x in
    let y = c.in-Compare.y in
    let is = ap test_of c.in-Compare.is ∙ compare_shape x c.in-Compare.cmp y ∙ ap (λ k. compare x k y) c.in-Equal.is in
    subst (λ (u : Test). IfSome c.tied.result (λ t. TiesTest u t)) (sym is) c.tied.ensures
