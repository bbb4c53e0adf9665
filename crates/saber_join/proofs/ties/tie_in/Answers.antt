use Rattle.std.proofs.Common.{IfSome, sym, subst, ◌∙◌, Some}
use Rattle.saber_plan.specs.Trees.{Both, Tests, both_of}
use Rattle.saber_join.specs.Ties.{TiesAll, TiesPairs}
use Rattle.saber_join.proofs.Tying.{where_one, where_some}
use Rattle.saber_join.proofs.ties.tie_in.Goals as goal

pub returns : goal.returns
returns c =
    let b = c.index-conjs-0.result in
    let whole = sym (where_one c.as_slice-conjs.result.now b c.if-conjs-ne1.false c.index-conjs-0.is) ∙ c.as_slice-conjs.ensures in
    let own = subst (λ (x : Both). IfSome c.tie_among.result (λ t. TiesAll x t)) c.as_slice.ensures c.tie_among.ensures in
    subst (λ (x : Tests). IfSome c.tie_among.result (λ t. TiesPairs (Some x) t)) whole (where_some c.tie_among.result (both_of b) own)
