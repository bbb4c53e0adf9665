use Rattle.std.proofs.Common.{◌∙◌, nat_cmp, subst}
use Rattle.saber_plan.specs.declared.plans.Plan.{Plan}
use Rattle.saber_plan.specs.Trees.{tree_of}
use Rattle.saber_plan.specs.Facts.Trees.{sorted_seen}
use Rattle.saber_select.proofs.Finishing.{IsWindowed, handed_are}
use Rattle.saber_select.proofs.windowed.WindowedSelect.handed_of.Goals as goal

pub returns : goal.returns
returns c =
    let own = c.args.own.now in
    let inv = subst (λ (p : Plan). IsWindowed (tree_of p)) c.self.view_is (c.self.invariant.0, c.self.invariant.1, c.self.invariant.3) in
    let es = c.in_ok-found.found.0.entries in
    c.in_ok-piece.ensures
    ∙ handed_are (tree_of c.args.self.now) inv.0 inv.1 inv.2 own.before own.rows own.ended c.requires c.in_ok-found.found.1 c.in_ok-found.ensures.bounds es (sorted_seen nat_cmp (λ k. k) (λ x. x) es c.len-count.ensures.ordered) c.in_ok-found.ensures.windows
