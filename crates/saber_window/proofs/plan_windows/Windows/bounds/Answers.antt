use Rattle.std.proofs.Common.{subst}
use Rattle.saber_plan.specs.Windows.{Fits}
use Rattle.saber_window.proofs.KindLaws.{are_bounds}
use Rattle.saber_window.proofs.plan_windows.Windows.bounds.Goals as goal

pub returns : goal.returns
returns c =
    let fits = subst Fits c.self.view_is c.self.invariant in
    are_bounds c.args.self.now fits c.args.a.now c.args.b.now _ c.begun_below.ensures.count c.closed_below.ensures.count
