use Rattle.std.proofs.Common.{subst}
use Rattle.std.specs.List.{AllByRecursion}
use Rattle.saber_partial.specs.Ones.{IsOne}
use Rattle.saber_partial.proofs.OneRows.{all_ones}
use Rattle.saber_partial.proofs.ones.Ones.are_ones.Goals as goal

pub returns : goal.returns
returns c =
    let t = c.self.inside.groups in
    subst (AllByRecursion IsOne) c.self.view_is (all_ones t.layout t.entries c.has_one_layout.ensures.each c.self.invariant)
