use Rattle.std.proofs.Common.{◌∙◌, sym}
use Rattle.saber_top.proofs.QueryLemmas.{columns_first}
use Rattle.saber_top.proofs.plans.columns_of.Goals as goal

pub returns : goal.returns
returns c = columns_first _ _ _ (sym c.streams.ensures.is ∙ c.in-Some.ensures.cases.0)
