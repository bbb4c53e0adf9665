use Rattle.std.proofs.Common.{◌+◌, drop, ◌∙◌, ap, arith}
use Rattle.saber_sliding.proofs.Stacked.{drop_next}
use Rattle.saber_sliding.proofs.one_front.OneFront.pop.Goals as goal

pub returns : goal.returns
returns c = drop_next c.self.inside.stack c.self.inside.gone (c.self.inside.gone + 1) (omega arith) ∙ ap (drop 1) c.self.view_is
