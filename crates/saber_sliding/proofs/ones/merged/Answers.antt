use Rattle.std.proofs.Common.{sym, ◌∙◌}
use Rattle.saber_sliding.proofs.Stacked.{piled_is}
use Rattle.saber_sliding.proofs.ones.merged.Goals as goal

pub returns : goal.returns
returns c = (piled_is c.args.all.now c.requires ∙ sym c.part.ensures.is, c.part.ensures.one)
