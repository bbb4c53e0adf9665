use Rattle.saber_partial.proofs.Makings.{all_done}
use Rattle.saber_partial.proofs.one_gathering.OneGathering.into_parts.Goals as goal

pub returns : goal.returns
returns c = all_done c.self.inside.begun c.self.inside.parts c.args.self c.self.view_is c.self.invariant c.are_ones.ensures c.requires
