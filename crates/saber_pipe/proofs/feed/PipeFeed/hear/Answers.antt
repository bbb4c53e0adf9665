use Rattle.saber_pipe.proofs.Relays.{merges, tells}
use Rattle.saber_pipe.proofs.feed.PipeFeed.hear.Goals as goal

pub another-told-requires-clause-rule : goal.another-told-requires-clause-rule
another-told-requires-clause-rule g c = tells _ _

pub absorb-requires-clause-rule : goal.absorb-requires-clause-rule
absorb-requires-clause-rule g c = merges _ _ _ _ c.args.self.now.may
