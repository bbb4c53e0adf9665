use Rattle.crossbeam_queue.specs.Passes.{view}
use Rattle.saber_pipe.specs.Outboxes.{kept_of}
use Rattle.saber_pipe.proofs.Sendings.{promises_all}
use Rattle.saber_pipe.proofs.outbox.Outbox.promise.Goals as goal

pub another-told-requires-clause-rule : goal.another-told-requires-clause-rule
another-told-requires-clause-rule g c =
    promises_all c.args.self.now.end.id (view c.args.self.now.end) (kept_of c.args.self.now) c.args.mark g.J.Promise.whole c.args.self.now.may c.requires.open c.args.self.now.unended c.args.self.now.pieces c.requires.named
