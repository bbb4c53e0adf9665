use Rattle.saber_pipe.specs.Outboxes.{sent_of, kept_of}
use Rattle.saber_pipe.specs.Receipts.{promised}
use Rattle.saber_pipe.proofs.Sendings.{mark_promised}
use Rattle.saber_pipe.proofs.sink.PipeSink.finish.Goals as goal

pub returns-clause-mark : goal.returns-clause-mark
returns-clause-mark g c = mark_promised (promised c.promise-receipt.result) (sent_of c.args.self.outbox) (kept_of c.args.self.outbox) c.args.mark c.args.self.outbox.unended c.args.self.outbox.pieces c.promise-receipt.ensures.receipt
