use Rattle.saber_pipe.specs.Outboxes.{sent_of, kept_of, whole_of}
use Rattle.saber_pipe.proofs.Sendings.{rest_of_kept}
use Rattle.saber_pipe.proofs.outbox.Outbox.send_all.Goals as goal

pub send_one-requires : goal.send_one-requires
send_one-requires g c =
    let was = c.loop.invariant in
    rest_of_kept (whole_of c.args.self.now) (whole_of c.loop.self) (sent_of c.args.self.now) (sent_of c.loop.self) (kept_of c.args.self.now) (kept_of c.loop.self) was.moved was.whole_is was.sent_is was.kept_is c.requires
