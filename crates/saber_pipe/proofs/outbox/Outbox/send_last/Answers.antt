use Rattle.saber_pipe.specs.declared.items.Item.{Item}
use Rattle.saber_pipe.specs.Outboxes.{sent_of, kept_of, whole_of}
use Rattle.saber_pipe.proofs.Relays.{sends, lasts}
use Rattle.saber_pipe.proofs.Sendings.{mark_to_send}
use Rattle.saber_pipe.proofs.outbox.Outbox.send_last.Goals as goal

pub push_as-requires-clause-rule : goal.push_as-requires-clause-rule
push_as-requires-clause-rule g c = (
  sends _ _ _ _ c.args.self.may c.args.self.unended (mark_to_send (whole_of c.args.self) (sent_of c.args.self) (kept_of c.args.self) (Item.Last c.args.mark) c.requires.may c.requires.empty),
  lasts _ _ c.args.self.may,
)
