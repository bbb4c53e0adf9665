use Rattle.std.proofs.Common.{append_assoc}
use Rattle.saber_notes.proofs.note.add_too_wide.Goals as goal

pub returns-clause-bytes : goal.returns-clause-bytes
returns-clause-bytes c = rw (c.add_count-3.ensures.bytes, c.add_count-2.ensures.bytes, c.add_count.ensures.bytes) (simp append_assoc)
