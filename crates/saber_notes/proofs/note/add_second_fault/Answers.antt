use Rattle.std.proofs.Common.{append_assoc}
use Rattle.saber_notes.proofs.note.add_second_fault.Goals as goal

pub returns-clause-bytes : goal.returns-clause-bytes
returns-clause-bytes c = rw (c.add-3.ensures, c.query_text.ensures.text, c.add-2.ensures, c.add_number.ensures.bytes, c.add.ensures) (simp append_assoc)
