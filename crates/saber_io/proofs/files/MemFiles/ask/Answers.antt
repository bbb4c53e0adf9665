use Rattle.saber_io.proofs.files.MemFiles.ask.Goals as goal

pub returns-clause-none : goal.returns-clause-none
returns-clause-none c = rw (← c.self.view_is, ← c.saturating_add-number.ensures, ← c.deref.ensures.value, ← c.deref-2.ensures.value) c.in_ok-source.ensures.none
