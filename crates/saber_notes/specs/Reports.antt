-- What a report has so far.
use Rattle.std.specs.Prelude.{ℕ, List}
use Rattle.saber_notes.specs.declared.report.Report.{Report}

abbrev pub notes_in : Report → List ℕ
notes_in r = r.text.bytes
