-- What a line has so far.
use Rattle.std.specs.Prelude.{ℕ, List}
use Rattle.saber_notes.specs.declared.line.Line.{Line}

abbrev pub bytes_of : Line → List ℕ
bytes_of l = l.text.bytes
