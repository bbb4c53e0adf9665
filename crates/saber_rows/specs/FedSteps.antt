-- What one turn of a reader over a feed does.
use Rattle.std.specs.Prelude.{◌≡◌, ℕ, List, [], Option}
use Rattle.saber_io.specs.declared.feeds.EndMark.{EndMark}
use Rattle.saber_rows.specs.declared.lines.Turn.{Turn}
use Rattle.saber_rows.specs.declared.lines.Turn.TheVariants as turns
use Rattle.saber_rows.specs.Reader.{Reader, answer_of}
use Rattle.saber_rows.specs.FedTurns.{IsDry, IsKnown}

-- a refusal that stops the reader is known
abbrev pub StopsKnown : Turn → Reader → Type 0
StopsKnown (turns.Stop s) r = IsKnown (answer_of s) r
StopsKnown turns.Again r = Unit {0}
StopsKnown (turns.Row row) r = Unit {0}

-- nothing was there, and the reader stays
abbrev pub StaysDry : Reader → Reader → List ℕ → List ℕ → Option EndMark → Type 0
StaysDry old new had has mark = (new ≡ old) × (had ≡ []) × IsDry new has mark
