-- What a seat hands in for a task.
use Rattle.std.specs.Prelude.{ℕ, Option, Some, None}

-- the piece of a task, or the mark of want of memory
abbrev pub IsPieceOrMark : {Data Piece : Type 0} → (Data → ℕ → Piece → Type 0) → Data → ℕ → Option Piece → Type 0
IsPieceOrMark is_piece told task None = Unit {0}
IsPieceOrMark is_piece told task (Some piece) = is_piece told task piece
