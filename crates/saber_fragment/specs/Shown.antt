-- Pieces as the definitions see them.
use Rattle.std.specs.Prelude.{ℕ, List, map}
use Rattle.saber_plan.specs.Parts.{Part}
use Rattle.saber_plan.specs.Shares.{Shares}
use Rattle.saber_fragment.specs.declared.pieces.Piece.{Piece}

-- parts of windows, each by what it is for the definitions
abbrev pub windows_by : {P : Type 0} → (P → Part) → List (ℕ × P) → List (ℕ × Part)
windows_by shown es = map (λ e. (e.0, shown e.1)) es

abbrev pub shares_of : {P : Type 0} → (P → Part) → Piece P → Shares
shares_of shown p = record {
  closing = windows_by shown p.closing;
  pending = windows_by shown p.pending;
  opening = windows_by shown p.opening;
  lines = p.complete_text;
  closed = p.closed_below;
}
