-- What windows give to a task's piece.
use Rattle.std.specs.Prelude.{ℕ, List, [], ◌∷◌, flat_map, Option, Some, Bool, if◌then◌else◌}
use Rattle.std.specs.Option.{option_map_or}
use Rattle.saber_plan.specs.declared.windows.Kind.{Kind}
use Rattle.saber_plan.specs.Trees.{Tree}
use Rattle.saber_plan.specs.Parts.{Part, part_lines}
use Rattle.saber_plan.specs.Tasks.{full, is_complete}
use Rattle.saber_plan.specs.Needs.{is_closing, is_pending, is_opening}
use Rattle.saber_plan.specs.Shares.{Shares, is_closed}
use Rattle.saber_window.specs.declared.bounds.Bounds.{Bounds}
use Rattle.saber_window.specs.Kinds.{kind_in}

-- its part, unless that is empty
abbrev pub entry : ℕ → Part → List (ℕ × Part)
entry i p = option_map_or (λ r. (i, r) ∷ []) (full p) []

abbrev pub entry_if : Bool → ℕ → Part → List (ℕ × Part)
entry_if wanted i p = if wanted then entry i p else []

-- its lines
abbrev pub lines_if : Bool → Tree → ℕ → Part → List ℕ
lines_if wanted q i p = if wanted then part_lines q i p else []

-- those of the windows of a kind, window by window
abbrev pub entries_by : (Option Kind → Bool) → Bounds → List (ℕ × Part) → List (ℕ × Part)
entries_by wanted b es = flat_map (λ e. entry_if (wanted (Some (kind_in b e.0))) e.0 e.1) es

abbrev pub lines_by : Tree → Bounds → List (ℕ × Part) → List ℕ
lines_by q b es = flat_map (λ e. lines_if (is_complete (Some (kind_in b e.0))) q e.0 e.1) es

-- the shares that these windows give, each by its kind
abbrev pub given_by : Tree → Bounds → List (ℕ × Part) → Shares
given_by q b es = record { closing = entries_by is_closing b es; pending = entries_by is_pending b es; opening = entries_by is_opening b es; lines = lines_by q b es; closed = b.closed_after }

-- and what they hand on: no line as yet, and the closed ones together
abbrev pub handed_by : Bounds → List (ℕ × Part) → Shares
handed_by b es = record { closing = entries_by is_closed b es; pending = entries_by is_pending b es; opening = entries_by is_opening b es; lines = []; closed = b.closed_after }
