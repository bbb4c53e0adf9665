-- Laws of calls of a reader, one after another.
use Rattle.std.specs.Prelude.{◌≡◌, ℕ, List, Option, Result, option_map, ℤ}
use Rattle.saber_plan.specs.Rows.{Read}
use Rattle.saber_rows.specs.Reader.{Reader, rest_over}
use Rattle.saber_rows.specs.Calls.{Moves}
use Rattle.saber_plan.specs.declared.rows.Row.{Row}
use Rattle.saber_plan.specs.declared.rows.Side.{Side}
use Rattle.saber_rows.specs.declared.ends.RowEnd.{RowEnd}
use Rattle.saber_rows.specs.Heads.{bare, Called, SidePassed, LinePassed}
use Rattle.saber_rows.specs.Merging.{Merger, MergeMoves, merger_over}

-- what two calls do, one after the other, is what one does that gives what both give
abbrev pub MovesGoOn : Type 0
MovesGoOn =
    (f g : Read → Read) (a b c : Reader) (had mid has : Option (List ℕ)) → Moves f a b had mid → Moves g b c mid has
    → Moves (λ rest. f (g rest)) a c had has

-- a reader that isn't called stands
abbrev pub ReadersStand : Type 0
ReadersStand = (r : Reader) (had : Option (List ℕ)) → Moves (λ rest. rest) r r had had

-- over a source that tells, what a reader had to give is what its calls gave, and then what it has
abbrev pub ReadersTell : Type 0
ReadersTell = (f : Read → Read) (a b : Reader) (had has : Option (List ℕ)) → Moves f a b had has → rest_over a had ≡ option_map f (rest_over b has)

-- a reader that is called goes on from the rows that it gave, or ends with its cause
abbrev pub LinesPass : Type 0
LinesPass =
    (result : Result (Option Row) RowEnd) (old new : Reader) (had has : Option (List ℕ)) → Called result old new had has
    → (side : Side) (last : Option ℤ) (count : ℕ) → SidePassed side last count (bare old) → LinePassed side last count result new

-- ---- of a merge

-- the same of two calls of a merge
abbrev pub MergesGoOn : Type 0
MergesGoOn =
    (f g : Read → Read) (a b c : Merger) (had mid has had_right mid_right has_right : Option (List ℕ))
    → MergeMoves f a b had mid had_right mid_right → MergeMoves g b c mid has mid_right has_right
    → MergeMoves (λ rest. f (g rest)) a c had has had_right has_right

-- of none
abbrev pub MergersStand : Type 0
MergersStand = (m : Merger) (had had_right : Option (List ℕ)) → MergeMoves (λ rest. rest) m m had had had_right had_right

-- and over sources that tell
abbrev pub MergesTell : Type 0
MergesTell =
    (f : Read → Read) (a b : Merger) (had has had_right has_right : Option (List ℕ)) → MergeMoves f a b had has had_right has_right
    → merger_over a had had_right ≡ option_map f (merger_over b has has_right)
