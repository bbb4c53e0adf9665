-- Lines that begin with what is held.
use Rattle.std.specs.Prelude.{◌≡◌, ◌<◌, ℕ, ◌+◌, List, [], ◌∷◌, ◌++◌, length, take, drop, Bool, if◌then◌else◌, true, Option, MatchOption}
use Rattle.saber_plan.specs.Rows.{Line, lines_of, onto_line}

-- bytes before the first line
abbrev pub onto_lines : List ℕ → List Line → List Line
onto_lines [] ls = ls
onto_lines (b ∷ bs) ls = onto_line b (onto_lines bs ls)

-- whatever follows, the bytes stand in one line
abbrev pub HasNoFeed : List ℕ → Type 0
HasNoFeed held = (z : List ℕ) → lines_of (held ++ z) ≡ onto_lines held (lines_of z)

-- whatever follows, the first n bytes are a line
abbrev pub IsLine : List ℕ → ℕ → Type 0
IsLine held n = (z : List ℕ) → lines_of (held ++ z) ≡ record { content = take n held; whole = true } ∷ lines_of (drop (n + 1) held ++ z)

-- where the first line feed stands, if there is one
abbrev pub IsFeedAt : Option ℕ → List ℕ → Type 0
IsFeedAt o held = MatchOption o (HasNoFeed held) (λ n. (n < length held) × IsLine held n)

-- where the rest begins, behind a line of n bytes
abbrev pub end_of : ℕ → Bool → ℕ
end_of n whole = if whole then n + 1 else n
