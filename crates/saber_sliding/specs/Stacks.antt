-- Entries as their numbers and their parts, side by side.
use Rattle.std.specs.Prelude.{ℕ, zero, suc, List, [], ◌∷◌, map, if◌then◌else◌, nat_le}
use Rattle.saber_plan.specs.Parts.{Part, no_part, merge}
use Rattle.saber_partial.specs.Piles.{piled_part}
use Rattle.saber_sliding.specs.Entries.{Entries}

abbrev pub side_by_side : List ℕ → List Part → Entries
side_by_side [] ps = []
side_by_side (n ∷ ns) [] = []
side_by_side (n ∷ ns) (p ∷ ps) = (n, p) ∷ side_by_side ns ps

abbrev pub entry_at : Entries → ℕ → ℕ × Part
entry_at [] i = (0, no_part)
entry_at (e ∷ es) zero = e
entry_at (e ∷ es) (suc i) = entry_at es i

abbrev pub parts_of : Entries → List Part
parts_of es = map (λ e. e.1) es

-- each part merged with all behind it
abbrev pub sums : List Part → List Part
sums [] = []
sums (p ∷ ps) = merge p (piled_part ps) ∷ sums ps

-- how many numbers, from the first on, are at most i
abbrev pub gone_by : ℕ → List ℕ → ℕ
gone_by i [] = 0
gone_by i (n ∷ ns) = if nat_le n i then suc (gone_by i ns) else 0
