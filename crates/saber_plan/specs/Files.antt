-- The rows of a query, from the bytes of its row files: the first file is the left stream of FROM, the second the right one.
use Rattle.std.specs.Prelude.{ℕ, List, [], ◌∷◌}
use Rattle.saber_plan.specs.declared.rows.Row.{Row}
use Rattle.saber_plan.specs.declared.rows.Side.{Side}
use Rattle.saber_plan.specs.declared.rows.Side.TheVariants.{Left, Right}
use Rattle.saber_plan.specs.declared.sizes.Sizes.{Sizes}
use Rattle.saber_plan.specs.Rows.{Read, SideRules, most_held, rows, whole}
use Rattle.saber_plan.specs.Inputs.{input}
use Rattle.saber_plan.specs.Trees.{Tree}
use Rattle.saber_plan.specs.Checked.{columns_on}
use Rattle.saber_plan.specs.Sizes.{FileLimits, limits_of}

-- the rules of a side of so many columns: the limits of files hold for each side by itself
abbrev pub rules_for : Side → ℕ → FileLimits → SideRules
rules_for side columns limits = record { side = side; columns = columns; most = limits.most; slack = limits.slack; room = most_held }

-- the rules for the lines of a side of the query
abbrev pub rules_on : Tree → FileLimits → Side → SideRules
rules_on q limits side = rules_for side (columns_on q.streams side) limits

-- the rows of each file
abbrev pub sources : Tree → FileLimits → List (List ℕ) → List Read
sources q limits [] = []
sources q limits (l ∷ []) = rows (rules_on q limits Left) l ∷ []
sources q limits (l ∷ r ∷ more) = rows (rules_on q limits Left) l ∷ rows (rules_on q limits Right) r ∷ []

-- those of all files, in one
abbrev pub input_of : Tree → FileLimits → List (List ℕ) → Read
input_of q limits files = input (sources q limits files)

-- ---- files of which more may follow

-- the rows of the whole lines of each
abbrev pub wholes : Tree → FileLimits → List (List ℕ) → List Read
wholes q limits [] = []
wholes q limits (l ∷ []) = whole (rules_on q limits Left) l ∷ []
wholes q limits (l ∷ r ∷ more) = whole (rules_on q limits Left) l ∷ whole (rules_on q limits Right) r ∷ []

-- those of all, in one
abbrev pub whole_rows : Tree → Sizes → List (List ℕ) → List Row
whole_rows q s taken = (input (wholes q (limits_of s) taken)).rows
