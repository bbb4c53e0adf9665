-- Laws of the substreams of key lists.
use Rattle.std.specs.Prelude.{◌≡◌, ℕ, ◌+◌, ◌≤◌, List, [], ◌∷◌, ◌++◌, length, take, true, ℤ}
use Rattle.std.specs.FinMap.{empty}
use Rattle.saber_plan.specs.declared.rows.Side.TheVariants.{Left}
use Rattle.saber_plan.specs.declared.rows.Row.{Row}
use Rattle.saber_plan.specs.declared.windows.Measure.TheVariants.{Rows}
use Rattle.saber_plan.specs.Trees.{Tree}
use Rattle.saber_plan.specs.Inputs.{Input}
use Rattle.saber_plan.specs.GivenRows.{RowsFit}
use Rattle.saber_plan.specs.Windows.{Fits, one, no_rows, count_to}
use Rattle.saber_plan.specs.Answers.{frame, substream, past_in, begun_in, closed_in_turn}
use Rattle.saber_plan.specs.Tasks.{unclosed_by_list, places}
use Rattle.saber_laws.specs.Inputs.{AllOn}

-- the rows of a key list are such rows as the query is given: what is said of inputs holds for them by themselves
abbrev pub SubstreamsFit : Type 0
SubstreamsFit = (q : Tree) (k : List ℤ) (xs : List Row) → RowsFit q no_rows xs → RowsFit q no_rows (substream q k xs)

-- a row closes at most one window by rows
abbrev pub RowsCloseOne : Type 0
RowsCloseOne = (q : Tree) (slide size : ℕ) → frame q ≡ one Rows slide size → Fits (frame q) → (us : List Row) (r : Row) → past_in q (us ++ r ∷ []) ≤ past_in q us + 1

-- what rows close, one after another
abbrev pub TurnsGoOn : Type 0
TurnsGoOn = (q : Tree) (xs us vs : List Row) → closed_in_turn q xs (us ++ vs) ≡ closed_in_turn q xs us ++ closed_in_turn q (xs ++ us) vs

-- of rows of one stream, windows by rows are counted by how many rows there are
pub record IsCounted (q : Tree) (slide size : ℕ) (us : List Row) : Type 0 where
  pub past : past_in q us ≡ count_to slide size (length us)
  pub begun : begun_in q us ≡ count_to slide 1 (length us)

abbrev pub StreamsAreCounted : Type 0
StreamsAreCounted = (q : Tree) (slide size : ℕ) → frame q ≡ one Rows slide size → (us : List Row) → AllOn Left us → IsCounted q slide size us

-- an input that has ended leaves nothing open by key list
abbrev pub NoListOpenBehind : Type 0
NoListOpenBehind = (q : Tree) (r : Input) → r.ended ≡ true → unclosed_by_list q r ≡ empty

-- ---- where rows stand in their substreams

-- no later row changes that
abbrev pub PlacesStay : Type 0
PlacesStay = (q : Tree) (xs : List Row) (x y n : ℕ) → x ≤ y → y ≤ n → places q (take n xs) x y ≡ places q xs x y
