-- What rows of tests are to the query that is given them.
use Rattle.std.specs.Prelude.{◌≡◌, ◌≤◌, ◌^◌, List, [], ◌++◌}
use Rattle.saber_plan.specs.declared.rows.Side.TheVariants.{Left}
use Rattle.saber_plan.specs.declared.rows.Row.{Row}
use Rattle.saber_plan.specs.declared.windows.Mark.{Mark}
use Rattle.saber_plan.specs.Trees.{Tree}
use Rattle.saber_plan.specs.Checked.{columns_on}
use Rattle.saber_plan.specs.Windows.{mark_after, Ordered}
use Rattle.saber_plan.specs.GivenRows.{RowsFit}

-- a query over a stream of three columns
abbrev pub HasKeyed : Tree → Type 0
HasKeyed q = columns_on q.streams Left ≡ 3

-- such a query can be given these rows behind the mark, whatever rows end there
abbrev pub CanCome : (Tree → Type 0) → Mark → List Row → Type 0
CanCome Has before rows = (q : Tree) (m : Mark) (xs : List Row) → Has q → before ≡ mark_after m xs → RowsFit q m xs → RowsFit q m (xs ++ rows)

-- and a mark is the one behind them
abbrev pub IsBehind : Mark → List Row → Mark → Type 0
IsBehind before rows after = (m : Mark) (xs : List Row) → before ≡ mark_after m xs → after ≡ mark_after m (xs ++ rows)

-- no rows can be given to any query
pub fits_nil : (q : Tree) (m : Mark) → m.left ≤ 2 ^ 40 → m.right ≤ 2 ^ 40 → RowsFit q m []
unfolding Ordered
fits_nil q m l r = record { rows = tt; ordered = tt; left = l; right = r }
