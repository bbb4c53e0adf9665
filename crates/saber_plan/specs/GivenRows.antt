-- Rows that a checked plan can be given: what windows, evaluation and the operators rest on.
use Rattle.std.specs.Prelude.{◌≡◌, ℕ, ◌^◌, ◌≤◌, List}
use Rattle.std.specs.List.{AllByRecursion}
use Rattle.saber_plan.specs.declared.rows.Row.{Row}
use Rattle.saber_plan.specs.declared.windows.Mark.{Mark}
use Rattle.saber_plan.specs.Rows.{RowFits}
use Rattle.saber_plan.specs.Trees.{Tree}
use Rattle.saber_plan.specs.Checked.{columns_on}
use Rattle.saber_plan.specs.Windows.{Ordered, no_rows, mark_after}
use Rattle.saber_plan.specs.Parts.{Part, part}

-- a row of one of the plan's streams
pub record IsRowOf (q : Tree) (r : Row) : Type 0 where
  pub stream : 1 ≤ columns_on q.streams r.side
  pub fits : RowFits r.side (columns_on q.streams r.side) r

-- Rows that can follow those behind a mark: they are of the plan's streams, their timestamps do not fall, and no side has more than 2^40 rows
-- (this project's limit: as many as a file may have lines).
pub record RowsFit (q : Tree) (m : Mark) (xs : List Row) : Type 0 where
  pub rows : AllByRecursion (IsRowOf q) xs
  pub ordered : Ordered m xs
  pub left : (mark_after m xs).left ≤ 2 ^ 40
  pub right : (mark_after m xs).right ≤ 2 ^ 40

-- the parts of one window over such rows that follow one another
pub record AreNeighbors (q : Tree) (a b : Part) : Type 0 where
  pub window : ℕ
  pub rows : List Row
  pub from : ℕ
  pub seam : ℕ
  pub to : ℕ
  pub fits : RowsFit q no_rows rows
  pub rises : from ≤ seam
  pub rises_on : seam ≤ to
  pub first : a ≡ part q window rows from seam
  pub second : b ≡ part q window rows seam to
