-- Rows of a join's sides.
use Rattle.std.specs.Prelude.{◌≡◌, List}
use Rattle.std.specs.List.{AllByRecursion}
use Rattle.saber_plan.specs.declared.rows.Side.{Side}
use Rattle.saber_plan.specs.declared.rows.Row.{Row}
use Rattle.saber_plan.specs.Trees.{Tree}
use Rattle.saber_plan.specs.GivenRows.{IsRowOf}
use Rattle.saber_join.specs.Shelves.{Card}

-- a row of one side
pub record IsOn (q : Tree) (s : Side) (r : Row) : Type 0 where
  pub row : IsRowOf q r
  pub side : r.side ≡ s

-- all are rows of one side
abbrev pub AllOn : Tree → Side → List Card → Type 0
AllOn q s es = AllByRecursion (λ (e : Card). IsOn q s e.seen.row) es
