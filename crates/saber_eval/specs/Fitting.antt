-- What the check of a query promises of its plan, for the rows that the evaluation meets: each
-- column that the plan names is there, and nothing overflows.
use Rattle.std.specs.Prelude.{◌≡◌, ℕ, ◌<◌, [], ◌∷◌}
use Rattle.std.specs.List.{AllByRecursion}
use Rattle.saber_plan.specs.declared.rows.Side.{Side}
use Rattle.saber_plan.specs.declared.rows.Side.TheVariants.{Left, Right}
use Rattle.saber_plan.specs.declared.rows.Row.{Row}
use Rattle.saber_plan.specs.declared.windows.Stream.{Stream}
use Rattle.saber_plan.specs.Trees.{Tree}
use Rattle.saber_plan.specs.Rows.{RowFits}
use Rattle.saber_plan.specs.Checked.{group_width, AggregatesFit, IsChecked, ItemFits, PredicateFits}
use Rattle.saber_eval.specs.Widths.{widths}

-- a plan's parts, where the rows of each side have so many columns
pub record PlanFits (q : Tree) (columns : Side → ℕ) : Type 0 where
  pub predicate : PredicateFits columns q.predicate
  pub items : AllByRecursion (ItemFits q.shape columns (group_width q)) q.items
  pub aggregates : AggregatesFit q.shape columns q.partition q.aggregates
  pub keys : AllByRecursion (λ k. k < columns Left) q.keys

-- a checked plan of one stream fits each row of that stream
abbrev pub OneStreamFits : Type 0
OneStreamFits = (q : Tree) (s : Stream) (r : Row) → IsChecked q → q.streams ≡ s ∷ [] → RowFits Left s.columns r → PlanFits q (widths r.values [])

-- one of two streams fits each pair of their rows
abbrev pub TwoStreamsFit : Type 0
TwoStreamsFit = (q : Tree) (s t : Stream) (left right : Row) → IsChecked q → q.streams ≡ s ∷ t ∷ []
    → RowFits Left s.columns left → RowFits Right t.columns right → PlanFits q (widths left.values right.values)
