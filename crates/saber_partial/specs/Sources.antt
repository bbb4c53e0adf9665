-- Where the values that a plan asks of each row come from.
use Rattle.std.specs.Prelude.{◌≡◌, List, [], ◌∷◌, length}
use Rattle.saber_plan.specs.declared.plans.Aggregate.{Aggregate}
use Rattle.saber_plan.specs.declared.expressions.Product.{Product}
use Rattle.saber_plan.specs.Trees.{Tree}
use Rattle.saber_plan.specs.Checked.{lone}
use Rattle.saber_partial.specs.declared.layout.Layout.{Layout}
use Rattle.saber_partial.specs.declared.sources.Source.{Source}
use Rattle.saber_partial.specs.declared.sources.Source.TheVariants as sources
use Rattle.saber_partial.specs.Flat.{IsLayout, Suits}

-- the value of an expression comes from a source: the one column that it is, or the expression itself
abbrev pub IsSource : List Product → Source → Type 0
IsSource e (sources.Column k) = e ≡ lone k
IsSource e sources.Whole = Unit {0}

-- the sources of aggregates stand before others of no meaning
abbrev pub AreSources : List Aggregate → List Source → Type 0
AreSources [] ss = Unit {0}
AreSources (g ∷ gs) [] = ⊥
AreSources (g ∷ gs) (s ∷ ss) = IsSource g.expr s × AreSources gs ss

-- a layout and sources are those of a plan
pub record AreFor (q : Tree) (l : Layout) (ss : List Source) : Type 0 where
  pub suits : Suits l (length q.keys) q.aggregates
  pub layout : IsLayout l
  pub sources : AreSources q.aggregates ss
