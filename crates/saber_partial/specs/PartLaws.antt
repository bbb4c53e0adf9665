-- Laws that tie what adding and merging require to the rows and parts of a query.
use Rattle.std.specs.Prelude.{◌≡◌, ℕ, ◌≤◌, List, length, map, ℤ, Some}
use Rattle.std.specs.FinMap.{get}
use Rattle.saber_plan.specs.declared.plans.Aggregate.{Aggregate}
use Rattle.saber_plan.specs.Trees.{Tree}
use Rattle.saber_plan.specs.Parts.{Part, Numbers}
use Rattle.saber_partial.specs.Tallies.{folds_of}

-- aggregates that go on as those of a plan
abbrev pub OfAggregates : List Aggregate → Numbers → Type 0
OfAggregates gs a = folds_of a.values ≡ map (λ g. g.fold) gs

-- a part of a query over at most n rows: keys of its columns, and its aggregates, of at most n rows a key
pub record OfRows (q : Tree) (n : ℕ) (m : Part) : Type 0 where
  pub at : (k : List ℤ) (a : Numbers) → get m k ≡ Some a → (a.count ≤ n) × OfAggregates q.aggregates a
  pub keys : (k : List ℤ) (a : Numbers) → get m k ≡ Some a → length k ≡ length q.keys
