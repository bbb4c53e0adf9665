-- Predicates and plans as trees, without where they lie in memory.
use Rattle.std.specs.Prelude.{ℕ, List, [], ◌∷◌, Option}
use Rattle.saber_plan.specs.declared.predicates.Cmp.{Cmp}
use Rattle.saber_plan.specs.declared.plans.Aggregate.{Aggregate}
use Rattle.saber_plan.specs.declared.expressions.Product.{Product}
use Rattle.saber_plan.specs.declared.plans.Shape.{Shape}
use Rattle.saber_plan.specs.declared.plans.Word.{Word}
use Rattle.saber_plan.specs.declared.windows.Stream.{Stream}
use Rattle.saber_plan.specs.declared.predicates.Pred.{Pred, fold-Pred}
use Rattle.saber_plan.specs.declared.predicates.Conj.{Conj, fold-Conj}
use Rattle.saber_plan.specs.declared.predicates.Unit.{Unit as Unit_tree, fold-Unit, Unit-F}
use Rattle.saber_plan.specs.declared.predicates.Unit.TheOpen as open_unit

mutual
  -- a unit of a predicate
  pub data Test : Type 0 where
    negated : Test → Test
    one_of : Tests → Test
    compare : List Product → Cmp → List Product → Test

  -- units joined by AND
  pub data Both : Type 0 where
    no_more : Both
    both : Test → Both → Both

  -- those joined by OR
  pub data Tests : Type 0 where
    no_other : Tests
    either : Both → Tests → Tests

abbrev pub joined_tests : List Test → Both
joined_tests [] = no_more
joined_tests (t ∷ ts) = both t (joined_tests ts)

abbrev pub chosen_tests : List Both → Tests
chosen_tests [] = no_other
chosen_tests (b ∷ bs) = either b (chosen_tests bs)

abbrev unit_step : Unit-F Test Both Tests → Test
unit_step (open_unit.Not t) = negated t.value
unit_step (open_unit.Any ts) = one_of ts
unit_step (open_unit.Compare x c y) = compare x c y

-- a unit's tree, and that of units joined by AND
abbrev pub test_of : Unit_tree → Test
test_of = fold-Unit Test Both Tests unit_step (λ c. joined_tests c.units.items) (λ p. chosen_tests p.conjs.items)

abbrev pub both_of : Conj → Both
both_of = fold-Conj Test Both Tests unit_step (λ c. joined_tests c.units.items) (λ p. chosen_tests p.conjs.items)

-- a predicate's tree
abbrev pub tests_of : Pred → Tests
tests_of = fold-Pred Test Both Tests unit_step (λ c. joined_tests c.units.items) (λ p. chosen_tests p.conjs.items)

pub record Tree : Type 0 where
  pub shape : Shape
  pub streams : List Stream
  pub aggregates : List Aggregate
  pub items : List (List Product)
  pub keys : List ℕ
  pub predicate : Option Tests
  pub partition : List ℕ
  pub word : Option Word

-- the tree of these parts
abbrev pub tree : Shape → List Stream → List Aggregate → List (List Product) → List ℕ → Option Tests → List ℕ → Option Word → Tree
tree s ss gs is ks p l w = record { shape = s; streams = ss; aggregates = gs; items = is; keys = ks; predicate = p; partition = l; word = w }

-- a plan's tree: the plan itself, as contracts see it
abbrev pub tree_of : Tree → Tree
tree_of q = q
