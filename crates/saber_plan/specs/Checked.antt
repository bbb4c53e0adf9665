-- What the checks of a query promise of its plan. Windows, evaluation and the operators rest on it.
use Rattle.std.specs.Prelude.{◌≡◌, ℕ, ◌+◌, ◌^◌, ◌<◌, ◌≤◌, List, [], ◌∷◌, length, Option, Some, None, IfSome, Contains, false}
use Rattle.std.specs.List.{AllByRecursion}
use Rattle.saber_plan.specs.declared.rows.Side.{Side}
use Rattle.saber_plan.specs.declared.rows.Side.TheVariants.{Left, Right}
use Rattle.saber_plan.specs.declared.windows.Measure.TheVariants.{Rows}
use Rattle.saber_plan.specs.declared.windows.Window.{Window}
use Rattle.saber_plan.specs.declared.windows.Stream.{Stream}
use Rattle.saber_plan.specs.declared.expressions.Factor.{Factor}
use Rattle.saber_plan.specs.declared.expressions.Factor.TheVariants.{Column, Constant}
use Rattle.saber_plan.specs.declared.expressions.Product.{Product}
use Rattle.saber_plan.specs.declared.plans.Aggregate.{Aggregate}
use Rattle.saber_plan.specs.declared.plans.Fold.{Fold}
use Rattle.saber_plan.specs.declared.plans.Fold.TheVariants.{Sum, Min, Max, First}
use Rattle.saber_plan.specs.declared.plans.Word.{Word}
use Rattle.saber_plan.specs.declared.plans.Shape.{Shape}
use Rattle.saber_plan.specs.declared.plans.Shape.TheVariants.{Select, Group, Join}
use Rattle.saber_plan.specs.Trees.{Tree, Test, negated, one_of, compare, Both, no_more, both, Tests, no_other, either}
use Rattle.saber_plan.specs.Overlap.{overlap}
use Rattle.saber_plan.specs.Bounds.{SumFits, sum_bound}

-- ---- streams and windows

-- in how many windows of a stream a point may lie: this project's limit, and that for each stream of a join
abbrev pub most_overlap : ℕ
most_overlap = 65536

abbrev pub most_overlap_joined : ℕ
most_overlap_joined = 1024

-- sizes and slides are 1 to 2^40, and no point lies in more than 65,536 windows
pub record WindowFits (w : Window) : Type 0 where
  pub size : (1 ≤ w.size) × (w.size ≤ 2 ^ 40)
  pub slide : (1 ≤ w.slide) × (w.slide ≤ 2 ^ 40)
  pub few : overlap w.size w.slide ≤ most_overlap

-- two windows of one measure and slide; a row of a join goes with others in each of its windows, so it may lie in fewer
pub record Pairs (v w : Window) : Type 0 where
  pub measure : v.measure ≡ w.measure
  pub slide : v.slide ≡ w.slide
  pub few_left : overlap v.size v.slide ≤ most_overlap_joined
  pub few_right : overlap w.size w.slide ≤ most_overlap_joined

-- a selection has one stream, a group query one with a window, a join two with windows that pair
abbrev pub StreamsFit : Shape → List Stream → Type 0
StreamsFit Select (s ∷ []) = IfSome s.window WindowFits
StreamsFit Group (s ∷ []) = (w : Window) × (s.window ≡ Some w) × WindowFits w
StreamsFit Join (s ∷ t ∷ []) = (v w : Window) × (s.window ≡ Some v) × (t.window ≡ Some w) × WindowFits v × WindowFits w × Pairs v w
StreamsFit _ _ = ⊥

-- a selection has a window exactly where a stream word stands before it
abbrev pub WordFits : Shape → List Stream → Option Word → Type 0
WordFits Select (s ∷ []) None = s.window ≡ None
WordFits Select (s ∷ []) (Some word) = (w : Window) × (s.window ≡ Some w)
WordFits Select [] word = Unit {0}
WordFits Select (s ∷ t ∷ ts) word = Unit {0}
WordFits Group ss word = Unit {0}
WordFits Join ss word = Unit {0}

-- PARTITION BY stands in a group query alone, whose window counts rows, and under no stream word
abbrev pub PartitionFits : List ℕ → Shape → List Stream → Option Word → Type 0
PartitionFits [] shape ss word = Unit {0}
PartitionFits (k ∷ ks) Group (s ∷ []) None = (w : Window) × (s.window ≡ Some w) × (w.measure ≡ Rows)
PartitionFits _ _ _ _ = ⊥

-- each stream has 1 to 32 columns
abbrev pub ColumnsFit : List Stream → Type 0
ColumnsFit = AllByRecursion (λ s. (1 ≤ s.columns) × (s.columns ≤ 32))

-- how many columns the rows of a side have
abbrev pub columns_on : List Stream → Side → ℕ
columns_on [] side = 0
columns_on (s ∷ []) Left = s.columns
columns_on (s ∷ []) Right = 0
columns_on (s ∷ t ∷ ts) Left = s.columns
columns_on (s ∷ t ∷ ts) Right = t.columns

-- ---- expressions

-- a column is one of its side's
abbrev pub HasColumn : (Side → ℕ) → Factor → Type 0
HasColumn columns (Column side k) = k < columns side
HasColumn columns (Constant z) = Unit {0}

-- its columns are there, and no row makes it overflow
pub record ExprFits (columns : Side → ℕ) (e : List Product) : Type 0 where
  pub there : AllByRecursion (λ (p : Product). AllByRecursion (HasColumn columns) p.factors) e
  pub small : SumFits 0 e

-- ---- aggregates and items

-- one column alone
abbrev pub lone : ℕ → List Product
lone k = record { minus = false; factors = Column Left k ∷ [] } ∷ []

-- a single column, which is one of these
abbrev pub IsKeyAmong : List ℕ → List Product → Type 0
IsKeyAmong keys e = (k : ℕ) × (e ≡ lone k) × Contains keys k

-- what a sum adds of a row is small; what is taken of a first row alone is a column of PARTITION BY, which its other rows have too
abbrev pub FoldFits : List ℕ → Fold → List Product → Type 0
FoldFits partition Sum e = sum_bound 0 e ≤ 2 ^ 86
FoldFits partition Min e = Unit {0}
FoldFits partition Max e = Unit {0}
FoldFits partition First e = IsKeyAmong partition e

abbrev pub AggregateFits : (Side → ℕ) → List ℕ → Aggregate → Type 0
AggregateFits columns partition a = ExprFits columns a.expr × FoldFits partition a.fold a.expr

-- a group query may have aggregates, and no other
abbrev pub AggregatesFit : Shape → (Side → ℕ) → List ℕ → List Aggregate → Type 0
AggregatesFit Group columns partition gs = AllByRecursion (AggregateFits columns partition) gs
AggregatesFit Select columns partition gs = gs ≡ []
AggregatesFit Join columns partition gs = gs ≡ []

-- how many numbers a group has: the columns of its key, how many rows it has, and its aggregates
abbrev pub group_width : Tree → ℕ
group_width q = length q.keys + 1 + length q.aggregates

-- a group query prints numbers of its groups as they are, and another query expressions over its rows
abbrev pub ItemFits : Shape → (Side → ℕ) → ℕ → List Product → Type 0
ItemFits Group columns width e = (k : ℕ) × (e ≡ lone k) × (k < width)
ItemFits Select columns width e = ExprFits columns e
ItemFits Join columns width e = ExprFits columns e

-- ---- predicates

abbrev mutual
  pub TestFits : (Side → ℕ) → Test → Type 0
  TestFits columns (negated t) = TestFits columns t
  TestFits columns (one_of ts) = SomeFit columns ts
  TestFits columns (compare x c y) = ExprFits columns x × ExprFits columns y

  pub AllFit : (Side → ℕ) → Both → Type 0
  AllFit columns no_more = Unit {0}
  AllFit columns (both t ts) = TestFits columns t × AllFit columns ts

  pub SomeFit : (Side → ℕ) → Tests → Type 0
  SomeFit columns no_other = Unit {0}
  SomeFit columns (either b bs) = AllFit columns b × SomeFit columns bs

abbrev pub PredicateFits : (Side → ℕ) → Option Tests → Type 0
PredicateFits columns None = Unit {0}
PredicateFits columns (Some ts) = SomeFit columns ts

-- ---- the whole

pub record IsChecked (q : Tree) : Type 0 where
  pub streams : StreamsFit q.shape q.streams
  pub word : WordFits q.shape q.streams q.word
  pub partition : PartitionFits q.partition q.shape q.streams q.word
  pub columns : ColumnsFit q.streams
  pub some_items : 1 ≤ length q.items
  pub few_items : length q.items ≤ 32
  pub items : AllByRecursion (ItemFits q.shape (columns_on q.streams) (group_width q)) q.items
  pub few_aggregates : length q.aggregates ≤ 32
  pub aggregates : AggregatesFit q.shape (columns_on q.streams) q.partition q.aggregates
  pub few_keys : length q.keys ≤ 8
  pub keys : AllByRecursion (λ k. k < columns_on q.streams Left) q.keys
  pub few_lists : length q.partition ≤ 8
  pub lists : AllByRecursion (λ k. k < columns_on q.streams Left) q.partition
  pub predicate : PredicateFits (columns_on q.streams) q.predicate

-- a plan without PARTITION BY and without a stream word
pub record IsPlain (q : Tree) : Type 0 where
  pub no_partition : q.partition ≡ []
  pub no_word : q.word ≡ None
