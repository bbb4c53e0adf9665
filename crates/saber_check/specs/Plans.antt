-- The plan of a query that has no fault.
use Rattle.std.specs.Prelude.{ℕ, ◌+◌, ◌-◌, ◌^◌, ◌≤◌, min, List, [], ◌∷◌, map, length, Bool, true, false, ◌==◌, if◌then◌else◌, Option, None, option_map, option_to_list, pos, neg_ℤ}
use Rattle.std.specs.Option.{option_map_or}
use Rattle.std.specs.List.{position}
use Rattle.saber_plan.specs.declared.rows.Side.{Side}
use Rattle.saber_plan.specs.declared.rows.Side.TheVariants.{Left, Right}
use Rattle.saber_plan.specs.declared.plans.Shape.{Shape}
use Rattle.saber_plan.specs.declared.plans.Shape.TheVariants as shape
use Rattle.saber_plan.specs.declared.plans.Word.{Word}
use Rattle.saber_plan.specs.declared.plans.Word.TheVariants as word
use Rattle.saber_plan.specs.declared.expressions.Factor.{Factor as Plan_factor}
use Rattle.saber_plan.specs.declared.expressions.Factor.TheVariants as plan
use Rattle.saber_plan.specs.declared.expressions.Product.{Product}
use Rattle.saber_plan.specs.declared.plans.Fold.TheVariants as fold
use Rattle.saber_plan.specs.declared.plans.Aggregate.{Aggregate}
use Rattle.saber_plan.specs.declared.windows.Measure.{Measure as Plan_measure}
use Rattle.saber_plan.specs.declared.windows.Measure.TheVariants as measure
use Rattle.saber_plan.specs.declared.windows.Window.{Window as Plan_window}
use Rattle.saber_plan.specs.declared.windows.Stream.{Stream}
use Rattle.saber_plan.specs.declared.predicates.Cmp.{Cmp as Plan_cmp}
use Rattle.saber_plan.specs.declared.predicates.Cmp.TheVariants as cmp
use Rattle.saber_plan.specs.Trees as t
use Rattle.saber_plan.specs.Checked.{lone}
use Rattle.saber_query.specs.declared.tree.Decl.{Decl}
use Rattle.saber_query.specs.declared.tree.Column.{Column}
use Rattle.saber_query.specs.declared.tree.Factor.{Factor}
use Rattle.saber_query.specs.declared.tree.Factor.TheVariants as f
use Rattle.saber_query.specs.declared.tree.Prod.{Prod}
use Rattle.saber_query.specs.declared.tree.Adding.{Adding}
use Rattle.saber_query.specs.declared.tree.Adding.TheVariants.{Plus, Minus}
use Rattle.saber_query.specs.declared.tree.Term.{Term}
use Rattle.saber_query.specs.declared.tree.Expr.{Expr}
use Rattle.saber_query.specs.declared.tree.Item.{Item}
use Rattle.saber_query.specs.declared.tree.Item.TheVariants.{Count, Sum, Min, Max, Value}
use Rattle.saber_query.specs.declared.tree.Measure.{Measure}
use Rattle.saber_query.specs.declared.tree.Measure.TheVariants.{Rows, Range, Partition}
use Rattle.saber_query.specs.declared.tree.Window.{Window}
use Rattle.saber_query.specs.declared.tree.Source.{Source}
use Rattle.saber_query.specs.declared.tree.Keys.{Keys}
use Rattle.saber_query.specs.declared.tree.StreamWord.{StreamWord}
use Rattle.saber_query.specs.declared.tree.StreamWord.TheVariants.{Rstream, Istream, Dstream}
use Rattle.saber_query.specs.declared.tree.Cmp.{Cmp}
use Rattle.saber_query.specs.declared.tree.Cmp.TheVariants as c
use Rattle.saber_query.specs.Trees.{Test, negated, enclosed, compare, Ands, no_more, and_also, Ors, no_other, or_else, Tests, Both, Query}
use Rattle.saber_check.specs.declared.outputs.Output.{Output}
use Rattle.saber_check.specs.declared.outputs.Output.TheVariants as out
use Rattle.saber_check.specs.Names.{same, names, decls, in_first}
use Rattle.saber_check.specs.Faults.{own_name, keys, partition_of, items, is_join, is_group}
use Rattle.saber_check.specs.Walked.{width}
use Rattle.saber_check.specs.Bounds.{factors}

-- how many names stand before this one
abbrev pub place_in : List ℕ → List (List ℕ) → ℕ
place_in n [] = 0
place_in n (m ∷ ms) = if same m n then 0 else place_in n ms + 1

-- the place of a column in the first declaration of its stream, and how many columns that has
abbrev pub place : List Decl → List ℕ → List ℕ → ℕ
place [] s n = 0
place (d ∷ ds) s n = if same d.name s then place_in n (names d) else place ds s n

-- how many columns the first declaration of a stream has
abbrev pub columns : List Decl → List ℕ → ℕ
columns [] s = 0
columns (d ∷ ds) s = if same d.name s then length (names d) else columns ds s

-- a qualified column's stream is the first of FROM or not; an unqualified one's is the first if it is a column of that
abbrev pub is_left : Query → Column → Bool
is_left q c = option_map_or (λ n. same q.from.name c.first) c.second (in_first q c.first)

-- the stream that a column is of which is not one of the first
abbrev pub second_name : Query → List ℕ
second_name q = option_map_or (λ (s : Source). s.name) q.second q.from.name

-- the place of a column among those of its stream
abbrev pub plan_place : Query → Column → ℕ
plan_place q c = place (decls q) (if is_left q c then q.from.name else second_name q) (own_name c)

-- the side of the stream that a column is of
abbrev pub plan_side : Query → Column → Side
plan_side q c = if is_left q c then Left else Right

-- a number past what fits is a fault
abbrev pub plan_factor : Query → Factor → Plan_factor
plan_factor q (f.Column c) = plan.Column (plan_side q c) (plan_place q c)
plan_factor q (f.Number n) = plan.Constant (pos (min n (2 ^ 63 - 1)))
plan_factor q (f.Negative n) = plan.Constant (neg_ℤ (pos (min n (2 ^ 63))))

-- a product of the plan
abbrev pub plan_product : Query → Bool → Prod → Product
plan_product q minus p = record { minus = minus; factors = map (plan_factor q) (factors p) }

-- whether a term is taken away
abbrev pub is_minus : Adding → Bool
is_minus Plus = false
is_minus Minus = true

-- a term is a product with its sign
abbrev pub plan_term : Query → Term → Product
plan_term q t = plan_product q (is_minus t.adding) t.prod

-- an expression is a flat list of signed products
abbrev pub plan_expr : Query → Expr → List Product
plan_expr q e = plan_product q false e.first ∷ map (plan_term q) e.more

-- rows or timestamps
abbrev pub plan_measure : Measure → Plan_measure
plan_measure Rows = measure.Rows
plan_measure Range = measure.Range
plan_measure (Partition g) = measure.Rows

-- a window as it stands
abbrev pub plan_window : Window → Plan_window
plan_window w = record { measure = plan_measure w.measure; size = w.size; slide = w.slide }

-- how many columns a stream of FROM has, and its window
abbrev pub plan_stream : Query → Source → Stream
plan_stream q s = record { columns = columns (decls q) s.name; window = option_map plan_window s.window }

-- comparisons one for one
abbrev pub plan_cmp : Cmp → Plan_cmp
plan_cmp c.Equal = cmp.Equal
plan_cmp c.Unequal = cmp.Unequal
plan_cmp c.Less = cmp.Less
plan_cmp c.AtMost = cmp.AtMost
plan_cmp c.Greater = cmp.Greater
plan_cmp c.AtLeast = cmp.AtLeast

abbrev mutual
  pub plan_test : Query → Test → t.Test
  plan_test q (negated x) = t.negated (plan_test q x)
  plan_test q (enclosed x a o) = t.one_of (t.either (t.both (plan_test q x) (plan_ands q a)) (plan_ors q o))
  plan_test q (compare x c y) = t.compare (plan_expr q x) (plan_cmp c) (plan_expr q y)

  pub plan_ands : Query → Ands → t.Both
  plan_ands q no_more = t.no_more
  plan_ands q (and_also x a) = t.both (plan_test q x) (plan_ands q a)

  pub plan_ors : Query → Ors → t.Tests
  plan_ors q no_other = t.no_other
  plan_ors q (or_else x a o) = t.either (t.both (plan_test q x) (plan_ands q a)) (plan_ors q o)

-- units joined by AND
abbrev pub plan_both : Query → Both → t.Both
plan_both q b = t.both (plan_test q b.first) (plan_ands q b.ands)

-- those joined by OR
abbrev pub plan_tests : Query → Tests → t.Tests
plan_tests q x = t.either (t.both (plan_test q x.first) (plan_ands q x.ands)) (plan_ors q x.ors)

-- two streams are a join, an aggregate or GROUP BY makes groups, and every other query selects
abbrev pub plan_shape : Query → Shape
plan_shape q = if is_join q then shape.Join else (if is_group q then shape.Group else shape.Select)

-- the streams of FROM in order
abbrev pub streams : Query → List Source
streams q = q.from ∷ option_to_list q.second

-- the places of a list of columns that may not be there
abbrev pub places : Query → Option Keys → List ℕ
places q o = option_map_or (λ (g : Keys). map (plan_place q) (keys g)) o []

-- those of GROUP BY, and of PARTITION BY
abbrev pub plan_keys : Query → List ℕ
plan_keys q = places q q.group

abbrev pub plan_partition : Query → List ℕ
plan_partition q = places q (partition_of q.from)

-- ---- what is gathered and printed

-- the expression of an item
abbrev pub plan_value : Query → Item → List Product
plan_value q Count = []
plan_value q (Sum e) = plan_expr q e
plan_value q (Min e) = plan_expr q e
plan_value q (Max e) = plan_expr q e
plan_value q (Value e) = plan_expr q e

-- where a column stands among those of GROUP BY: its first place, if it is one of them
abbrev pub key_place : Query → Factor → Option ℕ
key_place q (f.Column c) = position (λ k. k == plan_place q c) (plan_keys q)
key_place q (f.Number n) = None
key_place q (f.Negative n) = None

-- What an item of a group query prints. A group's numbers are the columns of its key, how many rows it has, and its aggregates. COUNT(*)
-- and a column of GROUP BY are there by themselves; what else an item may be is gathered, a column of PARTITION BY from the first row.
abbrev pub plan_output : Query → Item → Output
plan_output q Count = out.Place (length (plan_keys q))
plan_output q (Sum e) = out.Aggregate (record { fold = fold.Sum; expr = plan_expr q e })
plan_output q (Min e) = out.Aggregate (record { fold = fold.Min; expr = plan_expr q e })
plan_output q (Max e) = out.Aggregate (record { fold = fold.Max; expr = plan_expr q e })
plan_output q (Value e) = option_map_or out.Place (key_place q e.first.first) (out.Aggregate (record { fold = fold.First; expr = plan_expr q e }))

-- the aggregates among them, in order
abbrev pub gathered_aggregates : List Output → List Aggregate
gathered_aggregates [] = []
gathered_aggregates (out.Place k ∷ xs) = gathered_aggregates xs
gathered_aggregates (out.Aggregate g ∷ xs) = g ∷ gathered_aggregates xs

-- the numbers that they print, where the first aggregate stands at n and each further one behind it
abbrev pub printed_numbers : ℕ → List Output → List (List Product)
printed_numbers n [] = []
printed_numbers n (out.Place k ∷ xs) = lone k ∷ printed_numbers n xs
printed_numbers n (out.Aggregate g ∷ xs) = lone n ∷ printed_numbers (n + 1) xs

-- those of all items
abbrev pub plan_outputs : Query → List Output
plan_outputs q = map (plan_output q) (items q)

-- a group query alone gathers
abbrev pub plan_aggregates : Query → List Aggregate
plan_aggregates q = if is_group q then gathered_aggregates (plan_outputs q) else []

-- and prints what its groups have; another query prints the values of its items
abbrev pub plan_items : Query → List (List Product)
plan_items q = if is_group q then printed_numbers (length (plan_keys q) + 1) (plan_outputs q) else map (plan_value q) (items q)

-- words one for one
abbrev pub plan_word : StreamWord → Word
plan_word Rstream = word.Rstream
plan_word Istream = word.Istream
plan_word Dstream = word.Dstream

-- the plan's tree
abbrev pub plan_tree : Query → t.Tree
plan_tree q = record {
  shape = plan_shape q;
  streams = map (plan_stream q) (streams q);
  aggregates = plan_aggregates q;
  items = plan_items q;
  keys = plan_keys q;
  predicate = option_map (plan_tests q) q.predicate;
  partition = plan_partition q;
  word = option_map plan_word q.word;
}

-- a query of a text that is short enough
abbrev pub Small : Query → Type 0
Small q = width q ≤ 2 ^ 30
