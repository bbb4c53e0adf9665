-- What is wrong with a query whose words are right: each fault with the index of the word where it stands (this project's
-- rules on queries). Each table below is a list of rows; a row is a test, a place and a cause. In each, i is the index of
-- the part's first word, and k counts the parts of its kind before it.
use Rattle.std.specs.Prelude.{if◌then◌else◌, ℕ, ◌+◌, ◌^◌, ◌==◌, List, [], ◌∷◌, ◌++◌, length, take, Bool, true, false, not, ◌&&◌, ◌||◌, nat_lt, Option, Some, None, is_some, option_and_then}
use Rattle.std.specs.Option.{option_map_or}
use Rattle.saber_plan.specs.Checked.{most_overlap, most_overlap_joined}
use Rattle.saber_query.specs.declared.token.Token.{Token}
use Rattle.saber_plan.specs.Overlap.{overlap}
use Rattle.saber_query.specs.declared.tree.Column.{Column}
use Rattle.saber_query.specs.declared.tree.Factor.{Factor}
use Rattle.saber_query.specs.declared.tree.Factor.TheVariants as f
use Rattle.saber_query.specs.declared.tree.Prod.{Prod}
use Rattle.saber_query.specs.declared.tree.Expr.{Expr}
use Rattle.saber_query.specs.declared.tree.Item.{Item}
use Rattle.saber_query.specs.declared.tree.Item.TheVariants.{Count, Sum, Min, Max, Value}
use Rattle.saber_query.specs.declared.tree.Measure.{Measure}
use Rattle.saber_query.specs.declared.tree.Measure.TheVariants.{Rows, Range, Partition}
use Rattle.saber_query.specs.declared.tree.Window.{Window}
use Rattle.saber_query.specs.declared.tree.Source.{Source}
use Rattle.saber_query.specs.declared.tree.Keys.{Keys}
use Rattle.saber_query.specs.declared.tree.Decl.{Decl}
use Rattle.saber_check.specs.declared.fault.Fault.{Fault}
use Rattle.saber_query.specs.declared.fault.Cause.TheVariants as cause
use Rattle.saber_query.specs.Trees.{Test, negated, enclosed, compare, Ands, no_more, and_also, Ors, no_other, or_else, Query, enclosed_by}
use Rattle.saber_query.specs.Words.{name_words, second_words, column_words, factor_words, prod_words, expr_words, item_words, measure_words, source_words, second_source_words, test_words, ands_words, where_words, outputs_words, declared_words, decl_words, decls_words, opened_words}
use Rattle.saber_check.specs.Names.{decls, names, among, names_stream, is_declared, is_unknown_stream, is_unknown_column, is_ambiguous, is_of_first, is_of_second, same}
use Rattle.saber_check.specs.Bounds.{factors, products, times, plus_fit, passes, expr_bound}
use Rattle.saber_check.specs.Least.{row}

-- The faults of parts that stand one after the other, the first at i, with a word between each two. A part's faults may depend on how
-- many are before it, k for the first.
abbrev pub each : {X : Type 0} → (X → List Token) → (ℕ → ℕ → X → List Fault) → ℕ → ℕ → List X → List Fault
each words faults k i [] = []
each words faults k i (x ∷ xs) = faults k i x ++ each words faults (k + 1) (i + length (words x) + 1) xs

-- ---- expressions

-- a column: its stream is none of FROM, its name is none of that stream's columns, or of both streams'
abbrev pub column_faults : Query → ℕ → Column → List Fault
column_faults q i c =
    row (is_unknown_stream q c) i cause.UnknownStream
    ++ row (is_unknown_column q c) (i + length (second_words c.second)) cause.UnknownColumn
    ++ row (is_ambiguous q c) i cause.Ambiguous

-- the number that only its own minus makes small enough
abbrev pub factor_faults : Query → ℕ → Factor → List Fault
factor_faults q i (f.Column c) = column_faults q i c
factor_faults q i (f.Number n) = row (n == 9223372036854775808) i cause.NumberRange
factor_faults q i (f.Negative n) = []

-- its factors, and where it gets too wide
abbrev pub prod_faults : Query → ℕ → Prod → List Fault
prod_faults q i p = each factor_words (λ k. factor_faults q) 0 i (factors p) ++ passes factor_words times 1 i (factors p)

-- its products, and where their sum gets too wide
abbrev pub expr_faults : Query → ℕ → Expr → List Fault
expr_faults q i e = each prod_words (λ k. prod_faults q) 0 i (products e) ++ passes prod_words plus_fit 0 i (products e)

-- ---- the shape

-- COUNT, SUM, MIN and MAX
abbrev pub is_aggregate : Item → Bool
is_aggregate Count = true
is_aggregate (Sum e) = true
is_aggregate (Min e) = true
is_aggregate (Max e) = true
is_aggregate (Value e) = false

-- one of them is
abbrev pub any_aggregate : List Item → Bool
any_aggregate [] = false
any_aggregate (x ∷ xs) = is_aggregate x || any_aggregate xs

-- all items in order
abbrev pub items : Query → List Item
items q = q.item ∷ q.items

-- FROM names two streams
abbrev pub is_join : Query → Bool
is_join q = is_some q.second

-- one stream, and an aggregate or GROUP BY
abbrev pub is_group : Query → Bool
is_group q = not (is_join q) && (any_aggregate (items q) || is_some q.group)

-- every other query
abbrev pub is_selection : Query → Bool
is_selection q = not (is_join q) && not (is_group q)

-- ---- items

-- a column's own name
abbrev pub own_name : Column → List ℕ
own_name c = option_map_or (λ n. n) c.second c.first

-- neither has a second name, or both have the same
abbrev pub same_second : Option (List ℕ) → Option (List ℕ) → Bool
same_second m n = option_map_or (λ x. option_map_or (same x) n false) m (not (is_some n))

-- two names of the same words, whatever they name
abbrev pub same_words : Column → Column → Bool
same_words c d = same c.first d.first && same_second c.second d.second

-- two names of one stream of FROM
abbrev pub is_of_one : Query → Column → Column → Bool
is_of_one q c d = (is_of_first q c && is_of_first q d) || (is_of_second q c && is_of_second q d)

-- two names of the same words, or of one column of a stream of FROM, qualified or not: a name that is no column's is the same as itself alone
abbrev pub same_column : Query → Column → Column → Bool
same_column q c d = same_words c d || (same (own_name c) (own_name d) && is_of_one q c d)

-- whether the column is one of these
abbrev pub among_columns : Query → Column → List Column → Bool
among_columns q c [] = false
among_columns q c (d ∷ ds) = same_column q d c || among_columns q c ds

-- all columns of GROUP BY, or of PARTITION BY, in order
abbrev pub keys : Keys → List Column
keys k = k.first ∷ k.more

-- what PARTITION BY names in a stream's window
abbrev pub measure_keys : Measure → Option Keys
measure_keys Rows = None
measure_keys Range = None
measure_keys (Partition g) = Some g

abbrev pub partition_of : Source → Option Keys
partition_of s = option_and_then (λ w. measure_keys w.measure) s.window

-- whether the column is one of a list that may not be there
abbrev pub is_listed : Query → Column → Option Keys → Bool
is_listed q c o = option_map_or (λ k. among_columns q c (keys k)) o false

-- a column that GROUP BY or PARTITION BY names
abbrev pub is_column_key : Query → Factor → Bool
is_column_key q (f.Column c) = is_listed q c q.group || is_listed q c (partition_of q.from)
is_column_key q (f.Number n) = false
is_column_key q (f.Negative n) = false

-- a single column of GROUP BY or PARTITION BY
abbrev pub is_key : Query → Expr → Bool
is_key q e = length e.more == 0 && length e.first.more == 0 && is_column_key q e.first.first

-- the bound of a SUM's argument passes its own limit
abbrev pub is_sum_wide : Expr → Bool
is_sum_wide e = option_map_or (nat_lt (2 ^ 86)) (expr_bound e) false

-- an aggregate's argument stands two words behind its keyword; a SUM has a limit of its own, and a group query's other items must be keys
abbrev pub content_faults : Query → ℕ → Item → List Fault
content_faults q i Count = []
content_faults q i (Sum e) = row (is_sum_wide e) i cause.SumTooWide ++ expr_faults q (i + 2) e
content_faults q i (Min e) = expr_faults q (i + 2) e
content_faults q i (Max e) = expr_faults q (i + 2) e
content_faults q i (Value e) = row (is_group q && not (is_key q e)) i cause.NotGrouped ++ expr_faults q i e

-- at most 32 items; a join has no aggregate
abbrev pub item_faults : Query → ℕ → ℕ → Item → List Fault
item_faults q k i x = row (k == 32) i cause.TooMany ++ row (is_join q && is_aggregate x) i cause.Shape ++ content_faults q i x

-- ---- declarations

-- i is the index of the name
unfoldable pub column_name_faults : Decl → ℕ → ℕ → List ℕ → List Fault
column_name_faults d k i n = row (k == 32) i cause.TooMany ++ row (among n (take k (names d))) i cause.DuplicateName

-- at most 8 declarations, each name once; i is the index of the word STREAM
abbrev pub decl_faults : Query → ℕ → ℕ → Decl → List Fault
decl_faults q k i d =
    row (k == 8) i cause.TooMany
    ++ row (names_stream (take k (decls q)) d.name) (i + 1) cause.DuplicateName
    ++ each name_words (column_name_faults d) 0 (i + 3) (names d)

-- ---- lists of columns

-- at most 8 columns in GROUP BY or PARTITION BY, each once
abbrev pub key_faults : Query → Keys → ℕ → ℕ → Column → List Fault
key_faults q g k i c = row (k == 8) i cause.TooMany ++ row (among_columns q c (take k (keys g))) i cause.DuplicateName ++ column_faults q i c

-- those of all its columns, the first at i
abbrev pub keys_faults : Query → Keys → ℕ → List Fault
keys_faults q g i = each column_words (key_faults q g) 0 i (keys g)

-- ---- windows

-- sizes and slides are 1 to 2^40
abbrev pub is_out : ℕ → Bool
is_out n = nat_lt n 1 || nat_lt 1099511627776 n

-- in how many windows a point may lie: fewer in a join, where a row goes with others in each of its windows
abbrev pub most_windows : Query → ℕ
most_windows q = if is_join q then most_overlap_joined else most_overlap

-- a point lies in too many windows
abbrev pub is_overlapping : ℕ → Window → Bool
is_overlapping most w = not (is_out w.size) && not (is_out w.slide) && nat_lt most (overlap w.size w.slide)

-- i is the index of the size
abbrev pub sizes_faults : ℕ → ℕ → Window → List Fault
sizes_faults most i w =
    row (is_out w.size) i cause.WindowRange
    ++ row (is_out w.slide) (i + 2) cause.WindowRange
    ++ row (is_overlapping most w) i cause.Overlap

-- i is the index of its bracket: the columns of PARTITION BY, and what is behind the measure
abbrev pub window_faults : Query → ℕ → Window → List Fault
window_faults q i w = option_map_or (λ g. keys_faults q g (i + 3)) (measure_keys w.measure) [] ++ sizes_faults (most_windows q) (i + 1 + length (measure_words w.measure)) w

-- the streams of every query have windows, but for a selection without a word
abbrev pub has_windows : Query → Bool
has_windows q = not (is_selection q) || is_some q.word

-- only a group query without a word may have its rows parted by keys
abbrev pub may_partition : Query → Bool
may_partition q = is_group q && not (is_some q.word)

-- a stream of FROM: declared, with a window where the query's streams have windows, and without one where not
abbrev pub stream_faults : Query → ℕ → Source → List Fault
stream_faults q i s =
    row (not (is_declared q s.name)) i cause.UnknownStream
    ++ row (is_some s.window && not (has_windows q)) (i + 1) cause.Shape
    ++ row (has_windows q && not (is_some s.window)) i cause.Shape
    ++ row (is_some (partition_of s) && not (may_partition q)) (i + 1) cause.Shape

-- and what is wrong with its window
abbrev pub source_faults : Query → ℕ → Source → List Fault
source_faults q i s = stream_faults q i s ++ option_map_or (window_faults q (i + 1)) s.window []

-- sizes count timestamps
abbrev pub is_range : Measure → Bool
is_range Rows = false
is_range Range = true
is_range (Partition g) = false

-- both count rows, or both timestamps
abbrev pub same_measure : Measure → Measure → Bool
same_measure m n = if is_range m then is_range n else not (is_range n)

-- two windows that differ in measure or slide
abbrev pub is_apart : Option Window → Option Window → Bool
is_apart v w = option_map_or (λ x. option_map_or (λ y. not (same_measure x.measure y.measure && x.slide == y.slide)) w false) v false

-- the second stream of FROM is another than the first, and their windows pair
abbrev pub second_faults : Query → ℕ → Source → List Fault
second_faults q i s = row (same q.from.name s.name) i cause.DuplicateName ++ row (is_apart q.from.window s.window) (i + 1) cause.Shape ++ source_faults q i s

-- ---- predicates: the faults of their expressions

abbrev mutual
  pub test_faults : Query → ℕ → Test → List Fault
  test_faults q i (negated t) = test_faults q (i + 1) t
  test_faults q i (enclosed t a o) = test_faults q (i + 1) t ++ ands_faults q (i + 1 + length (test_words t)) a ++ ors_faults q (i + 1 + length (test_words t) + length (ands_words a)) o
  test_faults q i (compare x c y) = expr_faults q i x ++ expr_faults q (i + length (expr_words x) + 1) y

  pub ands_faults : Query → ℕ → Ands → List Fault
  ands_faults q i no_more = []
  ands_faults q i (and_also t a) = test_faults q (i + 1) t ++ ands_faults q (i + 1 + length (test_words t)) a

  pub ors_faults : Query → ℕ → Ors → List Fault
  ors_faults q i no_other = []
  ors_faults q i (or_else t a o) = test_faults q (i + 1) t ++ ands_faults q (i + 1 + length (test_words t)) a ++ ors_faults q (i + 1 + length (test_words t) + length (ands_words a)) o

-- ---- the whole

-- All that is wrong with the query, behind the places of SELECT, FROM, what is behind the first stream, WHERE and GROUP. A declaration is
-- the word STREAM and others; units behind WHERE stand as they would behind a parenthesis; and no join has GROUP BY, whose columns stand
-- two words behind GROUP.
abbrev pub faults : Query → List Fault
faults q =
    let select_at = length (decl_words q.decl ++ decls_words q.decls ++ opened_words q.word) in
    let from_at = select_at + length (outputs_words q.item q.items) in
    let second_at = from_at + 1 + length (source_words q.from) in
    let where_at = second_at + length (second_source_words q.second) in
    let group_at = where_at + length (where_words q.predicate) in
    each declared_words (decl_faults q) 0 0 (decls q)
    ++ each item_words (item_faults q) 0 (select_at + 1) (items q)
    ++ source_faults q (from_at + 1) q.from
    ++ option_map_or (second_faults q (second_at + 1)) q.second []
    ++ option_map_or (λ t. test_faults q where_at (enclosed_by t)) q.predicate []
    ++ option_map_or (λ g. row (is_join q) group_at cause.Shape ++ keys_faults q g (group_at + 2)) q.group []
