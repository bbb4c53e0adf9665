-- How many words the parts of a query have.
use Rattle.std.specs.Prelude.{ℕ, ◌+◌, List, [], ◌∷◌, Option, Some, None}
use Rattle.saber_query.specs.declared.tree.Column.{Column}
use Rattle.saber_query.specs.declared.tree.Factor.{Factor}
use Rattle.saber_query.specs.declared.tree.Factor.TheVariants as f
use Rattle.saber_query.specs.declared.tree.Prod.{Prod}
use Rattle.saber_query.specs.declared.tree.Term.{Term}
use Rattle.saber_query.specs.declared.tree.Expr.{Expr}
use Rattle.saber_query.specs.declared.tree.Item.{Item}
use Rattle.saber_query.specs.declared.tree.Item.TheVariants.{Count, Sum, Min, Max, Value}
use Rattle.saber_query.specs.declared.tree.Measure.{Measure}
use Rattle.saber_query.specs.declared.tree.Measure.TheVariants.{Rows, Range, Partition}
use Rattle.saber_query.specs.declared.tree.Window.{Window}
use Rattle.saber_query.specs.declared.tree.StreamWord.{StreamWord}
use Rattle.saber_query.specs.declared.tree.Source.{Source}
use Rattle.saber_query.specs.declared.tree.Decl.{Decl}
use Rattle.saber_query.specs.declared.tree.Keys.{Keys}
use Rattle.saber_query.specs.Trees.{Test, negated, enclosed, compare, Ands, no_more, and_also, Ors, no_other, or_else, Tests, Both}

-- parts that each have a word before
abbrev pub span : {X : Type 0} → (X → ℕ) → List X → ℕ
span width [] = 0
span width (x ∷ xs) = 1 + width x + span width xs

-- a name is one word
abbrev pub name_width : List ℕ → ℕ
name_width n = 1

-- a dot and a name
abbrev pub second_width : Option (List ℕ) → ℕ
second_width None = 0
second_width (Some n) = 2

-- a name, or two with a dot between
abbrev pub column_width : Column → ℕ
column_width c = 1 + second_width c.second

-- a minus is a word
abbrev pub factor_width : Factor → ℕ
factor_width (f.Column c) = column_width c
factor_width (f.Number n) = 1
factor_width (f.Negative n) = 2

-- factors with a star between
abbrev pub prod_width : Prod → ℕ
prod_width p = factor_width p.first + span factor_width p.more

-- without its sign
abbrev pub term_width : Term → ℕ
term_width t = prod_width t.prod

-- products with a sign between
abbrev pub expr_width : Expr → ℕ
expr_width e = prod_width e.first + span term_width e.more

-- a keyword and parentheses are words
abbrev pub item_width : Item → ℕ
item_width Count = 4
item_width (Sum e) = 3 + expr_width e
item_width (Min e) = 3 + expr_width e
item_width (Max e) = 3 + expr_width e
item_width (Value e) = expr_width e

-- ROWS, RANGE, or PARTITION BY, columns and ROWS
abbrev pub measure_width : Measure → ℕ
measure_width Rows = 1
measure_width Range = 1
measure_width (Partition g) = 2 + (column_width g.first + span column_width g.more) + 1

-- bracket, measure, size, SLIDE, slide, bracket
abbrev pub window_width : Option Window → ℕ
window_width None = 0
window_width (Some w) = 5 + measure_width w.measure

-- a name and its window
abbrev pub source_width : Source → ℕ
source_width s = 1 + window_width s.window

-- with the comma before
abbrev pub second_source_width : Option Source → ℕ
second_source_width None = 0
second_source_width (Some s) = 1 + source_width s

abbrev mutual
  pub test_width : Test → ℕ
  test_width (negated t) = 1 + test_width t
  test_width (enclosed t a o) = 1 + test_width t + ands_width a + ors_width o + 1
  test_width (compare x c y) = expr_width x + 1 + expr_width y

  pub ands_width : Ands → ℕ
  ands_width no_more = 0
  ands_width (and_also t a) = 1 + test_width t + ands_width a

  pub ors_width : Ors → ℕ
  ors_width no_other = 0
  ors_width (or_else t a o) = 1 + test_width t + ands_width a + ors_width o

-- units with AND between
abbrev pub both_width : Both → ℕ
both_width b = test_width b.first + ands_width b.ands

-- those with OR between
abbrev pub tests_width : Tests → ℕ
tests_width t = test_width t.first + ands_width t.ands + ors_width t.ors

-- with the word WHERE
abbrev pub where_width : Option Tests → ℕ
where_width None = 0
where_width (Some t) = 1 + tests_width t

-- without its semicolon
abbrev pub decl_width : Decl → ℕ
decl_width d = 5 + span name_width d.more

-- a word and its parenthesis, and the one that closes it
abbrev pub opened_width : Option StreamWord → ℕ
opened_width None = 0
opened_width (Some w) = 2

abbrev pub shut_width : Option StreamWord → ℕ
shut_width None = 0
shut_width (Some w) = 1

-- with the words GROUP BY
abbrev pub group_width : Option Keys → ℕ
group_width None = 0
group_width (Some k) = 2 + column_width k.first + span column_width k.more
