-- Rows under their timestamps and lines.
use Rattle.std.proofs.Common.{◌≡◌, ℕ, ◌+◌, ◌<◌, map, List, [], ◌∷◌, Bool, true, false, cond, nat_lt, ◌==◌, Some, slice_get, refl, sym, ◌∙◌, ap, arith}
use Rattle.std.specs.List.{AllByRecursion}
use Rattle.std.specs.BTreeMap.{insert_entry}
use Rattle.std.specs.Ordering.{nat_cmp, ordering_then, match_ordering}
use Rattle.std.specs.declared.cmp.Ordering.{Ordering}
use Rattle.std.specs.declared.cmp.Ordering.TheVariants.{Less, Equal, Greater}
use Rattle.std.proofs.lemmas.Bool.Decides.{nat_tests}
use Rattle.saber_plan.specs.declared.rows.Row.{Row}
use Rattle.saber_plan.specs.Rows.{stamp, in_time}
use Rattle.saber_rows.specs.HeldRows.{IsRanked, first_stamp}
use Rattle.saber_rows.specs.declared.waiting.Rank.{Rank}

-- by timestamp, then by line
abbrev pub rank_cmp : Rank → Rank → Ordering
rank_cmp a b = ordering_then (nat_cmp a.stamp b.stamp) (nat_cmp a.line b.line)

before : (a b : Rank) → nat_lt a.stamp b.stamp ≡ true → rank_cmp a b ≡ Less
before a b e = ap (λ c. ordering_then (cond c Less (cond (a.stamp == b.stamp) Equal Greater)) (nat_cmp a.line b.line)) e

not_before : (x y : ℕ) → y < x → nat_lt x y ≡ false
not_before x y h = grind (arith, nat_tests)

not_equal : (x y : ℕ) → y < x → (x == y) ≡ false
not_equal x y h = grind (arith, nat_tests)

line_behind : (x y : ℕ) → y < x → nat_cmp x y ≡ Greater
line_behind x y h = ap (λ c. cond c Less (cond (x == y) Equal Greater)) (not_before x y h) ∙ ap (λ c. cond c Equal Greater) (not_equal x y h)

behind : (a b : Rank) → nat_lt a.stamp b.stamp ≡ false → b.line < a.line → rank_cmp a b ≡ Greater
behind a b e h =
    ap (λ c. ordering_then (cond c Less (cond (a.stamp == b.stamp) Equal Greater)) (nat_cmp a.line b.line)) e
    ∙ elim (a.stamp == b.stamp) as (λ c. ordering_then (cond c Equal Greater) (nat_cmp a.line b.line) ≡ Greater) [
      | true ↦ line_behind a.line b.line h
      | false ↦ refl
    ]

abbrev Before : ℕ → Rank × Row → Type 0
Before line e = e.0.line < line

module _ (k : Rank) (row : Row) (own : k.stamp ≡ stamp row.values) where
  abbrev put : List (Rank × Row) → List (Rank × Row)
  put es = insert_entry rank_cmp es k row

  -- a new rank goes before the first of a later timestamp
  at_first : (e : Rank × Row) (es : List (Rank × Row)) → nat_lt k.stamp e.0.stamp ≡ true → put (e ∷ es) ≡ (k, row) ∷ e ∷ es
  at_first e es h = ap (λ o. match_ordering o ((k, row) ∷ e ∷ es) ((e.0, row) ∷ es) (e ∷ put es)) (before k e.0 h)

  further : (e : Rank × Row) (es : List (Rank × Row)) → nat_lt k.stamp e.0.stamp ≡ false → e.0.line < k.line → put (e ∷ es) ≡ e ∷ put es
  further e es h l = ap (λ o. match_ordering o ((k, row) ∷ e ∷ es) ((e.0, row) ∷ es) (e ∷ put es)) (behind k e.0 h l)

  rows_by : (e : Rank × Row) (es : List (Rank × Row)) → IsRanked e → e.0.line < k.line → map (λ x. x.1) (put es) ≡ in_time row (map (λ x. x.1) es) → (b : Bool) → nat_lt k.stamp e.0.stamp ≡ b
      → map (λ x. x.1) (put (e ∷ es)) ≡ in_time row (e.1 ∷ map (λ x. x.1) es)
  rows_by e es r l rest true h =
      ap (map (λ x. x.1)) (at_first e es h)
      ∙ ap (λ c. cond c (row ∷ e.1 ∷ map (λ x. x.1) es) (e.1 ∷ in_time row (map (λ x. x.1) es))) (sym h ∙ (λ i. nat_lt (own i) (r i)))
  rows_by e es r l rest false h =
      ap (map (λ x. x.1)) (further e es h l)
      ∙ ap (λ xs. e.1 ∷ xs) rest
      ∙ ap (λ c. cond c (row ∷ e.1 ∷ map (λ x. x.1) es) (e.1 ∷ in_time row (map (λ x. x.1) es))) (sym h ∙ (λ i. nat_lt (own i) (r i)))

  -- so it stands in order of time
  pub put_in_time : (es : List (Rank × Row)) → AllByRecursion IsRanked es → AllByRecursion (Before k.line) es → map (λ x. x.1) (put es) ≡ in_time row (map (λ x. x.1) es)
  put_in_time [] r l = refl
  put_in_time (e ∷ es) r l = rows_by e es r.0 l.0 (put_in_time es r.1 l.1) (nat_lt k.stamp e.0.stamp) refl

  all_by : (P : Rank × Row → Type 0) (e : Rank × Row) (es : List (Rank × Row)) → P (k, row) → P e → AllByRecursion P es → AllByRecursion P (put es) → e.0.line < k.line → (b : Bool) → nat_lt k.stamp e.0.stamp ≡ b → AllByRecursion P (put (e ∷ es))
  all_by P e es p q h rest l true t = rw (at_first e es t) (p, (q, h))
  all_by P e es p q h rest l false t = rw (further e es t l) (q, rest)

  pub put_all : (P : Rank × Row → Type 0) (es : List (Rank × Row)) → P (k, row) → AllByRecursion P es → AllByRecursion (Before k.line) es → AllByRecursion P (put es)
  put_all P [] p h l = (p, tt)
  put_all P (e ∷ es) p h l = all_by P e es p h.0 h.1 (put_all P es p h.1 l.1) l.0 (nat_lt k.stamp e.0.stamp) refl

-- a later line is behind too
pub before_more : (line : ℕ) (es : List (Rank × Row)) → AllByRecursion (Before line) es → AllByRecursion (Before (line + 1)) es
before_more line [] h = tt
before_more line (e ∷ es) h = (omega (arith, h.0), before_more line es h.1)

rank_same : (a b : Rank × Row) → Some a ≡ Some b → a ≡ b
rank_same a b e = cc

-- the first row's timestamp is that of its rank
pub first_rank : (es : List (Rank × Row)) (k : Rank) (row : Row) → slice_get es 0 ≡ Some (k, row) → AllByRecursion IsRanked es → Some k.stamp ≡ first_stamp (map (λ e. e.1) es)
first_rank [] k row e h = absurd cc
first_rank (f ∷ es) k row e h = let same : f ≡ (k, row) = rank_same f (k, row) e in ap (λ x. Some x.0.stamp) (sym same) ∙ ap Some h.0
