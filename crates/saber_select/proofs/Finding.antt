-- The rows found among placed rows.
use Rattle.std.proofs.Common.{◌≡◌, ℕ, suc, ◌+◌, ◌≤◌, ◌<◌, List, [], ◌∷◌, ◌++◌, map, filter, length, Bool, true, false, cond, refl, ◌∙◌, ap, arith}
use Rattle.std.proofs.lemmas.List.{map-append}
use Rattle.std.proofs.lemmas.List.Elements.{filter-append}
use Rattle.std.specs.List.{AllByRecursion}
use Rattle.saber_plan.specs.declared.rows.Side.{Side}
use Rattle.saber_plan.specs.declared.rows.Side.TheVariants.{Left, Right}
use Rattle.saber_plan.specs.declared.rows.Row.{Row}
use Rattle.saber_plan.specs.declared.rows.Values.{Values}
use Rattle.saber_plan.specs.declared.windows.Mark.{Mark}
use Rattle.saber_plan.specs.Trees.{Tree}
use Rattle.saber_plan.specs.Values.{passes}
use Rattle.saber_plan.specs.Windows.{Placed, place, step_mark, mark_after, placed_after}
use Rattle.saber_plan.specs.Facts.Lists.{Each, each-filter}
use Rattle.saber_select.specs.Found.{Found, found_row, found_of, Rises}

-- ---- one row

one_case : (q : Tree) (x : Placed) (b : Bool) → map (found_row q) (cond b (x ∷ []) []) ≡ cond b (found_row q x ∷ []) []
one_case q x true = refl
one_case q x false = refl

pub found_one : (q : Tree) (x : Placed) (b : Bool) → passes q.predicate x.row.values [] ≡ b → found_of q (x ∷ []) ≡ cond b (found_row q x ∷ []) []
found_one q x b e = one_case q x (passes q.predicate x.row.values []) ∙ ap (λ c. cond c (found_row q x ∷ []) []) e

pub found_append : (q : Tree) (us vs : List Placed) → found_of q (us ++ vs) ≡ found_of q us ++ found_of q vs
found_append q us vs = ap (map (found_row q)) (filter-append (λ (x : Placed). passes q.predicate x.row.values []) us vs) ∙ map-append _ _ _

-- ---- what holds of each row

pub found_each : (P : Found → Type 0) (q : Tree) (us : List Placed) → Each (λ (x : Placed). P (found_row q x)) us → AllByRecursion P (found_of q us)
found_each P q [] h = tt
found_each P q (u ∷ us) h = elim (passes q.predicate u.row.values []) as (λ b. AllByRecursion P (map (found_row q) (cond b (u ∷ filter (λ (x : Placed). passes q.predicate x.row.values []) us) (filter (λ (x : Placed). passes q.predicate x.row.values []) us)))) [
  | true ↦ (h.0, found_each P q us h.1)
  | false ↦ found_each P q us h.1
]

-- ---- positions

abbrev pub behind : Mark → ℕ
behind m = m.left + m.right

behind_step : (m : Mark) (s : Side) (v : Values) → behind (step_mark m (record { side = s; values = v })) ≡ behind m + 1
behind_step m Left v = omega arith
behind_step m Right v = omega arith

pub behind_after : (m : Mark) (xs : List Row) → behind (mark_after m xs) ≡ behind m + length xs
behind_after m [] = omega arith
behind_after m (x ∷ xs) = let one = behind_step m x.side x.values in let rest = behind_after (step_mark m x) xs in omega arith

pub placed_below : (m : Mark) (xs : List Row) (n : ℕ) → behind m + length xs ≤ n → Each (λ (x : Placed). place x < n) (placed_after m xs)
unfolding placed_after
placed_below m [] n h = tt
placed_below m (x ∷ xs) n h = (omega arith, let one = behind_step m x.side x.values in placed_below (step_mark m x) xs n (omega arith))

pub placed_from : (m : Mark) (xs : List Row) (n : ℕ) → n ≤ behind m → Each (λ (x : Placed). n ≤ place x) (placed_after m xs)
unfolding placed_after
placed_from m [] n h = tt
placed_from m (x ∷ xs) n h = (h, let one = behind_step m x.side x.values in placed_from (step_mark m x) xs n (omega (arith, one, h)))

-- ---- the rows found rise

abbrev pub Rising : List Placed → Type 0
Rising [] = Unit {0}
Rising (x ∷ xs) = Each (λ (y : Placed). suc (place x) ≤ place y) xs × Rising xs

pub rising-filter : (p : Placed → Bool) (xs : List Placed) → Rising xs → Rising (filter p xs)
rising-filter p [] h = tt
rising-filter p (x ∷ xs) h = elim (p x) as (λ b. Rising (cond b (x ∷ filter p xs) (filter p xs))) [ true ↦ (each-filter (λ (y : Placed). suc (place x) ≤ place y) p xs h.0, rising-filter p xs h.1) | false ↦ rising-filter p xs h.1 ]

pub placed_rising : (m : Mark) (xs : List Row) → Rising (placed_after m xs)
unfolding placed_after
placed_rising m [] = tt
placed_rising m (x ∷ xs) = (let one = behind_step m x.side x.values in placed_from (step_mark m x) xs (suc (behind m)) (omega (arith, one)), placed_rising (step_mark m x) xs)

pub found_rises : (q : Tree) (us : List Placed) → Rising us → Rises (found_of q us)
found_rises q [] h = tt
found_rises q (u ∷ us) h = elim (passes q.predicate u.row.values []) as (λ b. Rises (map (found_row q) (cond b (u ∷ filter (λ (x : Placed). passes q.predicate x.row.values []) us) (filter (λ (x : Placed). passes q.predicate x.row.values []) us)))) [
  | true ↦ (found_each (λ (f : Found). suc (place u) ≤ f.0) q us h.0, found_rises q us h.1)
  | false ↦ found_rises q us h.1
]
