-- Rows that are held: in order of time, and how many of them wait.
use Rattle.std.proofs.Common.{◌≡◌, ℕ, ◌+◌, ◌<◌, ◌≤◌, min, filter, length, List, [], ◌∷◌, Bool, true, false, not, cond, nat_lt, nat_le, Option, Some, None, ℤ, refl, sym, ◌∙◌, ap, arith}
use Rattle.std.specs.List.{AllByRecursion}
use Rattle.std.proofs.lemmas.Bool.Decides.{nat_tests}
use Rattle.saber_plan.specs.declared.rows.Row.{Row}
use Rattle.saber_plan.specs.Rows.{SideRules, Place, stamp, falls, late, is_due, due, waiting_rows, raised_time, in_time, crowds}
use Rattle.saber_rows.specs.Judged.{is_ready_at}
use Rattle.saber_rows.specs.HeldRows.{InTime, first_stamp, least_of}

-- ---- a row more

pub length-in_time : (r : Row) (xs : List Row) → length (in_time r xs) ≡ length xs + 1
length-in_time r [] = refl
length-in_time r (x ∷ xs) = elim (nat_lt (stamp r.values) (stamp x.values)) as (λ b. length (cond b (r ∷ x ∷ xs) (x ∷ in_time r xs)) ≡ length (x ∷ xs) + 1) [
  | true ↦ omega arith
  | false ↦ omega (arith, length-in_time r xs)
]

pub all-in_time : (P : Row → Type 0) (r : Row) (xs : List Row) → P r → AllByRecursion P xs → AllByRecursion P (in_time r xs)
all-in_time P r [] p h = (p, tt)
all-in_time P r (x ∷ xs) p h = elim (nat_lt (stamp r.values) (stamp x.values)) as (λ b. AllByRecursion P (cond b (r ∷ x ∷ xs) (x ∷ in_time r xs))) [
  | true ↦ (p, h)
  | false ↦ (h.0, all-in_time P r xs p h.1)
]

not_less : (x y : ℕ) → nat_lt x y ≡ true → nat_lt y x ≡ false
not_less x y e = grind (arith, nat_tests)

stays_by : (last : Option ℕ) (r x : Row) (xs : List Row) → falls last r.values ≡ false → InTime last (x ∷ xs) → (falls (Some (stamp x.values)) r.values ≡ false → InTime (Some (stamp x.values)) (in_time r xs)) → (b : Bool) → nat_lt (stamp r.values) (stamp x.values) ≡ b → InTime last (cond b (r ∷ x ∷ xs) (x ∷ in_time r xs))
stays_by last r x xs f h rest true e = (f, (not_less (stamp r.values) (stamp x.values) e, h.1))
stays_by last r x xs f h rest false e = (h.0, rest e)

-- the order stays
pub in_time_stays : (last : Option ℕ) (r : Row) (xs : List Row) → falls last r.values ≡ false → InTime last xs → InTime last (in_time r xs)
in_time_stays last r [] f h = (f, tt)
in_time_stays last r (x ∷ xs) f h = stays_by last r x xs f h (λ e. in_time_stays (Some (stamp x.values)) r xs e h.1) (nat_lt (stamp r.values) (stamp x.values)) refl

-- ---- rows that are due

pub due_stays : (slack : ℕ) (high : Option ℕ) (t u : ℕ) → is_ready_at slack high u ≡ true → is_ready_at slack (Some (raised_time high t)) u ≡ true
due_stays slack None t u e = cc
due_stays slack (Some h) t u e = grind (arith, nat_tests)

-- a row that is not late does not come before one that is due
pub not_before_due : (slack : ℕ) (high : Option ℕ) (zs : List ℤ) (u : ℕ) → late slack high zs ≡ false → is_ready_at slack high u ≡ true → nat_lt (stamp zs) u ≡ false
not_before_due slack None zs u l d = cc
not_before_due slack (Some h) zs u l d = grind (arith, nat_tests)

pub due_is_ready : (slack : ℕ) (high : Option ℕ) (x : Row) → is_due slack high x ≡ is_ready_at slack high (stamp x.values)
due_is_ready slack None x = refl
due_is_ready slack (Some h) x = refl

-- ---- how many wait

module _ (f : Row → Bool) where
  pub few_filtered : (xs : List Row) → length (filter f xs) ≤ length xs
  few_filtered [] = omega arith
  few_filtered (x ∷ xs) = elim (f x) as (λ b. length (cond b (x ∷ filter f xs) (filter f xs)) ≤ length (x ∷ xs)) [
    | true ↦ omega (arith, few_filtered xs)
    | false ↦ omega (arith, few_filtered xs)
  ]

  pub split_length : (xs : List Row) → length (filter f xs) + length (filter (λ x. not (f x)) xs) ≡ length xs
  split_length [] = refl
  split_length (x ∷ xs) = elim (f x) as (λ b. length (cond b (x ∷ filter f xs) (filter f xs)) + length (cond (not b) (x ∷ filter (λ y. not (f y)) xs) (filter (λ y. not (f y)) xs)) ≡ length (x ∷ xs)) [
    | true ↦ omega (arith, split_length xs)
    | false ↦ omega (arith, split_length xs)
  ]

-- where no row is due all wait
pub all_wait : (s : SideRules) (p : Place) → due s p ≡ [] → length p.accepted ≡ length (waiting_rows s p)
all_wait s p e = let all = split_length (is_due s.slack p.high) p.accepted in let none = ap length e in omega (arith, all, none)

abbrev not_due : ℕ → ℕ → Row → Bool
not_due slack h r = not (is_due slack (Some h) r)

later_waits : (slack h t u : ℕ) → nat_lt u t ≡ false → nat_le (t + slack) h ≡ false → nat_le (u + slack) h ≡ false
later_waits slack h t u e f = grind (arith, nat_tests)

behind_wait : (slack h t : ℕ) (xs : List Row) → InTime (Some t) xs → nat_le (t + slack) h ≡ false → length (filter (not_due slack h) xs) ≡ length xs
behind_wait slack h t [] i e = refl
behind_wait slack h t (x ∷ xs) i e =
    let w = later_waits slack h t (stamp x.values) i.0 e in
    ap (λ b. length (cond (not b) (x ∷ filter (not_due slack h) xs) (filter (not_due slack h) xs))) w
    ∙ omega (arith, behind_wait slack h (stamp x.values) xs i.1 w)

is_above : (room n : ℕ) → room < n → nat_lt room n ≡ true
is_above room n h = grind (arith, nat_tests)

pub is_not_above : (room n : ℕ) → n ≤ room → nat_lt room n ≡ false
is_not_above room n h = grind (arith, nat_tests)

module _ (slack h room : ℕ) where
  -- with as many rows as there is room for, and one more, too many wait unless the first is due
  by_first : (y : Row) (ys : List Row) → InTime (Some (stamp y.values)) ys → length ys ≡ room → (b : Bool) → nat_le (stamp y.values + slack) h ≡ b → nat_lt room (length (filter (not_due slack h) (y ∷ ys))) ≡ not b
  by_first y ys i n true e =
      ap (λ b. nat_lt room (length (cond (not b) (y ∷ filter (not_due slack h) ys) (filter (not_due slack h) ys)))) e
      ∙ is_not_above room _ (omega (arith, few_filtered (not_due slack h) ys, n))
  by_first y ys i n false e =
      ap (λ b. nat_lt room (length (cond (not b) (y ∷ filter (not_due slack h) ys) (filter (not_due slack h) ys)))) e
      ∙ is_above room _ (omega (arith, behind_wait slack h (stamp y.values) ys i e, n))

  least_left : (t u : ℕ) → nat_lt t u ≡ true → t ≡ min u t
  least_left t u e = grind (arith, nat_tests)

  least_right : (t u : ℕ) → nat_lt t u ≡ false → u ≡ min u t
  least_right t u e = grind (arith, nat_tests)

  pub crowded_none : (r : Row) → room ≡ 0 → nat_lt room (length (filter (not_due slack h) (in_time r []))) ≡ not (nat_le (stamp r.values + slack) h)
  crowded_none r e = by_first r [] tt (sym e) (nat_le (stamp r.values + slack) h) refl

  crowded_by : (last : Option ℕ) (r x : Row) (xs : List Row) → InTime last (x ∷ xs) → length xs + 1 ≡ room → (b : Bool) → nat_lt (stamp r.values) (stamp x.values) ≡ b
      → nat_lt room (length (filter (not_due slack h) (cond b (r ∷ x ∷ xs) (x ∷ in_time r xs)))) ≡ not (nat_le (min (stamp x.values) (stamp r.values) + slack) h)
  crowded_by last r x xs i n true e =
      by_first r (x ∷ xs) (not_less (stamp r.values) (stamp x.values) e, i.1) (omega (arith, n)) (nat_le (stamp r.values + slack) h) refl
      ∙ ap (λ t. not (nat_le (t + slack) h)) (least_left (stamp r.values) (stamp x.values) e)
  crowded_by last r x xs i n false e =
      by_first x (in_time r xs) (in_time_stays (Some (stamp x.values)) r xs e i.1) (length-in_time r xs ∙ n) (nat_le (stamp x.values + slack) h) refl
      ∙ ap (λ t. not (nat_le (t + slack) h)) (least_right (stamp r.values) (stamp x.values) e)

  pub crowded_some : (last : Option ℕ) (r x : Row) (xs : List Row) → InTime last (x ∷ xs) → length xs + 1 ≡ room → nat_lt room (length (filter (not_due slack h) (in_time r (x ∷ xs)))) ≡ not (nat_le (min (stamp x.values) (stamp r.values) + slack) h)
  crowded_some last r x xs i n = crowded_by last r x xs i n (nat_lt (stamp r.values) (stamp x.values)) refl

-- how many wait with one row more
pub few_crowds : (s : SideRules) (p : Place) (zs : List ℤ) → length p.accepted < s.room → crowds s p zs ≡ false
few_crowds s p zs h =
    let row : Row = record { side = s.side; values = zs } in
    is_not_above s.room _ (omega (arith, few_filtered (λ r. not (is_due s.slack (Some (raised_time p.high (stamp zs))) r)) (in_time row p.accepted), length-in_time row p.accepted, h))

full_by : (slack h room : ℕ) (last : Option ℕ) (r : Row) (xs : List Row) → InTime last xs → length xs ≡ room → nat_lt room (length (filter (not_due slack h) (in_time r xs))) ≡ not (nat_le (least_of xs (stamp r.values) + slack) h)
full_by slack h room last r [] i n = crowded_none slack h room r (sym n)
full_by slack h room last r (x ∷ xs) i n = crowded_some slack h room last r x xs i (omega (arith, n))

pub full_crowds : (s : SideRules) (p : Place) (last : Option ℕ) (zs : List ℤ) → InTime last p.accepted → length p.accepted ≡ s.room → crowds s p zs ≡ not (is_ready_at s.slack (Some (raised_time p.high (stamp zs))) (least_of p.accepted (stamp zs)))
full_crowds s p last zs i n = full_by s.slack (raised_time p.high (stamp zs)) s.room last (record { side = s.side; values = zs }) p.accepted i n

-- ---- where the first is not due none is

later_not_ready : (slack : ℕ) (high : Option ℕ) (t u : ℕ) → nat_lt u t ≡ false → is_ready_at slack high t ≡ false → is_ready_at slack high u ≡ false
later_not_ready slack None t u e f = refl
later_not_ready slack (Some h) t u e f = later_waits slack h t u e f

none_behind : (slack : ℕ) (high : Option ℕ) (t : ℕ) (xs : List Row) → InTime (Some t) xs → is_ready_at slack high t ≡ false → filter (is_due slack high) xs ≡ []
none_behind slack high t [] i f = refl
none_behind slack high t (x ∷ xs) i f =
    let w = later_not_ready slack high t (stamp x.values) i.0 f in
    ap (λ b. cond b (x ∷ filter (is_due slack high) xs) (filter (is_due slack high) xs)) (due_is_ready slack high x ∙ w) ∙ none_behind slack high (stamp x.values) xs i.1 w

some_same : (t u : ℕ) → Some t ≡ Some u → t ≡ u
some_same t u e = cc

pub none_due : (slack : ℕ) (high last : Option ℕ) (xs : List Row) (t : ℕ) → InTime last xs → Some t ≡ first_stamp xs → is_ready_at slack high t ≡ false → filter (is_due slack high) xs ≡ []
none_due slack high last [] t i e f = refl
none_due slack high last (x ∷ xs) t i e f =
    let w : is_ready_at slack high (stamp x.values) ≡ false = sym (ap (is_ready_at slack high) (some_same t (stamp x.values) e)) ∙ f in
    ap (λ b. cond b (x ∷ filter (is_due slack high) xs) (filter (is_due slack high) xs)) (due_is_ready slack high x ∙ w) ∙ none_behind slack high (stamp x.values) xs i.1 w
