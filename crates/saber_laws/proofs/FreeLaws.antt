-- The free pointer: how far back a task looks, and that it does not go back.
use Rattle.std.proofs.Common.{◌≡◌, ℕ, suc, ◌+◌, ◌-◌, ◌*◌, ◌/◌, ◌≤◌, ◌<◌, List, [], ◌∷◌, ◌++◌, filter, length, take, slice_range, Bool, true, false, cond, ◌||◌, nat_le, Option, Some, None, refl, sym, ◌∙◌, ap, subst, length-take, le_refl, le_trans, ⊎_elim, arith}
use Rattle.std.proofs.Math.Nat.{le-div_iff_mul-le}
use Rattle.std.specs.List.{list_any}
use Rattle.std.specs.Option.{option_map_or}
use Rattle.saber_plan.specs.Inputs.{Input, first_arrivals}
use Rattle.std.proofs.lemmas.Bool.{le-leb, leb-true, cases_lt, both_ways, false_from_ne_true}
use Rattle.saber_plan.specs.declared.plans.Shape.TheVariants.{Select, Group, Join}
use Rattle.saber_plan.specs.Trees.{Tree}
use Rattle.saber_plan.specs.Windows.{Frame, Fits, no_rows, mark_of, last_mark, mark_at, Ordered, Placed, place, placed_after, placed_from_start, has, closed_count, begun_count, past_count, from}
use Rattle.saber_plan.specs.Answers.{by_shape, frame}
use Rattle.saber_plan.specs.Tasks.{task_start, upto, piece}
use Rattle.saber_plan.specs.Needs.{lies_open, first_place, first_open, free, piece_here, back_rows, task_rows, task_ends, back_mark}
use Rattle.saber_laws.proofs.RowLaws.{slice-placed, Ordered-take, take-placed}
use Rattle.saber_plan.specs.Facts.Lists.{Each, each-weaker, slice-join, slice-front, nothing_behind}
use Rattle.saber_plan.specs.Facts.Rows.{length-placed}
use Rattle.saber_laws.proofs.PairLaws.{Rising, placed_from, placed_below, placed_rising}
use Rattle.saber_laws.proofs.EndLaws.{closed_on}
use Rattle.saber_laws.proofs.TaskCutLaws.{cut_rises, cuts_rise, row_before, row_from, cut_by}
use Rattle.saber_laws.proofs.NeedLaws.{lies_found, lies_at, Begun_by, input_begun, Not_past, behind_take, piece_here_is}

-- ---- division

-- where n is at least 1
at_most : (p n : ℕ) → 1 ≤ n → p / n * n ≤ p
at_most p n h = let iff = le-div_iff_mul-le {k = n} {x = p / n} {y = p} h in iff.0 (le_refl _)

pub div_below : (p n t : ℕ) → 1 ≤ n → p < t * n → p / n < t
div_below p n t h l = ⊎_elim (λ g. g) (λ g. let back = (le-div_iff_mul-le {k = n} {x = t} {y = p} h).0 g in absurd (omega arith)) (cases_lt (p / n) t)

pub div_from : (p n t : ℕ) → 1 ≤ n → t * n ≤ p → t ≤ p / n
div_from p n t h l = (le-div_iff_mul-le {k = n} {x = t} {y = p} h).1 l

div_rises : (p r n : ℕ) → 1 ≤ n → p ≤ r → p / n ≤ r / n
div_rises p r n h l = div_from r n (p / n) h (le_trans (at_most p n h) l)

-- ---- the first open row

pub first_below : (l : Placed → Bool) (n : ℕ) (ps : List Placed) → Each (λ x. place x < n) ps → (p : ℕ) → first_place (filter l ps) ≡ Some p → p < n
first_below l n [] h p e = cc
first_below l n (x ∷ ps) h p e =
    elim (l x) as (λ b. first_place (cond b (x ∷ filter l ps) (filter l ps)) ≡ Some p → p < n) [ true ↦ λ g. let same : place x ≡ p = cc in subst (λ k. k < n) same h.0 | false ↦ λ g. first_below l n ps h.1 p g ] e

pub first_from : (l : Placed → Bool) (n : ℕ) (ps : List Placed) → Each (λ x. n ≤ place x) ps → (p : ℕ) → first_place (filter l ps) ≡ Some p → n ≤ p
first_from l n [] h p e = cc
first_from l n (x ∷ ps) h p e =
    elim (l x) as (λ b. first_place (cond b (x ∷ filter l ps) (filter l ps)) ≡ Some p → n ≤ p) [ true ↦ λ g. let same : place x ≡ p = cc in subst (λ k. n ≤ k) same h.0 | false ↦ λ g. first_from l n ps h.1 p g ] e

-- there is a first one, at most here
abbrev pub By : ℕ → Option ℕ → Type 0
By p o = option_map_or (λ r. nat_le r p) o false ≡ true

by_case : (l k : Placed → Bool) (n p : ℕ) (x : Placed) (us vs : List Placed) → place x < n → p < n → Each (λ y. place x < place y) (us ++ vs) → (l x ≡ true → k x ≡ true) → (first_place (filter l (us ++ vs)) ≡ Some p → By p (first_place (filter k us)))
    → (b c : Bool) → l x ≡ b → k x ≡ c → first_place (cond b (x ∷ filter l (us ++ vs)) (filter l (us ++ vs))) ≡ Some p → By p (first_place (cond c (x ∷ filter k us) (filter k us)))
by_case l k n p x us vs g h r f rest true true lb kc e = let same : place x ≡ p = cc in le-leb (place x) p (omega arith)
by_case l k n p x us vs g h r f rest true false lb kc e = absurd (both_ways _ kc (f lb))
by_case l k n p x us vs g h r f rest false true lb kc e = le-leb (place x) p (let later = first_from l (suc (place x)) (us ++ vs) r p e in omega arith)
by_case l k n p x us vs g h r f rest false false lb kc e = rest e

-- the first row that l passes is early, and k passes each early row that l does: k's first row is no later
by_first : (l k : Placed → Bool) (n p : ℕ) (us vs : List Placed) → Rising (us ++ vs) → Each (λ x. place x < n) us → Each (λ x. n ≤ place x) vs → Each (λ x. l x ≡ true → k x ≡ true) us → p < n
    → first_place (filter l (us ++ vs)) ≡ Some p → By p (first_place (filter k us))
by_first l k n p [] vs r g h f b e = absurd (let far = first_from l n vs h p e in omega arith)
by_first l k n p (x ∷ us) vs r g h f b e = by_case l k n p x us vs g.0 b r.0 f.0 (by_first l k n p us vs r.1 g.1 h f.1 b) _ _ refl refl e

-- a window that is open at a later position was open before
open_before : (f : Frame) → Fits f → (r : Input) (x y : ℕ) → Ordered no_rows r.rows → x ≤ y → (p : Placed) → Begun_by f (mark_at r x) p → lies_open f (mark_at r y) p ≡ true → lies_open f (mark_at r x) p ≡ true
open_before f w r x y o a p b h =
    let l = lies_found f w (mark_at r y) p h in
    lies_at f w (mark_at r x) p b l.window (false_from_ne_true _ (λ e. both_ways _ l.unclosed (closed_on f w l.window r x y o a e))) l.holds

-- rows from a position on
pub slice_from : (r : Input) (x y : ℕ) → Each (λ p. x ≤ place p) (slice_range (placed_from_start r.rows) x y)
slice_from r x y = ⊎_elim
    (λ l. let all = length-placed no_rows r.rows in subst (Each (λ (p : Placed). x ≤ place p)) (sym (nothing_behind (placed_from_start r.rows) x y (omega arith))) tt)
    (λ l. subst (Each (λ (p : Placed). x ≤ place p)) (sym (slice-placed r.rows x y)) (subst (λ n. Each (λ (p : Placed). n ≤ place p) (placed_after (mark_of (take x r.rows)) (slice_range r.rows x y))) (behind_take r.rows x l) (placed_from (mark_of (take x r.rows)) (slice_range r.rows x y))))
    (cases_lt (length r.rows) x)

-- the first open row moves on
first_moves : (f : Frame) → Fits f → (r : Input) (x y p : ℕ) → Ordered no_rows r.rows → x ≤ y → p < x → first_open f (first_arrivals r y) ≡ Some p → By p (first_open f (first_arrivals r x))
unfolding first_open
first_moves f w r x y p o a l e =
    let xs = r.rows in
    let split : placed_from_start (take y xs) ≡ placed_from_start (take x xs) ++ slice_range (placed_from_start xs) x y =
    sym (take-placed y no_rows xs) ∙ sym (slice-front (placed_from_start xs) y) ∙ slice-join (placed_from_start xs) 0 x y (omega arith) a ∙ ap (λ t. t ++ slice_range (placed_from_start xs) x y) (slice-front (placed_from_start xs) x ∙ take-placed x no_rows xs) in
    let low : Each (λ (z : Placed). place z < x) (placed_from_start (take x xs)) = placed_below no_rows (take x xs) x (omega (arith, length-take x xs)) in
    by_first (lies_open f (mark_at r y)) (lies_open f (mark_at r x)) x p (placed_from_start (take x xs)) (slice_range (placed_from_start xs) x y)
    (subst Rising split (placed_rising no_rows (take y xs))) low (slice_from r x y)
    (each-weaker _ _ (λ z b. open_before f w r x y o a z b) _ (input_begun f (first_arrivals r x) (Ordered-take no_rows x xs o))) l
    (ap (λ t. first_place (filter (lies_open f (mark_at r y)) t)) (sym split) ∙ e)

-- it is a row before the position
first_before : (f : Frame) (r : Input) (x p : ℕ) → first_open f (first_arrivals r x) ≡ Some p → p < x
unfolding first_open
first_before f r x p e = first_below (lies_open f (mark_at r x)) x (placed_from_start (take x r.rows)) (placed_below no_rows (take x r.rows) x (omega (arith, length-take x r.rows))) p e

first_within : (f : Frame) (r : Input) (x p : ℕ) → first_open f (first_arrivals r x) ≡ Some p → p < length r.rows
unfolding first_open
first_within f r x p e = first_below (lies_open f (mark_at r x)) (length r.rows) (placed_from_start (take x r.rows)) (placed_below no_rows (take x r.rows) (length r.rows) (omega (arith, length-take x r.rows))) p e

none_open : (l : Placed → Bool) (ps : List Placed) → ((x : Placed) → l x ≡ false) → first_place (filter l ps) ≡ None
none_open l [] h = refl
none_open l (x ∷ ps) h = ap (λ b. first_place (cond b (x ∷ filter l ps) (filter l ps))) (h x) ∙ none_open l ps h

no_window : (p : ℕ → Bool) (a n : ℕ) → n ≡ 0 → list_any p (from a n) ≡ false
unfolding from
no_window p a n e = ap (λ k. list_any p (from a k)) e

-- behind the end nothing is open
nothing_open : (f : Frame) (r : Input) → r.ended ≡ true → first_open f r ≡ None
unfolding first_open
nothing_open f r e = none_open (lies_open f (last_mark r)) (placed_from_start r.rows) (λ x.
    let all : closed_count f (last_mark r) ≡ begun_count f (last_mark r) = ap (λ b. cond (b || (mark_of r.rows).ended) (begun_count f (last_mark r)) (past_count f (last_mark r))) e in
    no_window (λ i. has f i x) (closed_count f (last_mark r)) (begun_count f (last_mark r) - closed_count f (last_mark r)) (omega (arith, all)))

-- ---- the free pointer

abbrev pub free_by : ℕ → ℕ → Option ℕ → ℕ
free_by n t o = option_map_or (λ p. p / n) o t

free_low : (n : ℕ) (r : Input) (t : ℕ) (o : Option ℕ) → 1 ≤ n → ((p : ℕ) → o ≡ Some p → (p < task_start n r t) × (p < length r.rows)) → free_by n t o ≤ t
free_low n r t None h f = le_refl t
free_low n r t (Some p) h f = let there = f p refl in let below = div_below p n t h (row_before n r t p h there.0 there.1) in omega arith

first_there : (f : Frame) (r : Input) (x p : ℕ) → first_open f (first_arrivals r x) ≡ Some p → (p < x) × (p < length r.rows)
first_there f r x p e = (first_before f r x p e, first_within f r x p e)

-- a task looks back, and not forward
pub tasks_look_back : (q : Tree) (n : ℕ) (r : Input) (t : ℕ) → 1 ≤ n → free q n r t ≤ t
tasks_look_back q n r t h =
    elim (q.shape) as (λ s. by_shape s t t (free_by n t (first_open (frame q) (upto n r t))) ≤ t) [
      | Select ↦ le_refl t
      | Group ↦ le_refl t
      | Join ↦ free_low n r t _ h (λ p e. first_there (frame q) r (task_start n r t) p e)
    ]

by_rise : (n t : ℕ) (o : Option ℕ) (p : ℕ) → 1 ≤ n → By p o → free_by n t o ≤ p / n
by_rise n t None p h b = cc
by_rise n t (Some r) p h b = div_rises r p n h (leb-true r p b)

rise_case : (n : ℕ) (r : Input) (t : ℕ) (o u : Option ℕ) → 1 ≤ n → free_by n t o ≤ t → ((p : ℕ) → u ≡ Some p → p < length r.rows) → ((p : ℕ) → u ≡ Some p → p < task_start n r t → By p o) → free_by n t o ≤ free_by n (t + 1) u
rise_case n r t o None h l f g = omega arith
rise_case n r t o (Some p) h l f g = ⊎_elim
    (λ b. by_rise n t o p h (g p refl b))
    (λ b. le_trans l (div_from p n t h (row_from n r t p b (f p refl))))
    (cases_lt p (task_start n r t))

-- and a later task looks no further back
pub tasks_look_on : (q : Tree) → Fits (frame q) → (n : ℕ) (r : Input) (t : ℕ) → Ordered no_rows r.rows → 1 ≤ n → free q n r t ≤ free q n r (t + 1)
tasks_look_on q w n r t o h =
    elim (q.shape) as (λ s. by_shape s t t (free_by n t (first_open (frame q) (upto n r t))) ≤ by_shape s (t + 1) (t + 1) (free_by n (t + 1) (first_open (frame q) (upto n r (t + 1))))) [
      | Select ↦ omega arith
      | Group ↦ omega arith
      | Join ↦ rise_case n r t (first_open (frame q) (upto n r t)) (first_open (frame q) (upto n r (t + 1))) h
          (free_low n r t _ h (λ p e. first_there (frame q) r (task_start n r t) p e))
          (λ p e. first_within (frame q) r (task_start n r (t + 1)) p e)
          (λ p e l. first_moves (frame q) w r (task_start n r t) (task_start n r (t + 1)) p o (cut_rises n r t) l e)
    ]

-- ---- the rows of a task's need are enough

not_past_case : (n : ℕ) (r : Input) (t : ℕ) (o : Option ℕ) → 1 ≤ n → ((p : ℕ) → o ≡ Some p → p < length r.rows) → Not_past (task_start n r (free_by n t o)) o
not_past_case n r t None h f = refl
not_past_case n r t (Some p) h f = le-leb _ _ (cut_by n r (p / n) p h (at_most p n h) (f p refl))

pub free_join : (q : Tree) (n : ℕ) (r : Input) (t : ℕ) → q.shape ≡ Join → free q n r t ≡ free_by n t (first_open (frame q) (upto n r t))
free_join q n r t e = ap (λ s. by_shape s t t (free_by n t (first_open (frame q) (upto n r t)))) e

pub free_not_past : (q : Tree) (n : ℕ) (r : Input) (t : ℕ) → 1 ≤ n → q.shape ≡ Join → Not_past (task_start n r (free q n r t)) (first_open (frame q) (upto n r t))
free_not_past q n r t h e = subst (λ k. Not_past (task_start n r k) (first_open (frame q) (upto n r t))) (sym (free_join q n r t e)) (not_past_case n r t _ h (λ p g. first_within (frame q) r (task_start n r t) p g))

-- a task behind the end needs no row
pub none_needed_behind : (q : Tree) (n : ℕ) (r : Input) (t : ℕ) → (upto n r t).ended ≡ true → free q n r t ≡ t
none_needed_behind q n r t e =
    elim (q.shape) as (λ s. by_shape s t t (free_by n t (first_open (frame q) (upto n r t))) ≡ t) [
      | Select ↦ refl
      | Group ↦ refl
      | Join ↦ ap (free_by n t) (nothing_open (frame q) (upto n r t) e)
    ]

pub free_ended : (q : Tree) (n : ℕ) (r : Input) (t : ℕ) → (upto n r t).ended ≡ true → (upto n r (free q n r t)).ended ≡ true
free_ended q n r t e = ap (λ k. (upto n r k).ended) (none_needed_behind q n r t e) ∙ e

-- and so is its piece
pub needs_make_pieces : (q : Tree) → Fits (frame q) → (n : ℕ) (r : Input) (t : ℕ) → Ordered no_rows r.rows → 1 ≤ n → piece_here q (back_mark q n r t) (back_rows q n r t) (task_rows n r t) (task_ends n r t) ≡ piece q n r t
needs_make_pieces q w n r t o h = piece_here_is q w r (task_start n r (free q n r t)) (task_start n r t) (task_start n r (t + 1)) o (cuts_rise n r _ t (tasks_look_back q n r t h)) (cut_rises n r t) (free_not_past q n r t h) (free_ended q n r t)
