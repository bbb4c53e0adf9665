-- The block of an input's next task: where it stands in the input with it, and which task is too wide.
use Rattle.std.proofs.Common.{◌≡◌, ◌≤◌, ◌<◌, ℕ, suc, zero, ◌+◌, ◌-◌, ◌*◌, min, length, List, [], ◌∷◌, ◌++◌, take, filter, Bool, true, false, cond, ◌&&◌, nat_lt, Option, Some, None, refl, sym, ◌∙◌, ap, subst, ⊎_elim, arith, length-append}
use Rattle.std.proofs.lemmas.Bool.Decides.{nat_tests}
use Rattle.std.proofs.lemmas.Bool.{cases_lt}
use Rattle.std.proofs.lemmas.Grind.{div_ceil_times}
use Rattle.std.proofs.lemmas.List.{take_all}
use Rattle.std.proofs.Math.Nat.{lt_of_mul-lt-mul_right}
use Rattle.std.proofs.Math.Seq.{take-append_seam}
use Rattle.saber_plan.specs.declared.rows.Row.{Row}
use Rattle.saber_plan.specs.Inputs.{Input, first_arrivals, going_on}
use Rattle.saber_plan.specs.Trees.{Tree}
use Rattle.saber_plan.specs.Windows.{from}
use Rattle.saber_plan.specs.Tasks.{upto, row_tasks, task_count}
use Rattle.saber_plan.specs.Needs.{need, wide, first_number}
use Rattle.saber_dispatch.specs.declared.ends.End.{End}
use Rattle.saber_dispatch.specs.declared.ends.End.TheVariants.{TooWide}
use Rattle.saber_dispatch.specs.Cutting.{too_wide}
use Rattle.saber_laws.proofs.GrowLaws.{needs_stay}

-- ---- parts of an input

-- an input is its rows alone where it did not end
pub goes_on : (r : Input) → r.ended ≡ false → r ≡ going_on r.rows
goes_on r e = λ i. record { rows = r.rows; ended = e i }

below_next : (l : ℕ) → nat_lt l (suc l) ≡ true
below_next l = grind (arith, nat_tests)

never : (b : Bool) → (b && false) ≡ false
never true = refl
never false = refl

-- the arrivals up to a row's position are rows alone
pub rows_first : (r : Input) (x : ℕ) → x ≤ length r.rows → first_arrivals r x ≡ going_on (take x r.rows)
rows_first r x h = λ i. record { rows = take x r.rows; ended = (ap (λ b. r.ended && b) (not_past (length r.rows) x h) ∙ never r.ended) i } where
  not_past : (l y : ℕ) → y ≤ l → nat_lt l y ≡ false
  not_past l y k = grind (arith, nat_tests, k)

-- where an input is cut: before its end by rows
pub row_cut : (b : Bool) (c k l x : ℕ) → k ≤ c → cond (b && nat_lt c k) (suc l) (min x l) ≡ min x l
row_cut true c k l x h = grind (arith, nat_tests, h)
row_cut false c k l x h = refl

end_cut : (c k l x : ℕ) → c < k → cond (true && nat_lt c k) (suc l) (min x l) ≡ suc l
end_cut c k l x h = grind (arith, nat_tests, h)

-- the tasks with rows
pub upto_rows : (n : ℕ) (r : Input) (k : ℕ) → k ≤ row_tasks n r → upto n r k ≡ going_on (take (min (k * n) (length r.rows)) r.rows)
upto_rows n r k h = ap (first_arrivals r) (row_cut r.ended (row_tasks n r) k (length r.rows) (k * n) h) ∙ rows_first r (min (k * n) (length r.rows)) (omega arith)

-- all tasks
pub upto_end : (n : ℕ) (xs : List Row) (k : ℕ) → row_tasks n (going_on xs) < k → upto n (record { rows = xs; ended = true }) k ≡ record { rows = xs; ended = true }
upto_end n xs k h =
    ap (first_arrivals (record { rows = xs; ended = true })) (end_cut (row_tasks n (going_on xs)) k (length xs) (k * n) h)
    ∙ (λ i. record { rows = take_all (suc (length xs)) xs (omega arith) i; ended = below_next (length xs) i })

-- all tasks of rows have them
pub upto_all : (n : ℕ) (xs : List Row) (k : ℕ) → length xs ≤ k * n → upto n (going_on xs) k ≡ going_on xs
upto_all n xs k h = ap going_on (take_all (min (k * n) (length xs)) xs (omega (arith, h)))

-- the whole tasks of rows that others follow
pub upto_seam : (n : ℕ) (xs ys : List Row) (e : Bool) (k : ℕ) → 1 ≤ n → length xs ≡ k * n → upto n (record { rows = xs ++ ys; ended = e }) k ≡ going_on xs
upto_seam n xs ys e k some whole =
    let all = length-append xs ys in
    let h = div_ceil_times (length (xs ++ ys)) n some in
    let below : k < row_tasks n (going_on (xs ++ ys)) + 1 = lt_of_mul-lt-mul_right n (omega (arith, h.0, all, whole, some)) in
    let here : min (k * n) (length (xs ++ ys)) ≡ length xs = omega (arith, all, whole) in
    upto_rows n (record { rows = xs ++ ys; ended = e }) k (omega (arith, below)) ∙ ap going_on (ap (λ x. take x (xs ++ ys)) here ∙ take-append_seam xs ys)

-- ---- which task is too wide

filter_none : (p : ℕ → Bool) (a k : ℕ) → ((u : ℕ) → a ≤ u → u < a + k → p u ≡ false) → filter p (from a k) ≡ []
unfolding from
filter_none p a zero h = refl
filter_none p a (suc k) h = ap (λ b. cond b (a ∷ filter p (from (a + 1) k)) (filter p (from (a + 1) k))) (h a (omega arith) (omega arith)) ∙ filter_none p (a + 1) k (λ u l m. h u (omega (arith, l)) (omega (arith, m)))

first_found : (p : ℕ → Bool) (a k t : ℕ) → a ≤ t → t < a + k → ((u : ℕ) → a ≤ u → u < t → p u ≡ false) → p t ≡ true → first_number (filter p (from a k)) ≡ Some t
unfolding from
first_found p a zero t l m h e = absurd (omega (arith, l, m))
first_found p a (suc k) t l m h e =
    ⊎_elim
    (λ i. ap (λ b. first_number (cond b (a ∷ filter p (from (a + 1) k)) (filter p (from (a + 1) k)))) (h a (omega arith) i) ∙ first_found p (a + 1) k t (omega (arith, i)) (omega (arith, m)) (λ u b f. h u (omega (arith, b)) f) e)
    (λ i. let same : t ≡ a = omega (arith, i, l) in ap (λ b. first_number (cond b (a ∷ filter p (from (a + 1) k)) (filter p (from (a + 1) k)))) (subst (λ x. p x ≡ true) same e) ∙ ap Some (sym same))
    (cases_lt a t)

is_within : (a b : ℕ) → b ≤ a → nat_lt a b ≡ false
is_within a b h = grind (arith, nat_tests, h)

is_beyond : (a b : ℕ) → a < b → nat_lt a b ≡ true
is_beyond a b h = grind (arith, nat_tests, h)

-- none is, where each task needs no more than there is room for
pub none_wide : (q : Tree) (n room : ℕ) (r : Input) (k : ℕ) → k ≡ task_count n r → ((u : ℕ) → u < k → need q n r u ≤ room) → wide q n r room ≡ None
none_wide q n room r k e h = ap first_number (filter_none (λ t. nat_lt room (need q n r t)) 0 (task_count n r) (λ u l m. is_within room (need q n r u) (h u (omega (arith, m, e)))))

-- what a task needs stays when arrivals follow the tasks up to it
pub need_stays : (q : Tree) (n : ℕ) (r more : Input) (d u : ℕ) → 1 ≤ n → upto n more d ≡ r → u ≤ d → need q n r u ≡ need q n more u
need_stays q n r more d u some front le = ap (λ i. need q n i u) (sym front) ∙ ap (λ f. u - f + 1) (needs_stay q n more d u some le).free_pointer

-- the task behind is the first, where it needs more
pub first_wide : (q : Tree) (n room : ℕ) (r more : Input) (t : ℕ) → 1 ≤ n → upto n more t ≡ r → t < task_count n more → ((u : ℕ) → u < t → need q n r u ≤ room) → room < need q n r t → wide q n more room ≡ Some t
first_wide q n room r more t some front there h wide =
    first_found (λ u. nat_lt room (need q n more u)) 0 (task_count n more) t (omega arith) (omega (arith, there))
    (λ u l m. is_within room (need q n more u) (subst (λ x. x ≤ room) (need_stays q n r more t u some front (omega (arith, m))) (h u m)))
    (is_beyond room (need q n more t) (subst (λ x. room < x) (need_stays q n r more t t some front (omega arith)) wide))

-- ---- an end in place of a task

no_end : (e : End) → ◌≡◌ {A = Option End} None (Some e) → ⊥
no_end e h = cc

one_end : (a b : End) → ◌≡◌ {A = Option End} (Some a) (Some b) → a ≡ b
one_end a b h = cc

wide_by : (b : Bool) (room needs : ℕ) (a e : End) → nat_lt room needs ≡ b → cond b (Some a) None ≡ Some e → (e ≡ a) × (room < needs)
wide_by true room needs a e h i = (sym (one_end a e i), grind (arith, nat_tests, h))
wide_by false room needs a e h i = absurd (no_end e i)

near_by : (b : Bool) (room needs : ℕ) (a : End) → nat_lt room needs ≡ b → cond b (Some a) None ≡ None → needs ≤ room
near_by true room needs a h i = absurd (no_end a (sym i))
near_by false room needs a h i = grind (arith, nat_tests, h)

pub wide_end : (task first room : ℕ) (e : End) → too_wide task first room ≡ Some e → (e ≡ TooWide task (task - first + 1)) × (room < task - first + 1)
wide_end task first room e h = wide_by (nat_lt room (task - first + 1)) room (task - first + 1) (TooWide task (task - first + 1)) e refl h

pub near_end : (task first room : ℕ) → too_wide task first room ≡ None → task - first + 1 ≤ room
near_end task first room h = near_by (nat_lt room (task - first + 1)) room (task - first + 1) (TooWide task (task - first + 1)) refl h
