-- The free pointer from the last windows of blocks.
use Rattle.std.proofs.Common.{◌≡◌, ℕ, zero, suc, ◌+◌, ◌-◌, ◌/◌, ◌≤◌, ◌<◌, List, [], ◌∷◌, ◌++◌, filter, length, take, drop, slice_range, Bool, true, false, cond, ◌&&◌, ◌||◌, nat_le, nat_lt, Option, Some, None, refl, sym, ◌∙◌, ap, subst, length-take, le_refl, lt_of_lt_of_le, zero-le, ⊎_elim, arith}
use Rattle.std.proofs.lemmas.Bool.{lt-ltb, le-ltb, leb-true, cases_lt, both_ways}
use Rattle.std.proofs.lemmas.Bool.Decides.{nat_tests}
use Rattle.saber_plan.specs.declared.rows.Row.{Row}
use Rattle.saber_plan.specs.declared.windows.Mark.{Mark}
use Rattle.saber_plan.specs.declared.plans.Shape.TheVariants.{Join}
use Rattle.saber_plan.specs.Trees.{Tree}
use Rattle.saber_plan.specs.Inputs.{Input}
use Rattle.saber_plan.specs.Windows.{Frame, Fits, no_rows, Ordered, Placed, place, placed_from_start, closed_count, from}
use Rattle.saber_plan.specs.Answers.{frame}
use Rattle.saber_plan.specs.Tasks.{task_start, upto}
use Rattle.saber_plan.specs.Needs.{first_window, past_window, last_window, lies_open, first_place, first_open, free, later_of, last_of, reaches, free_of, block_lasts, task_mark}
use Rattle.std.proofs.lemmas.List.Elements.{filter-append}
use Rattle.saber_laws.proofs.WindowLaws.{closed_are_counted}
use Rattle.saber_laws.proofs.RowLaws.{take-placed, Ordered-take}
use Rattle.saber_plan.specs.Facts.Lists.{Each, each-weaker, dropped, slice-join, slice-front, slice-take}
use Rattle.saber_laws.proofs.PairLaws.{placed_below, placed_rising}
use Rattle.saber_laws.proofs.TaskCutLaws.{cut_rises, cuts_rise, row_before, row_from}
use Rattle.saber_laws.proofs.NeedLaws.{rows_span, lies_found, lies_at, Begun_by, input_begun, each-take, each-both, none_early}
use Rattle.saber_laws.proofs.FreeLaws.{div_from, div_below, first_from, first_below, free_by, free_join, free_not_past, slice_from}

same_tests : (a b : Bool) → (a ≡ true → b ≡ true) → (b ≡ true → a ≡ true) → a ≡ b
same_tests true b f g = sym (f refl)
same_tests false true f g = g refl
same_tests false false f g = refl

last_case : (c first past i : ℕ) → c ≤ i → (nat_le first i && nat_lt i past) ≡ true → reaches (cond (nat_lt first past) (Some (past - 1)) None) c ≡ true
last_case c first past i l h =
    let there : nat_lt first past ≡ true = grind (arith, nat_tests) in
    ap (λ b. reaches (cond b (Some (past - 1)) None) c) there ∙ grind (arith, nat_tests)

record Last (c first past : ℕ) : Type 0 where
  far : c ≤ past - 1
  there : (nat_le first (past - 1) && nat_lt (past - 1) past) ≡ true

last_there : (c first past : ℕ) (b : Bool) → nat_lt first past ≡ b → reaches (cond b (Some (past - 1)) None) c ≡ true → Last c first past
last_there c first past true e h = record { far = leb-true c (past - 1) h; there = grind (arith, nat_tests) }
last_there c first past false e h = cc

-- a row lies in an open window exactly where its last window is not closed
pub lies_open_is : (f : Frame) → Fits f → (m : Mark) (x : Placed) → Begun_by f m x → lies_open f m x ≡ reaches (last_window f x) (closed_count f m)
lies_open_is f w m x b = same_tests (lies_open f m x) (reaches (last_window f x) (closed_count f m))
    (λ h.
    let l = lies_found f w m x h in
    let low : closed_count f m ≤ l.window = ⊎_elim (λ (k : l.window < closed_count f m). absurd (both_ways _ l.unclosed (sym (closed_are_counted f w l.window m) ∙ lt-ltb _ _ k))) (λ k. k) (cases_lt l.window (closed_count f m)) in
    last_case (closed_count f m) (first_window f x) (past_window f x) l.window low (sym (rows_span f w l.window x) ∙ l.holds))
    (λ h.
    let l = last_there (closed_count f m) (first_window f x) (past_window f x) _ refl h in
    lies_at f w m x b (past_window f x - 1) (sym (closed_are_counted f w (past_window f x - 1) m) ∙ le-ltb (past_window f x - 1) (closed_count f m) l.far) (rows_span f w (past_window f x - 1) x ∙ l.there))

-- ---- blocks

later_reaches : (a b : Option ℕ) (c : ℕ) → reaches (later_of a b) c ≡ (reaches a c || reaches b c)
later_reaches None b c = refl
later_reaches (Some x) None c = grind (arith, nat_tests)
later_reaches (Some x) (Some y) c = grind (arith, nat_tests)

or_false : (a b : Bool) → (a || b) ≡ false → (a ≡ false) × (b ≡ false)
or_false true b h = (h, absurd (both_ways _ h refl))
or_false false b h = (refl, h)

abbrev Told : (Placed → Bool) → Frame → ℕ → List Placed → Type 0
Told l f c ps = Each (λ x. l x ≡ reaches (last_window f x) c) ps

block_none : (l : Placed → Bool) (f : Frame) (c : ℕ) (ps : List Placed) → Told l f c ps → reaches (last_of f ps) c ≡ false → filter l ps ≡ []
block_none l f c [] t h = refl
block_none l f c (x ∷ ps) t h =
    let both = or_false _ _ (sym (later_reaches (last_window f x) (last_of f ps) c) ∙ h) in
    ap (λ b. cond b (x ∷ filter l ps) (filter l ps)) (t.0 ∙ both.0) ∙ block_none l f c ps t.1 both.1

record First (o : Option ℕ) : Type 0 where
  place_of : ℕ
  is : o ≡ Some place_of

some_case : (l : Placed → Bool) (f : Frame) (c : ℕ) (x : Placed) (ps : List Placed) → (reaches (last_of f ps) c ≡ true → First (first_place (filter l ps))) → (b : Bool) → l x ≡ b → l x ≡ reaches (last_window f x) c → (reaches (last_window f x) c || reaches (last_of f ps) c) ≡ true → First (first_place (cond b (x ∷ filter l ps) (filter l ps)))
some_case l f c x ps rest true e t h = record { place_of = place x; is = refl }
some_case l f c x ps rest false e t h = rest (sym (ap (λ b. b || reaches (last_of f ps) c) (sym t ∙ e)) ∙ h)

block_some : (l : Placed → Bool) (f : Frame) (c : ℕ) (ps : List Placed) → Told l f c ps → reaches (last_of f ps) c ≡ true → First (first_place (filter l ps))
block_some l f c [] t h = absurd (both_ways _ refl h)
block_some l f c (x ∷ ps) t h = some_case l f c x ps (block_some l f c ps t.1) (l x) refl t.0 (sym (later_reaches (last_window f x) (last_of f ps) c) ∙ h)

nothing_some : (p : ℕ) → None ≡ Some p → ⊥
nothing_some p e = cc

front : (us vs : List Placed) (p : ℕ) → first_place us ≡ Some p → first_place (us ++ vs) ≡ Some p
front [] vs p e = absurd (nothing_some p e)
front (x ∷ us) vs p e = e

first_on : (l : Placed → Bool) (us vs : List Placed) (p : ℕ) → first_place (filter l us) ≡ Some p → first_place (filter l (us ++ vs)) ≡ Some p
first_on l us vs p e = ap first_place (filter-append l us vs) ∙ front (filter l us) (filter l vs) p e

each-drop : (P : Placed → Type 0) (n : ℕ) (xs : List Placed) → Each P xs → Each P (drop n xs)
each-drop P zero xs h = h
each-drop P (suc n) [] h = tt
each-drop P (suc n) (x ∷ xs) h = each-drop P n xs h.1

each-slice : (P : Placed → Type 0) (xs : List Placed) (x y n : ℕ) → x ≤ y → y ≤ n → Each P (take n xs) → Each P (slice_range xs x y)
each-slice P xs x y n a b h = subst (Each P) (slice-take xs x y n a b) (each-take P (y - x) (drop x (take n xs)) (each-drop P x (take n xs) h))

slice_below : (xs : List Row) (x y : ℕ) → x ≤ y → Each (λ r. place r < y) (slice_range (placed_from_start xs) x y)
slice_below xs x y a = each-slice (λ r. place r < y) (placed_from_start xs) x y y a (le_refl y) (subst (Each (λ (r : Placed). place r < y)) (sym (take-placed y no_rows xs)) (placed_below no_rows (take y xs) y (omega (arith, length-take y xs))))

slice_within : (xs : List Row) (x y : ℕ) → x ≤ y → Each (λ r. place r < length xs) (slice_range (placed_from_start xs) x y)
slice_within xs x y a = each-slice (λ r. place r < length xs) (placed_from_start xs) x y y a (le_refl y) (subst (Each (λ (r : Placed). place r < length xs)) (sym (take-placed y no_rows xs)) (placed_below no_rows (take y xs) (length xs) (omega (arith, length-take y xs))))

block_of : (n : ℕ) (r : Input) (u p : ℕ) → 1 ≤ n → task_start n r u ≤ p → p < task_start n r (u + 1) → p < length r.rows → p / n ≡ u
block_of n r u p h a b c =
    let low : u ≤ p / n = div_from p n u h (row_from n r u p a c) in
    let high : p / n < u + 1 = div_below p n (u + 1) h (row_before n r (u + 1) p h b c) in
    omega arith

sub_self : (x : ℕ) → x - x ≡ 0
sub_self x = omega arith

-- the blocks of some rows before task t
module _ (f : Frame) (w : Fits f) (n : ℕ) (r : Input) (t : ℕ) (o : Ordered no_rows r.rows) (h : 1 ≤ n) where
  abbrev mark : Mark
  mark = task_mark n r t

  abbrev opened : Placed → Bool
  opened x = lies_open f mark x

  told : (x y : ℕ) → x ≤ y → y ≤ task_start n r t → Told opened f (closed_count f mark) (slice_range (placed_from_start r.rows) x y)
  told x y a b = each-slice _ (placed_from_start r.rows) x y (task_start n r t) a b (subst (Told opened f (closed_count f mark)) (sym (take-placed (task_start n r t) no_rows r.rows)) (each-weaker _ _ (λ z k. lies_open_is f w mark z k) _ (input_begun f (upto n r t) (Ordered-take no_rows (task_start n r t) r.rows o))))

  block_case : (u k : ℕ) → (suc u + k ≡ t) → free_by n t (first_place (filter opened (slice_range (placed_from_start r.rows) (task_start n r (u + 1)) (task_start n r t)))) ≡ free_of (u + 1) (block_lasts f n r (u + 1) k) (closed_count f mark)
      → (b : Bool) → reaches (last_of f (slice_range (placed_from_start r.rows) (task_start n r u) (task_start n r (u + 1)))) (closed_count f mark) ≡ b
      → free_by n t (first_place (filter opened (slice_range (placed_from_start r.rows) (task_start n r u) (task_start n r (u + 1)) ++ slice_range (placed_from_start r.rows) (task_start n r (u + 1)) (task_start n r t)))) ≡ cond b u (free_of (u + 1) (block_lasts f n r (u + 1) k) (closed_count f mark))
  block_case u k e rest true g =
      let block = slice_range (placed_from_start r.rows) (task_start n r u) (task_start n r (u + 1)) in
      let later = slice_range (placed_from_start r.rows) (task_start n r (u + 1)) (task_start n r t) in
      let within : task_start n r (u + 1) ≤ task_start n r t = cuts_rise n r (u + 1) t (omega arith) in
      let here = block_some opened f (closed_count f mark) block (told (task_start n r u) (task_start n r (u + 1)) (cut_rises n r u) within) g in
      let low = first_from opened (task_start n r u) block (slice_from r (task_start n r u) (task_start n r (u + 1))) here.place_of here.is in
      let high = first_below opened (task_start n r (u + 1)) block (slice_below r.rows (task_start n r u) (task_start n r (u + 1)) (cut_rises n r u)) here.place_of here.is in
      let there = first_below opened (length r.rows) block (slice_within r.rows (task_start n r u) (task_start n r (u + 1)) (cut_rises n r u)) here.place_of here.is in
      ap (free_by n t) (first_on opened block later here.place_of here.is) ∙ block_of n r u here.place_of h low high there
  block_case u k e rest false g =
      let block = slice_range (placed_from_start r.rows) (task_start n r u) (task_start n r (u + 1)) in
      let later = slice_range (placed_from_start r.rows) (task_start n r (u + 1)) (task_start n r t) in
      let within : task_start n r (u + 1) ≤ task_start n r t = cuts_rise n r (u + 1) t (omega arith) in
      ap (λ l. free_by n t (first_place l)) (filter-append opened block later ∙ ap (λ l. l ++ filter opened later) (block_none opened f (closed_count f mark) block (told (task_start n r u) (task_start n r (u + 1)) (cut_rises n r u) within) g)) ∙ rest

  by_blocks : (k u : ℕ) → u + k ≡ t → free_by n t (first_place (filter opened (slice_range (placed_from_start r.rows) (task_start n r u) (task_start n r t)))) ≡ free_of u (block_lasts f n r u k) (closed_count f mark)
  unfolding free_of from
  by_blocks zero u e =
      let same : u ≡ t = omega arith in
      let nothing : task_start n r t - task_start n r u ≡ 0 = ap (λ v. task_start n r v - task_start n r u) (sym same) ∙ sub_self (task_start n r u) in
      let none : slice_range (placed_from_start r.rows) (task_start n r u) (task_start n r t) ≡ [] = ap (λ d. take d (drop (task_start n r u) (placed_from_start r.rows))) nothing in
      ap (λ l. free_by n t (first_place (filter opened l))) none ∙ sym same
  by_blocks (suc k) u e =
      let next : (u + 1) + k ≡ t = omega arith in
      let within : task_start n r (u + 1) ≤ task_start n r t = cuts_rise n r (u + 1) t (omega arith) in
      ap (λ l. free_by n t (first_place (filter opened l))) (slice-join (placed_from_start r.rows) (task_start n r u) (task_start n r (u + 1)) (task_start n r t) (cut_rises n r u) within)
      ∙ block_case u k (omega arith) (by_blocks k (u + 1) next) _ refl

-- the free pointer is what the last windows of the blocks from an earlier one on say
pub lasts_tell_free : (q : Tree) → Fits (frame q) → (n : ℕ) (r : Input) (t first : ℕ) → Ordered no_rows r.rows → 1 ≤ n → q.shape ≡ Join → first ≤ free q n r t → first ≤ t
    → free q n r t ≡ free_of first (block_lasts (frame q) n r first (t - first)) (closed_count (frame q) (task_mark n r t))
unfolding first_open
lasts_tell_free q w n r t first o h e l b =
    let f = frame q in
    let m = task_mark n r t in
    let all : placed_from_start (take (task_start n r t) r.rows) ≡ slice_range (placed_from_start r.rows) 0 (task_start n r first) ++ slice_range (placed_from_start r.rows) (task_start n r first) (task_start n r t) =
    sym (slice-front (placed_from_start r.rows) (task_start n r t) ∙ take-placed (task_start n r t) no_rows r.rows) ∙ slice-join (placed_from_start r.rows) 0 (task_start n r first) (task_start n r t) zero-le (cuts_rise n r first t b) in
    let whole : slice_range (placed_from_start r.rows) 0 (task_start n r t) ≡ placed_from_start (take (task_start n r t) r.rows) = slice-front (placed_from_start r.rows) (task_start n r t) ∙ take-placed (task_start n r t) no_rows r.rows in
    let early = none_early (lies_open f m) (task_start n r (free q n r t)) (placed_from_start (take (task_start n r t) r.rows)) (placed_rising no_rows (take (task_start n r t) r.rows)) (free_not_past q n r t h e) in
    let front_early : Each (λ (z : Placed). place z < task_start n r (free q n r t) → lies_open f m z ≡ false) (slice_range (placed_from_start r.rows) 0 (task_start n r first)) =
    each-slice _ (placed_from_start r.rows) 0 (task_start n r first) (task_start n r t) zero-le (cuts_rise n r first t b) (subst (Each _) (sym (take-placed (task_start n r t) no_rows r.rows)) early) in
    let none : filter (lies_open f m) (slice_range (placed_from_start r.rows) 0 (task_start n r first)) ≡ [] =
    dropped (lies_open f m) _ (each-weaker _ _ (λ z p. p.0 (lt_of_lt_of_le p.1 (cuts_rise n r first (free q n r t) l))) _ (each-both _ _ _ front_early (slice_below r.rows 0 (task_start n r first) zero-le))) in
    free_join q n r t e
    ∙ ap (λ k. free_by n t (first_place k)) (ap (filter (lies_open f m)) all ∙ filter-append (lies_open f m) (slice_range (placed_from_start r.rows) 0 (task_start n r first)) (slice_range (placed_from_start r.rows) (task_start n r first) (task_start n r t)) ∙ ap (λ k. k ++ filter (lies_open f m) (slice_range (placed_from_start r.rows) (task_start n r first) (task_start n r t))) none)
    ∙ by_blocks f w n r t o h (t - first) first (omega arith)
