-- The rows that a task needs are enough.
use Rattle.std.proofs.Common.{◌≡◌, ℕ, zero, suc, ◌+◌, ◌-◌, ◌≤◌, ◌<◌, List, [], ◌∷◌, ◌++◌, filter, flat_map, length, take, slice_range, Bool, true, false, cond, ◌&&◌, ◌||◌, nat_le, nat_lt, Option, Some, None, refl, sym, ◌∙◌, ap, subst, append-nil, length-append, length-take, length-take-le, take-take, le_refl, le_trans, zero-le, ⊎_elim, arith}
use Rattle.std.specs.List.{list_any}
use Rattle.std.specs.Option.{option_map_or}
use Rattle.std.proofs.lemmas.Bool.{lt-ltb, le-ltb, leb-true, ltb-true, cases_lt, both_ways, false_from_ne_true}
use Rattle.std.proofs.lemmas.Bool.Decides.{nat_tests}
use Rattle.saber_plan.specs.declared.rows.Side.{Side}
use Rattle.saber_plan.specs.declared.rows.Side.TheVariants.{Left, Right}
use Rattle.saber_plan.specs.declared.rows.Row.{Row}
use Rattle.saber_plan.specs.declared.windows.Mark.{Mark}
use Rattle.saber_plan.specs.declared.rows.Values.{Values}
use Rattle.saber_plan.specs.declared.plans.Shape.TheVariants.{Select, Group, Join}
use Rattle.saber_plan.specs.declared.windows.Measure.TheVariants.{Rows, Range}
use Rattle.saber_plan.specs.declared.windows.Kind.TheVariants.{Opening, Closing, Pending, Complete}
use Rattle.saber_plan.specs.Rows.{stamp}
use Rattle.saber_plan.specs.Trees.{Tree}
use Rattle.saber_plan.specs.Inputs.{Input, first_arrivals, going_on}
use Rattle.saber_plan.specs.Windows.{Frame, unwindowed, one, two, Fits, by_side, no_rows, step_mark, mark_after, mark_of, end_mark, last_mark, mark_at, Ordered, Placed, place, placed_after, placed_from_start, has, begun, closed, begun_count, closed_count, kind_of, inside, from}
use Rattle.saber_plan.specs.Answers.{by_shape, by_frame, frame, passing_values, selected_lines, lines}
use Rattle.saber_plan.specs.Parts.{no_part, part, row_part, group_part, pair_part, part_lines}
use Rattle.saber_plan.specs.Shares.{is_complete, is_closed, is_closing, is_pending, is_opening, of_kind, part_here, shares_here, shares_between, handed_here, handed_between, piece_in}
use Rattle.saber_plan.specs.Tasks.{piece_between}
use Rattle.saber_plan.specs.Needs.{first_window, past_window, lies_open, first_place, first_open, piece_here}
use Rattle.saber_laws.proofs.WindowLaws.{points_span, closed_are_counted, begun_are_counted, begins, begun_after, begun_ending}
use Rattle.saber_laws.proofs.RowLaws.{slice-placed, take-placed, inside-join, inside-closed, Ordered-take}
use Rattle.saber_plan.specs.Facts.Lists.{Each, each-filter, each-weaker, dropped, slice-join, slice-front, nothing_behind}
use Rattle.saber_laws.proofs.PairLaws.{Rising, pair_part-none, placed_below, placed_rising, behind, behind_after}
use Rattle.saber_laws.proofs.ShareLaws.{inside_below, shaped}
use Rattle.saber_laws.proofs.PartLaws.{group_part-empty}
use Rattle.saber_laws.proofs.RowPartLaws.{row_part-nil}
use Rattle.saber_laws.proofs.EndLaws.{marks_go_on, marks_follow, mark_next, marks_are_of_rows, open_at, part_behind}
use Rattle.saber_laws.proofs.TaskLaws.{lines-whole}

-- ---- the windows of a row

has_case : (f : Frame) → Fits f → (i : ℕ) (s : Side) (v : Values) (m : Mark) → has f i (record { row = record { side = s; values = v }; before = m }) ≡ (nat_le (first_window f (record { row = record { side = s; values = v }; before = m })) i && nat_lt i (past_window f (record { row = record { side = s; values = v }; before = m })))
has_case unwindowed w i s v m = grind (arith, nat_tests)
has_case (one Rows k n) w i Left v m = points_span k n i m.left w.0
has_case (one Rows k n) w i Right v m = grind (arith, nat_tests)
has_case (one Range k n) w i Left v m = points_span k n i (stamp v) w.0
has_case (one Range k n) w i Right v m = grind (arith, nat_tests)
has_case (two Rows k n r) w i s v m = points_span k (by_side s n r) i (by_side s m.left m.right) w.0
has_case (two Range k n r) w i s v m = points_span k (by_side s n r) i (stamp v) w.0

-- a window has a row exactly where its number lies between two counts
pub rows_span : (f : Frame) → Fits f → (i : ℕ) (x : Placed) → has f i x ≡ (nat_le (first_window f x) i && nat_lt i (past_window f x))
rows_span f w i x = has_case f w i x.row.side x.row.values x.before

-- ---- tests over numbers in a row

or_right : (a b : Bool) → b ≡ true → (a || b) ≡ true
or_right true b e = refl
or_right false b e = e

or_left : (a b : Bool) → a ≡ true → (a || b) ≡ true
or_left a b e = ap (λ c. c || b) e

any_at : (p : ℕ → Bool) (a n i : ℕ) → a ≤ i → i < a + n → p i ≡ true → list_any p (from a n) ≡ true
unfolding from
any_at p a zero i g h e = absurd (omega arith)
any_at p a (suc n) i g h e = ⊎_elim
    (λ l. let rest = any_at p (a + 1) n i (omega arith) (omega arith) e in or_right (p a) _ rest)
    (λ l. let same : a ≡ i = omega arith in or_left (p a) _ (ap p same ∙ e)) (cases_lt a i)

pub record Found (p : ℕ → Bool) (a n : ℕ) : Type 0 where
  pub number : ℕ
  pub low : a ≤ number
  pub high : number < a + n
  pub passes : p number ≡ true

found_case : (p : ℕ → Bool) (a n : ℕ) (b : Bool) → p a ≡ b → (b || list_any p (from (a + 1) n)) ≡ true → (list_any p (from (a + 1) n) ≡ true → Found p (a + 1) n) → Found p a (suc n)
found_case p a n true e h rest = record { number = a; low = le_refl a; high = omega arith; passes = e }
found_case p a n false e h rest = let f = rest h in record { number = f.number; low = omega (arith, f.low); high = omega (arith, f.high); passes = f.passes }

any_found : (p : ℕ → Bool) (a n : ℕ) → list_any p (from a n) ≡ true → Found p a n
unfolding from
any_found p a zero h = cc
any_found p a (suc n) h = found_case p a n (p a) refl h (any_found p (a + 1) n)

-- ---- rows that lie in open windows

-- a window that the rows with a mark do not close, and that has the row
pub record Lies (f : Frame) (m : Mark) (x : Placed) : Type 0 where
  pub window : ℕ
  pub unclosed : closed f window m ≡ false
  pub holds : has f window x ≡ true

pub lies_found : (f : Frame) → Fits f → (m : Mark) (x : Placed) → lies_open f m x ≡ true → Lies f m x
lies_found f w m x h =
    let e = any_found (λ i. has f i x) (closed_count f m) (begun_count f m - closed_count f m) h in
    record { window = e.number; unclosed = sym (closed_are_counted f w e.number m) ∙ le-ltb e.number _ e.low; holds = e.passes }

-- a window that has the row is begun by rows with the mark
abbrev pub Begun_by : Frame → Mark → Placed → Type 0
Begun_by f m x = (i : ℕ) → has f i x ≡ true → begun f i m ≡ true

not_below : (i c : ℕ) → nat_lt i c ≡ false → c ≤ i
not_below i c h = ⊎_elim (λ l. absurd (both_ways _ h (lt-ltb i c l))) (λ l. l) (cases_lt i c)

pub lies_at : (f : Frame) → Fits f → (m : Mark) (x : Placed) → Begun_by f m x → (i : ℕ) → closed f i m ≡ false → has f i x ≡ true → lies_open f m x ≡ true
lies_at f w m x b i c h =
    let low : closed_count f m ≤ i = not_below i _ (closed_are_counted f w i m ∙ c) in
    let high : i < begun_count f m = ltb-true i _ (begun_are_counted f w i m ∙ b i h) in
    any_at (λ k. has f k x) (closed_count f m) (begun_count f m - closed_count f m) i low (omega arith) h

-- the windows of rows are begun by them
pub rows_begun : (f : Frame) (m : Mark) (xs : List Row) → Ordered m xs → Each (Begun_by f (mark_after m xs)) (placed_after m xs)
unfolding Ordered placed_after
rows_begun f m [] o = tt
rows_begun f m (x ∷ xs) o = (λ i h. begun_after f i (step_mark m x) xs o.1 (begins f i m x.side x.values h), rows_begun f (step_mark m x) xs o.1)

-- and by an input of them
pub input_begun : (f : Frame) (r : Input) → Ordered no_rows r.rows → Each (Begun_by f (last_mark r)) (placed_from_start r.rows)
input_begun f r o = each-weaker _ _ (λ x b i h. begun_ending f i r.ended (mark_of r.rows) ∙ b i h) _ (rows_begun f no_rows r.rows o)

-- ---- the first of them

-- this position is not past the first open row
abbrev pub Not_past : ℕ → Option ℕ → Type 0
Not_past s o = option_map_or (λ p. nat_le s p) o true ≡ true

early_case : (l : Placed → Bool) (s : ℕ) (x : Placed) (ps : List Placed) → Each (λ y. place x < place y) ps → (Not_past s (first_place (filter l ps)) → Each (λ y. place y < s → l y ≡ false) ps)
    → (b : Bool) → l x ≡ b → Not_past s (first_place (cond b (x ∷ filter l ps) (filter l ps))) → Each (λ y. place y < s → l y ≡ false) (x ∷ ps)
early_case l s x ps r rest true e h =
    let far : s ≤ place x = leb-true s (place x) h in
    (λ g. absurd (omega arith), each-weaker _ _ (λ y p g. absurd (omega arith)) ps r)
early_case l s x ps r rest false e h = (λ g. e, rest h)

pub none_early : (l : Placed → Bool) (s : ℕ) (ps : List Placed) → Rising ps → Not_past s (first_place (filter l ps)) → Each (λ x. place x < s → l x ≡ false) ps
none_early l s [] r h = tt
none_early l s (x ∷ ps) r h = early_case l s x ps r.0 (none_early l s ps r.1) (l x) refl h

pub each-take : (P : Placed → Type 0) (n : ℕ) (xs : List Placed) → Each P xs → Each P (take n xs)
each-take P zero xs h = tt
each-take P (suc n) [] h = tt
each-take P (suc n) (x ∷ xs) h = (h.0, each-take P n xs h.1)

pub each-both : (P Q : Placed → Type 0) (xs : List Placed) → Each P xs → Each Q xs → Each (λ x. P x × Q x) xs
each-both P Q [] h k = tt
each-both P Q (x ∷ xs) h k = ((h.0, k.0), each-both P Q xs h.1 k.1)

-- rows before the first open one are in no window that is not closed
pub none_before : (f : Frame) → Fits f → (i : ℕ) (r : Input) (s : ℕ) → Ordered no_rows r.rows → Not_past s (first_open f r) → closed f i (last_mark r) ≡ false → filter (has f i) (placed_from_start (take s r.rows)) ≡ []
unfolding first_open
none_before f w i r s o h c =
    let xs = r.rows in
    let l = lies_open f (last_mark r) in
    let early = none_early l s (placed_from_start xs) (placed_rising no_rows xs) h in
    let all : Each (λ (x : Placed). (place x < s → l x ≡ false) × Begun_by f (last_mark r) x) (placed_from_start xs) = each-both _ _ (placed_from_start xs) early (input_begun f r o) in
    let front : Each (λ (x : Placed). (place x < s → l x ≡ false) × Begun_by f (last_mark r) x) (placed_from_start (take s xs)) = subst (Each _) (take-placed s no_rows xs) (each-take _ s (placed_from_start xs) all) in
    let low : Each (λ (x : Placed). place x < s) (placed_from_start (take s xs)) = placed_below no_rows (take s xs) s (omega (arith, length-take s xs)) in
    dropped (has f i) (placed_from_start (take s xs)) (each-weaker _ _ (λ x p. false_from_ne_true _ (λ e. both_ways _ (p.0.0 p.1) (lies_at f w (last_mark r) x p.0.1 i c e))) _ (each-both _ _ (placed_from_start (take s xs)) front low))

-- ---- the part over a task's rows, from them and the rows looked back on

pub behind_take : (xs : List Row) (x : ℕ) → x ≤ length xs → behind (mark_of (take x xs)) ≡ x
behind_take xs x h = let all = behind_after no_rows (take x xs) in omega (arith, all, length-take-le x xs h)

kept_case : (f g : ℕ → List ℕ) (p : ℕ → Bool) → ((i : ℕ) → p i ≡ true → f i ≡ g i) → (i : ℕ) (is : List ℕ) (b : Bool) → p i ≡ b → flat_map f (filter p is) ≡ flat_map g (filter p is) → flat_map f (cond b (i ∷ filter p is) (filter p is)) ≡ flat_map g (cond b (i ∷ filter p is) (filter p is))
kept_case f g p e i is true h rest = λ j. e i h j ++ rest j
kept_case f g p e i is false h rest = rest

kind_case : (ca gb cb ga : Bool) → is_complete (cond ca None (cond gb (Some (cond cb (cond ga Closing Complete) (cond ga Pending Opening))) None)) ≡ true → ga ≡ false
kind_case true gb cb ga e = cc
kind_case false false cb ga e = cc
kind_case false true true true e = cc
kind_case false true true false e = refl
kind_case false true false true e = cc
kind_case false true false false e = cc

kept_lines : (f g : ℕ → List ℕ) (p : ℕ → Bool) → ((i : ℕ) → p i ≡ true → f i ≡ g i) → (is : List ℕ) → flat_map f (filter p is) ≡ flat_map g (filter p is)
kept_lines f g p e [] = refl
kept_lines f g p e (i ∷ is) = kept_case f g p e i is (p i) refl (kept_lines f g p e is)

-- a cut of positions s, x, y of some rows
module _ (q : Tree) (w : Fits (frame q)) (xs : List Row) (s x y : ℕ) (o : Ordered no_rows xs) (d : s ≤ x) (a : x ≤ y) (h : x ≤ length xs) where
  back_place : (mark_of (take s xs)).left + (mark_of (take s xs)).right + length (slice_range xs s x) ≡ x
  back_place = sym (behind_after (mark_of (take s xs)) (slice_range xs s x)) ∙ ap behind (sym (marks_go_on xs s x d)) ∙ behind_take xs x h

  back_inside : (i : ℕ) → filter (has (frame q) i) (placed_after (mark_of (take s xs)) (slice_range xs s x ++ slice_range xs x y)) ≡ inside (frame q) i xs s y
  back_inside i = ap (λ l. filter (has (frame q) i) (placed_after (mark_of (take s xs)) l)) (sym (slice-join xs s x y d a)) ∙ ap (filter (has (frame q) i)) (sym (slice-placed xs s y))

  -- the pairs of a window that is closed at x are in neither
  closed_pairs : (i : ℕ) → closed (frame q) i (mark_of (take x xs)) ≡ true → pair_part q x (inside (frame q) i xs s y) ≡ pair_part q x (inside (frame q) i xs 0 y)
  closed_pairs i c =
      let none = inside-closed (frame q) i xs x y o c in
      let low : Each (λ (r : Placed). place r < x) (inside (frame q) i xs s x) = each-filter _ (has (frame q) i) _ (subst (Each (λ (r : Placed). place r < x)) (sym (slice-placed xs s x)) (placed_below (mark_of (take s xs)) (slice_range xs s x) x (subst (λ n. n ≤ x) (sym back_place) (le_refl x)))) in
      ap (pair_part q x) (inside-join (frame q) i xs s x y d a ∙ ap (λ l. inside (frame q) i xs s x ++ l) none ∙ append-nil _) ∙ pair_part-none q x _ low
      ∙ sym (ap (pair_part q x) (inside-join (frame q) i xs 0 x y zero-le a ∙ ap (λ l. inside (frame q) i xs 0 x ++ l) none ∙ append-nil _) ∙ pair_part-none q x _ (inside_below (frame q) i xs x))

  -- those of one that isn't have no row before s
  open_pairs : (i : ℕ) → Not_past s (first_open (frame q) (going_on (take x xs))) → closed (frame q) i (mark_of (take x xs)) ≡ false → pair_part q x (inside (frame q) i xs s y) ≡ pair_part q x (inside (frame q) i xs 0 y)
  open_pairs i n c =
      let none : inside (frame q) i xs 0 s ≡ [] = ap (filter (has (frame q) i)) (slice-front (placed_from_start xs) s ∙ take-placed s no_rows xs ∙ ap (λ l. placed_from_start l) (sym (take-take s x xs d))) ∙ none_before (frame q) w i (going_on (take x xs)) s (Ordered-take no_rows x xs o) n c in
      sym (ap (pair_part q x) (inside-join (frame q) i xs 0 s y zero-le (le_trans d a) ∙ ap (λ l. l ++ inside (frame q) i xs s y) none))

  pairs_case : (i : ℕ) → Not_past s (first_open (frame q) (going_on (take x xs))) → (b : Bool) → closed (frame q) i (mark_of (take x xs)) ≡ b → pair_part q x (inside (frame q) i xs s y) ≡ pair_part q x (inside (frame q) i xs 0 y)
  pairs_case i n true c = closed_pairs i c
  pairs_case i n false c = open_pairs i n c

  group_rows : (i : ℕ) → filter (has (frame q) i) (placed_after (mark_after (mark_of (take s xs)) (slice_range xs s x)) (slice_range xs x y)) ≡ inside (frame q) i xs x y
  group_rows i = ap (λ m. filter (has (frame q) i) (placed_after m (slice_range xs x y))) (sym (marks_go_on xs s x d)) ∙ ap (filter (has (frame q) i)) (sym (slice-placed xs x y))

  -- the part is the same, from rows s to x and x to y alone, where no row before s lies in a window that is open at x
  rows_here : (q.shape ≡ Join → Not_past s (first_open (frame q) (going_on (take x xs)))) → (i : ℕ) → part_here q i (mark_of (take s xs)) (slice_range xs s x) (slice_range xs x y) ≡ part q i xs x y
  unfolding part_here
  rows_here n i =
      elim (q.shape) as (λ t. (t ≡ Join → Not_past s (first_open (frame q) (going_on (take x xs)))) → by_shape t
      (row_part q (filter (has (frame q) i) (placed_after (mark_after (mark_of (take s xs)) (slice_range xs s x)) (slice_range xs x y))))
      (group_part q (passing_values q (filter (has (frame q) i) (placed_after (mark_after (mark_of (take s xs)) (slice_range xs s x)) (slice_range xs x y)))))
      (pair_part q ((mark_of (take s xs)).left + (mark_of (take s xs)).right + length (slice_range xs s x)) (filter (has (frame q) i) (placed_after (mark_of (take s xs)) (slice_range xs s x ++ slice_range xs x y))))
      ≡ by_shape t (row_part q (inside (frame q) i xs x y)) (group_part q (passing_values q (inside (frame q) i xs x y))) (pair_part q x (inside (frame q) i xs 0 y))) [
        | Select ↦ λ n. ap (row_part q) (group_rows i)
        | Group ↦ λ n. ap (λ l. group_part q (passing_values q l)) (group_rows i)
        | Join ↦ λ n. ap (λ p. pair_part q p (filter (has (frame q) i) (placed_after (mark_of (take s xs)) (slice_range xs s x ++ slice_range xs x y)))) back_place ∙ ap (pair_part q x) (back_inside i) ∙ pairs_case i (n refl) _ refl
      ] n

-- ---- the same over an input

pub no_rows_here : (q : Tree) (i : ℕ) (m : Mark) (back rows : List Row) → rows ≡ [] → part_here q i m back rows ≡ no_part
unfolding part_here placed_after
no_rows_here q i m back rows e =
    let some = length-append back [] in
    ap (part_here q i m back) e
    ∙ shaped q.shape _ _ _ no_part (row_part-nil q) (group_part-empty q) (pair_part-none q (m.left + m.right + length back) _ (each-filter _ (has (frame q) i) _ (placed_below m (back ++ []) (m.left + m.right + length back) (omega arith))))

-- positions s, x, y of an input
module _ (q : Tree) (w : Fits (frame q)) (r : Input) (s x y : ℕ) (o : Ordered no_rows r.rows) (d : s ≤ x) (a : x ≤ y) where
  abbrev back : List Row
  back = slice_range r.rows s x

  abbrev rows : List Row
  rows = slice_range r.rows x y

  among_rows : (q.shape ≡ Join → Not_past s (first_open (frame q) (first_arrivals r x))) → x ≤ length r.rows → (i : ℕ) → part_here q i (mark_at r s) back rows ≡ part q i r.rows x y
  among_rows n h i =
      let here : first_arrivals r x ≡ going_on (take x r.rows) = λ j. record { rows = take x r.rows; ended = open_at r x h j } in
      ap (λ m. part_here q i m back rows) (marks_are_of_rows r s (open_at r s (le_trans d h)))
      ∙ rows_here q w r.rows s x y o d a h (λ e. subst (λ u. Not_past s (first_open (frame q) u)) here (n e)) i

  -- the part is the same, from rows s to x and x to y alone, where no row before s lies in a window that is open at x
  pub part_here_is : (q.shape ≡ Join → Not_past s (first_open (frame q) (first_arrivals r x))) → (i : ℕ) → part_here q i (mark_at r s) back rows ≡ part q i r.rows x y
  part_here_is n i = ⊎_elim
      (λ l. no_rows_here q i (mark_at r s) back rows (nothing_behind r.rows x y (omega arith)) ∙ sym (part_behind q i r.rows x y (omega arith)))
      (λ l. among_rows n l i)
      (cases_lt (length r.rows) x)

  -- ---- the piece

  complete_not_begun : (i : ℕ) (m n : Mark) → is_complete (kind_of (frame q) i m n) ≡ true → begun (frame q) i m ≡ false
  complete_not_begun i m n e = kind_case (closed (frame q) i m) (begun (frame q) i n) (closed (frame q) i n) (begun (frame q) i m) e

  -- what is given is the same, from those rows alone
  pub shares_here_is : (q.shape ≡ Join → Not_past s (first_open (frame q) (first_arrivals r x))) → ((first_arrivals r x).ended ≡ true → (first_arrivals r s).ended ≡ true) → shares_here q (mark_at r s) (slice_range r.rows s x) (slice_range r.rows x y) (first_arrivals r y).ended ≡ shares_between q r x y
  unfolding shares_here shares_between
  shares_here_is n k =
      let f = frame q in
      let m = mark_at r x in
      let u = mark_at r y in
      let ma : mark_after (mark_at r s) back ≡ m = mark_next r s x d k in
      let mb : end_mark (first_arrivals r y).ended (mark_after (mark_after (mark_at r s) back) rows) ≡ u = ap (λ b. end_mark (first_arrivals r y).ended (mark_after b rows)) ma ∙ sym (marks_follow r x y a) in
      let here = λ (i : ℕ). part_here q i (mark_at r s) back rows in
      let whole_numbers = λ (b c : Mark). filter (λ i. is_complete (kind_of f i b c)) (from (closed_count f b) (begun_count f c - closed_count f b)) in
      let whole = λ (b c : Mark). flat_map (λ i. part_lines q i (here i)) (whole_numbers b c) in
      let same : whole m u ≡ flat_map (λ i. lines q i (take y r.rows)) (whole_numbers m u) =
      kept_lines (λ i. part_lines q i (here i)) (λ i. lines q i (take y r.rows)) (λ i. is_complete (kind_of f i m u))
      (λ i e. ap (part_lines q i) (part_here_is n i) ∙ sym (lines-whole q i r x y o a (complete_not_begun i m u e))) _ in
      let all : whole (mark_after (mark_at r s) back) (end_mark (first_arrivals r y).ended (mark_after (mark_after (mark_at r s) back) rows)) ≡ flat_map (λ i. lines q i (take y r.rows)) (whole_numbers m u) = (λ j. whole (ma j) (mb j)) ∙ same in
      λ j. record {
        closing = of_kind is_closing f (ma j) (mb j) (λ i. part_here_is n i j);
        pending = of_kind is_pending f (ma j) (mb j) (λ i. part_here_is n i j);
        opening = of_kind is_opening f (ma j) (mb j) (λ i. part_here_is n i j);
        lines = by_frame q (selected_lines q rows) (all j);
        closed = closed_count f (mb j);
      }

  -- and so is what is handed on
  pub handed_here_is : (q.shape ≡ Join → Not_past s (first_open (frame q) (first_arrivals r x))) → ((first_arrivals r x).ended ≡ true → (first_arrivals r s).ended ≡ true) → handed_here q (mark_at r s) (slice_range r.rows s x) (slice_range r.rows x y) (first_arrivals r y).ended ≡ handed_between q r x y
  unfolding handed_here handed_between
  handed_here_is n k =
      let f = frame q in
      let ma : mark_after (mark_at r s) back ≡ mark_at r x = mark_next r s x d k in
      let mb : end_mark (first_arrivals r y).ended (mark_after (mark_after (mark_at r s) back) rows) ≡ mark_at r y = ap (λ b. end_mark (first_arrivals r y).ended (mark_after b rows)) ma ∙ sym (marks_follow r x y a) in
      λ j. record {
        closing = of_kind is_closed f (ma j) (mb j) (λ i. part_here_is n i j);
        pending = of_kind is_pending f (ma j) (mb j) (λ i. part_here_is n i j);
        opening = of_kind is_opening f (ma j) (mb j) (λ i. part_here_is n i j);
        lines = [];
        closed = closed_count f (mb j);
      }

  -- and so is the piece
  pub piece_here_is : (q.shape ≡ Join → Not_past s (first_open (frame q) (first_arrivals r x))) → ((first_arrivals r x).ended ≡ true → (first_arrivals r s).ended ≡ true) → piece_here q (mark_at r s) (slice_range r.rows s x) (slice_range r.rows x y) (first_arrivals r y).ended ≡ piece_between q r x y
  unfolding piece_here piece_between
  piece_here_is n k = ap piece_in (shares_here_is n k)
