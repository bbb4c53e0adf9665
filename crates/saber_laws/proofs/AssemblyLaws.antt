-- Taking in a piece: what is written, and what stays open.
use Rattle.std.proofs.Common.{◌≡◌, ℕ, zero, suc, ◌+◌, ◌-◌, ◌≤◌, ◌<◌, min, List, [], ◌∷◌, ◌++◌, map, filter, flat_map, length, take, slice_range, Bool, true, false, cond, not, nat_lt, nat_le, ◌==◌, Option, Some, None, ◌&&◌, refl, sym, ◌∙◌, ap, ap₂, append-nil, append_assoc, le_refl, le_trans, lt_of_lt_of_le, zero-le, ⊎_elim, ℤ, arith}
use Rattle.std.specs.Option.{option_map_or}
use Rattle.std.proofs.lemmas.Bool.{lt-ltb, le-leb, lt-leb, le-ltb, cases_lt, eqb-true, both_ways}
use Rattle.std.proofs.lemmas.Bool.Decides.{nat_tests}
use Rattle.std.proofs.lemmas.List.{map-append, take_all}
use Rattle.std.proofs.lemmas.List.Concat.{flat_map-append}
use Rattle.std.proofs.lemmas.List.Elements.{filter-append}
use Rattle.std.specs.Cmp.{nat_cmp_total}
use Rattle.std.specs.FinMap.{len, get, entries, from_entries, retain_keys, get-retain_keys, len-empty, empty_of_len, same_map, nat_cmp-IsAntisymmetric}
use Rattle.saber_plan.specs.declared.rows.Row.{Row}
use Rattle.saber_plan.specs.declared.windows.Mark.{Mark}
use Rattle.saber_plan.specs.declared.windows.Kind.{Kind}
use Rattle.saber_plan.specs.declared.windows.Kind.TheVariants.{Opening, Closing, Pending, Complete}
use Rattle.saber_plan.specs.declared.plans.Shape.TheVariants.{Select, Group, Join}
use Rattle.saber_plan.specs.Trees.{Tree}
use Rattle.saber_plan.specs.Values.{passes}
use Rattle.saber_plan.specs.Inputs.{Input, first_arrivals}
use Rattle.saber_plan.specs.Windows.{Frame, unwindowed, one, two, has_windows, Fits, no_rows, mark_at, begun_count, closed, closed_count, Ordered, kind_of, from}
use Rattle.saber_plan.specs.Answers.{key_cmp, entry_lines, by_shape, by_frame, frame, lines, lines_from, line, items_over, selected_lines, window_text, plain_text, Change, window_answers, before_window, answer_lines, change_lines, change_text, list_of, substream, closed_by, closed_in_turn, closed_at_last, key_text, alike, by_list, by_change, way, by_way, text}
use Rattle.saber_plan.specs.Merges.{join}
use Rattle.saber_plan.specs.Parts.{Part, no_part, part, part_lines, group_answer, Numbers, join_numbers, merge}
use Rattle.saber_plan.specs.Shares.{full, numbered_list, is_complete, shares_between}
use Rattle.saber_plan.specs.Tasks.{Parts, unclosed, last_answers, plain_added, change_added, list_added, added_text, piece_between, taken_in, written_by, left_by}
use Rattle.saber_plan.specs.Facts.Maps.{get-both, both_empty_left, entries-empty}
use Rattle.saber_plan.specs.Facts.Lists.{slice-join, slice-front, nothing_behind}
use Rattle.saber_plan.specs.Facts.Parts.{total, exact, merge-empty_left, merge-empty_right}
use Rattle.saber_laws.proofs.DirectLaws.{is_part, parts_between}
use Rattle.saber_laws.proofs.WindowLaws.{closed_are_counted, begun_are_counted, closed_within_begun}
use Rattle.saber_plan.specs.Facts.Numbers.{from-append}
use Rattle.saber_laws.proofs.NumberedLaws.{get_low, get_high, get_in, entries-numbered, flat_map-numbered, flat_map-from, filter_all, filter_none}
use Rattle.saber_laws.proofs.EndLaws.{stays_ended, ends_are_behind, closed_rise, begun_rise, parts_join, part_upto, part_not_begun, lines_upto, closed_lines_stay, answers_stay}

-- ---- parts that aren't empty

full-none : (p : Part) → (len p == 0) ≡ true → p ≡ no_part
full-none p e = empty_of_len p (eqb-true (len p) 0 e)

full-empty : full no_part ≡ None
full-empty = ap (λ n. cond (n == 0) None (Some no_part)) (len-empty key_cmp Numbers)

pub full-of_empty : (p : Part) → p ≡ no_part → full p ≡ None
full-of_empty p e = ap full e ∙ full-empty

full-some : (p : Part) → (len p == 0) ≡ false → full p ≡ Some p
full-some p e = ap (λ b. cond b None (Some p)) e

no_part_len : (len no_part == 0) ≡ true
no_part_len = ap (λ n. n == 0) (len-empty key_cmp Numbers)

merge_some : (p r : Part) (b : Bool) → (len p == 0) ≡ false → (len (merge p r) == 0) ≡ b → cond b None (Some (merge p r)) ≡ Some (merge p r)
merge_some p r false e h = refl
merge_some p r true e h = absurd (both_ways _ e (ap (λ m. len m == 0) (both_empty_left total join_numbers exact p r (full-none (merge p r) h)) ∙ no_part_len))

full-cases : (p r : Part) (a b : Bool) → (len p == 0) ≡ a → (len r == 0) ≡ b → full (merge p r) ≡ join merge (cond a None (Some p)) (cond b None (Some r))
full-cases p r true true e g = ap (λ m. full (merge m r)) (full-none p e) ∙ ap full (merge-empty_left r) ∙ full-of_empty r (full-none r g)
full-cases p r true false e g = ap (λ m. full (merge m r)) (full-none p e) ∙ ap full (merge-empty_left r) ∙ full-some r g
full-cases p r false true e g = ap (λ m. full (merge p m)) (full-none r g) ∙ ap full (merge-empty_right p) ∙ full-some p e
full-cases p r false false e g = merge_some p r (len (merge p r) == 0) e refl

-- merging what isn't empty
pub full_merges : (p r : Part) → full (merge p r) ≡ join merge (full p) (full r)
full_merges p r = full-cases p r (len p == 0) (len r == 0) refl refl

-- the lines of a part, also where it is empty
full-lines : (q : Tree) (i : ℕ) (p : Part) (b : Bool) → (len p == 0) ≡ b → option_map_or (λ m. part_lines q i m) (cond b None (Some p)) [] ≡ part_lines q i p
full-lines q i p true e = sym (ap (λ m. part_lines q i m) (full-none p e) ∙ ap (λ es. entry_lines i (map (group_answer q.shape q.items) es)) (entries-empty key_cmp))
full-lines q i p false e = refl

-- ---- kinds by counts

-- the windows from ca on and below gb have a fragment; closing ones come first
abbrev pub count_kind : ℕ → ℕ → ℕ → ℕ → ℕ → Option Kind
count_kind ca ga cb gb i = cond (nat_lt i ca) None (cond (nat_lt i gb) (Some (cond (nat_lt i cb) (cond (nat_lt i ga) Closing Complete) (cond (nat_lt i ga) Pending Opening))) None)

pub kind_is : (f : Frame) → Fits f → (i : ℕ) (a b : Mark) → kind_of f i a b ≡ count_kind (closed_count f a) (begun_count f a) (closed_count f b) (begun_count f b) i
kind_is f w i a b = sym (λ j. cond (closed_are_counted f w i a j) None (cond (begun_are_counted f w i b j) (Some (cond (closed_are_counted f w i b j) (cond (begun_are_counted f w i a j) Closing Complete) (cond (begun_are_counted f w i a j) Pending Opening))) None))

closing_here : (ca ga cb gb i : ℕ) → ca ≤ i → i < ga → i < cb → cb ≤ gb → count_kind ca ga cb gb i ≡ Some Closing
closing_here ca ga cb gb i h1 h2 h3 h4 = grind (arith, nat_tests)

complete_here : (ca ga cb gb i : ℕ) → ca ≤ ga → ga ≤ i → i < cb → cb ≤ gb → count_kind ca ga cb gb i ≡ Some Complete
complete_here ca ga cb gb i h1 h2 h3 h4 = grind (arith, nat_tests)

open_here : (ca ga cb gb i : ℕ) → ca ≤ cb → cb ≤ i → i < gb → is_part (count_kind ca ga cb gb i) ≡ true
open_here ca ga cb gb i h1 h2 h3 = grind (arith, nat_tests)

open_not_complete : (ca ga cb gb i : ℕ) → ca ≤ cb → cb ≤ i → i < gb → is_complete (count_kind ca ga cb gb i) ≡ false
open_not_complete ca ga cb gb i h1 h2 h3 = grind (arith, nat_tests)

-- ---- what a window has in the open parts and in a piece

part-beyond : (q : Tree) → Fits (frame q) → (i : ℕ) (r : Input) (y : ℕ) → Ordered no_rows r.rows → begun_count (frame q) (mark_at r y) ≤ i → part q i r.rows 0 y ≡ no_part
part-beyond q w i r y o h = part_not_begun q i r y o (sym (begun_are_counted (frame q) w i (mark_at r y)) ∙ le-ltb i _ h)

unclosed_at : (q : Tree) → Fits (frame q) → (r : Input) (y i : ℕ) → Ordered no_rows r.rows → closed_count (frame q) (mark_at r y) ≤ i → get (unclosed q (first_arrivals r y)) i ≡ full (part q i r.rows 0 y)
unfolding unclosed
unclosed_at q w r y i o l =
    let c = closed_count (frame q) (mark_at r y) in
    let g = begun_count (frame q) (mark_at r y) in
    let f = λ (k : ℕ). full (part q k (take y r.rows) 0 (length (take y r.rows))) in
    ⊎_elim (λ b. get_in i c (g - c) f l (omega (arith, l, b)) ∙ ap full (part_upto q i r.rows y))
    (λ b. get_high i c (g - c) f (omega (arith, l, b, closed_within_begun (frame q) w (mark_at r y))) ∙ sym (full-of_empty _ (part-beyond q w i r y o b))) (cases_lt i g)

unclosed_low : (q : Tree) (r : Input) (y i : ℕ) → i < closed_count (frame q) (mark_at r y) → get (unclosed q (first_arrivals r y)) i ≡ None
unfolding unclosed
unclosed_low q r y i l = get_low i _ _ _ l

abbrev piece_entry : Tree → Input → ℕ → ℕ → ℕ → Option Part
piece_entry q r x y i = cond (is_part (kind_of (frame q) i (mark_at r x) (mark_at r y))) (full (part q i r.rows x y)) None

piece_in : (q : Tree) (r : Input) (x y i : ℕ) → closed_count (frame q) (mark_at r x) ≤ i → i < begun_count (frame q) (mark_at r y) → get (piece_between q r x y).parts i ≡ piece_entry q r x y i
piece_in q r x y i l b = ap (λ m. get m i) (parts_between q r x y) ∙ get_in i _ _ (piece_entry q r x y) l (omega (arith, l, b))

piece_low : (q : Tree) (r : Input) (x y i : ℕ) → i < closed_count (frame q) (mark_at r x) → get (piece_between q r x y).parts i ≡ None
piece_low q r x y i l = ap (λ m. get m i) (parts_between q r x y) ∙ get_low i _ _ (piece_entry q r x y) l

piece_high : (q : Tree) (r : Input) (x y i : ℕ) → closed_count (frame q) (mark_at r x) ≤ begun_count (frame q) (mark_at r y) → begun_count (frame q) (mark_at r y) ≤ i → get (piece_between q r x y).parts i ≡ None
piece_high q r x y i rises l = ap (λ m. get m i) (parts_between q r x y) ∙ get_high i _ _ (piece_entry q r x y) (omega (arith, l, rises))

piece_closed : (q : Tree) (r : Input) (x y : ℕ) → (piece_between q r x y).closed ≡ closed_count (frame q) (mark_at r y)
unfolding piece_between shares_between
piece_closed q r x y = refl

no_count : (b : Bool) (n : ℕ) → cond b n n ≡ n
no_count true n = refl
no_count false n = refl

-- without windows none is closed
none_of : (f : Frame) (m : Mark) → has_windows f ≡ false → closed_count f m ≡ 0
none_of unwindowed m e = no_count m.ended 0
none_of (one measure slide size) m e = cc
none_of (two measure slide left right) m e = cc

-- the lines of the windows that lie whole between positions x and y
abbrev whole_lines : Tree → Input → ℕ → ℕ → List ℕ
whole_lines q r x y =
    let a = mark_at r x in
    let b = mark_at r y in
    flat_map (λ i. lines q i (take y r.rows)) (filter (λ i. is_complete (kind_of (frame q) i a b)) (from (closed_count (frame q) a) (begun_count (frame q) b - closed_count (frame q) a)))

-- what rows close, and then more rows
pub in_turn-append : (q : Tree) (xs us vs : List Row) → closed_in_turn q xs (us ++ vs) ≡ closed_in_turn q xs us ++ closed_in_turn q (xs ++ us) vs
unfolding closed_in_turn
in_turn-append q xs [] vs = ap (λ l. closed_in_turn q l vs) (sym (append-nil xs))
in_turn-append q xs (u ∷ us) vs =
    ap (λ l. closed_by q (substream q (list_of q u) xs) u ++ l) (in_turn-append q (xs ++ u ∷ []) us vs
    ∙ ap (λ l. closed_in_turn q (xs ++ u ∷ []) us ++ closed_in_turn q l vs) (append_assoc xs (u ∷ []) us))
    ∙ sym (append_assoc (closed_by q (substream q (list_of q u) xs) u) (closed_in_turn q (xs ++ u ∷ []) us) (closed_in_turn q (xs ++ u ∷ us) vs))

-- a piece of rows x to y of a list, with what it needs
module _ (q : Tree) (w : Fits (frame q)) (r : Input) (x y : ℕ) (o : Ordered no_rows r.rows) (a : x ≤ y) where
  abbrev ca : ℕ
  ca = closed_count (frame q) (mark_at r x)

  abbrev ga : ℕ
  ga = begun_count (frame q) (mark_at r x)

  abbrev cb : ℕ
  cb = closed_count (frame q) (mark_at r y)

  abbrev gb : ℕ
  gb = begun_count (frame q) (mark_at r y)

  ca_cb : ca ≤ cb
  ca_cb = closed_rise (frame q) w r x y o a

  ca_ga : ca ≤ ga
  ca_ga = closed_within_begun (frame q) w (mark_at r x)

  cb_gb : cb ≤ gb
  cb_gb = closed_within_begun (frame q) w (mark_at r y)

  ga_gb : ga ≤ gb
  ga_gb = begun_rise (frame q) w r x y o a

  -- after the merge each window that isn't closed at x and whose part isn't whole in the piece has its part
  merged_at : (i : ℕ) → ca ≤ i → (i < gb → is_part (kind_of (frame q) i (mark_at r x) (mark_at r y)) ≡ true) → get (taken_in q (unclosed q (first_arrivals r x)) (piece_between q r x y)) i ≡ full (part q i r.rows 0 y)
  merged_at i l part_here =
      get-both nat_cmp_total merge (unclosed q (first_arrivals r x)) (piece_between q r x y).parts i
      ∙ ap (λ p. join merge p (get (piece_between q r x y).parts i)) (unclosed_at q w r x i o l)
      ∙ ⊎_elim
      (λ b. ap (join merge (full (part q i r.rows 0 x))) (piece_in q r x y i l b ∙ ap (λ c. cond c (full (part q i r.rows x y)) None) (part_here b))
      ∙ sym (full_merges (part q i r.rows 0 x) (part q i r.rows x y)) ∙ ap full (sym (parts_join q i r.rows 0 x y zero-le a)))
      (λ b. ap₂ (join merge) (full-of_empty _ (part-beyond q w i r x o (le_trans ga_gb b))) (piece_high q r x y i (le_trans ca_cb cb_gb) b)
      ∙ sym (full-of_empty _ (part-beyond q w i r y o b)))
      (cases_lt i gb)

  merged_low : (i : ℕ) → i < ca → get (taken_in q (unclosed q (first_arrivals r x)) (piece_between q r x y)) i ≡ None
  merged_low i l = get-both nat_cmp_total merge (unclosed q (first_arrivals r x)) (piece_between q r x y).parts i ∙ ap₂ (join merge) (unclosed_low q r x i l) (piece_low q r x y i l)

  kind_here : (i : ℕ) → kind_of (frame q) i (mark_at r x) (mark_at r y) ≡ count_kind ca ga cb gb i
  kind_here i = kind_is (frame q) w i (mark_at r x) (mark_at r y)

  -- a window that lies whole in the piece has nothing in the merge
  merged_whole : (i : ℕ) → ga ≤ i → i < cb → get (taken_in q (unclosed q (first_arrivals r x)) (piece_between q r x y)) i ≡ None
  merged_whole i b l =
      get-both nat_cmp_total merge (unclosed q (first_arrivals r x)) (piece_between q r x y).parts i
      ∙ ap₂ (join merge) (unclosed_at q w r x i o (le_trans ca_ga b) ∙ full-of_empty _ (part-beyond q w i r x o b))
      (piece_in q r x y i (le_trans ca_ga b) (lt_of_lt_of_le l cb_gb) ∙ ap (λ k. cond (is_part k) (full (part q i r.rows x y)) None) (kind_here i ∙ complete_here ca ga cb gb i ca_ga b l cb_gb))

  kept_at : (p : ℕ → Bool) (i : ℕ) (m : Parts) → get (retain_keys m p) i ≡ cond (p i) (get m i) None
  kept_at p i m = get-retain_keys m p i (λ k e. ap p (sym (nat_cmp-IsAntisymmetric i k e)))

  -- what stays open is what the rows up to y leave open
  pub open_law : left_by q (unclosed q (first_arrivals r x)) (piece_between q r x y) ≡ unclosed q (first_arrivals r y)
  unfolding left_by
  open_law = same_map nat_cmp_total nat_cmp-IsAntisymmetric _ _ (λ i.
      kept_at (λ k. nat_le (piece_between q r x y).closed k) i (taken_in q (unclosed q (first_arrivals r x)) (piece_between q r x y))
      ∙ ap (λ c. cond (nat_le c i) (get (taken_in q (unclosed q (first_arrivals r x)) (piece_between q r x y)) i) None) (piece_closed q r x y)
      ∙ ⊎_elim
      (λ l. ap (λ b. cond b (get (taken_in q (unclosed q (first_arrivals r x)) (piece_between q r x y)) i) None) (lt-leb cb i l) ∙ sym (unclosed_low q r y i l))
      (λ l. ap (λ b. cond b (get (taken_in q (unclosed q (first_arrivals r x)) (piece_between q r x y)) i) None) (le-leb cb i l)
      ∙ merged_at i (le_trans ca_cb l) (λ b. ap is_part (kind_here i) ∙ open_here ca ga cb gb i ca_cb l b)
      ∙ sym (unclosed_at q w r y i o l))
      (cases_lt i cb))

  -- ---- what is written

  -- the windows below mid are closing, those from mid on and below cb lie whole in the piece
  abbrev mid : ℕ
  mid = min cb ga

  ca_mid : ca ≤ mid
  ca_mid = omega (arith, ca_cb, ca_ga)

  closing_parts : retain_keys (taken_in q (unclosed q (first_arrivals r x)) (piece_between q r x y)) (λ i. nat_lt i (piece_between q r x y).closed) ≡ from_entries (numbered_list ca (mid - ca) (λ i. full (part q i r.rows 0 y)))
  closing_parts = same_map nat_cmp_total nat_cmp-IsAntisymmetric _ _ (λ i.
      let merged = get (taken_in q (unclosed q (first_arrivals r x)) (piece_between q r x y)) i in
      let f = λ (k : ℕ). full (part q k r.rows 0 y) in
      kept_at (λ k. nat_lt k (piece_between q r x y).closed) i (taken_in q (unclosed q (first_arrivals r x)) (piece_between q r x y))
      ∙ ap (λ c. cond (nat_lt i c) merged None) (piece_closed q r x y)
      ∙ ⊎_elim
      (λ l. ap (λ b. cond b merged None) (lt-ltb i cb l) ∙ ⊎_elim
      (λ k. merged_low i k ∙ sym (get_low i ca (mid - ca) f k))
      (λ k. ⊎_elim
      (λ j. merged_at i k (λ b. ap is_part (kind_here i ∙ closing_here ca ga cb gb i k j l cb_gb)) ∙ sym (get_in i ca (mid - ca) f k (omega (arith, j, l, k))))
      (λ j. merged_whole i j l ∙ sym (get_high i ca (mid - ca) f (omega (arith, j, l, ca_mid))))
      (cases_lt i ga))
      (cases_lt i ca))
      (λ l. ap (λ b. cond b merged None) (le-ltb i cb l) ∙ sym (get_high i ca (mid - ca) f (omega (arith, l, ca_mid))))
      (cases_lt i cb))

  lines_at : (i : ℕ) → option_map_or (λ m. part_lines q i m) (full (part q i r.rows 0 y)) [] ≡ lines q i (take y r.rows)
  lines_at i = full-lines q i (part q i r.rows 0 y) _ refl ∙ sym (lines_upto q i r.rows y)

  closing_lines : flat_map (λ e. part_lines q e.0 e.1) (entries (retain_keys (taken_in q (unclosed q (first_arrivals r x)) (piece_between q r x y)) (λ i. nat_lt i (piece_between q r x y).closed))) ≡ flat_map (λ i. lines q i (take y r.rows)) (from ca (mid - ca))
  closing_lines =
      let f = λ (k : ℕ). full (part q k r.rows 0 y) in
      ap (λ m. flat_map (λ e. part_lines q e.0 e.1) (entries m)) closing_parts
      ∙ ap (flat_map (λ e. part_lines q e.0 e.1)) (entries-numbered ca (mid - ca) f)
      ∙ flat_map-numbered (λ e. part_lines q e.0 e.1) ca (mid - ca) f
      ∙ flat_map-from (λ i. option_map_or (λ m. part_lines q i m) (full (part q i r.rows 0 y)) []) (λ i. lines q i (take y r.rows)) ca (mid - ca) (λ i l b. lines_at i)

  complete_numbers : filter (λ i. is_complete (kind_of (frame q) i (mark_at r x) (mark_at r y))) (from ca (gb - ca)) ≡ from mid (cb - mid)
  complete_numbers =
      let p = λ (i : ℕ). is_complete (kind_of (frame q) i (mark_at r x) (mark_at r y)) in
      let lengths : gb - ca ≡ (mid - ca) + ((cb - mid) + (gb - cb)) = omega (arith, ca_mid, cb_gb, ca_cb) in
      let there : ca + (mid - ca) ≡ mid = omega (arith, ca_mid) in
      let then : mid + (cb - mid) ≡ cb = omega arith in
      let cut : from ca (gb - ca) ≡ from ca (mid - ca) ++ (from mid (cb - mid) ++ from cb (gb - cb)) =
      ap (from ca) lengths ∙ from-append ca (mid - ca) ((cb - mid) + (gb - cb)) ∙ ap (λ n. from ca (mid - ca) ++ from n ((cb - mid) + (gb - cb))) there
      ∙ ap (λ l. from ca (mid - ca) ++ l) (from-append mid (cb - mid) (gb - cb) ∙ ap (λ n. from mid (cb - mid) ++ from n (gb - cb)) then) in
      ap (filter p) cut ∙ filter-append p (from ca (mid - ca)) (from mid (cb - mid) ++ from cb (gb - cb)) ∙ ap (λ l. filter p (from ca (mid - ca)) ++ l) (filter-append p (from mid (cb - mid)) (from cb (gb - cb)))
      ∙ (λ j. filter_none p ca (mid - ca) (λ i l b. ap is_complete (kind_here i ∙ closing_here ca ga cb gb i l (omega (arith, l, b, ca_mid)) (omega (arith, l, b, ca_mid)) cb_gb)) j
      ++ (filter_all p mid (cb - mid) (λ i l b. ap is_complete (kind_here i ∙ complete_here ca ga cb gb i ca_ga (omega (arith, l, b)) (omega (arith, l, b)) cb_gb)) j
      ++ filter_none p cb (gb - cb) (λ i l b. ap is_complete (kind_here i) ∙ open_not_complete ca ga cb gb i ca_cb l (omega (arith, l, b, cb_gb))) j))
      ∙ append-nil _

  -- the lines of a window, over the rows up to y
  abbrev lines_y : ℕ → List ℕ
  lines_y i = lines q i (take y r.rows)

  -- the windows that are closed between x and y: first those that were begun before, then those that lie whole
  closed_lines : lines_from q (take y r.rows) ca cb ≡ flat_map lines_y (from ca (mid - ca)) ++ whole_lines q r x y
  closed_lines =
      let lengths : cb - ca ≡ (mid - ca) + (cb - mid) = omega (arith, ca_mid, ca_cb) in
      let there : ca + (mid - ca) ≡ mid = omega (arith, ca_mid) in
      let cut : from ca (cb - ca) ≡ from ca (mid - ca) ++ from mid (cb - mid) =
      ap (from ca) lengths ∙ from-append ca (mid - ca) (cb - mid) ∙ ap (λ n. from ca (mid - ca) ++ from n (cb - mid)) there in
      ap (flat_map lines_y) cut ∙ flat_map-append lines_y (from ca (mid - ca)) (from mid (cb - mid))
      ∙ ap (λ l. flat_map lines_y (from ca (mid - ca)) ++ flat_map lines_y l) (sym complete_numbers)

  -- what is said of windows, of those closed at x and then of those closed between, where the former stay
  more_closed : (f g : ℕ → List ℕ) → ((i : ℕ) → i < ca → f i ≡ g i) → flat_map f (from 0 cb) ≡ flat_map g (from 0 ca) ++ flat_map f (from ca (cb - ca))
  more_closed f g same =
      let lengths : cb ≡ ca + (cb - ca) = omega (arith, ca_cb) in
      let front : 0 + ca ≡ ca = omega arith in
      let cut : from 0 cb ≡ from 0 ca ++ from ca (cb - ca) = ap (from 0) lengths ∙ from-append 0 ca (cb - ca) ∙ ap (λ n. from 0 ca ++ from n (cb - ca)) front in
      ap (flat_map f) cut ∙ flat_map-append f (from 0 ca) (from ca (cb - ca))
      ∙ ap (λ l. l ++ flat_map f (from ca (cb - ca))) (flat_map-from f g 0 ca (λ i l b. same i (omega (arith, b))))

  closed_before : (i : ℕ) → i < ca → closed (frame q) i (mark_at r x) ≡ true
  closed_before i l = sym (closed_are_counted (frame q) w i (mark_at r x)) ∙ lt-ltb i ca l

  window_lines : window_text q (first_arrivals r y) ≡ window_text q (first_arrivals r x) ++ lines_from q (take y r.rows) ca cb
  window_lines = more_closed lines_y (λ i. lines q i (take x r.rows)) (λ i l. closed_lines_stay q i r x y o a (closed_before i l))

  select_rows : selected_lines q (take y r.rows) ≡ selected_lines q (take x r.rows) ++ selected_lines q (slice_range r.rows x y)
  select_rows =
      let xs = r.rows in
      let p = λ (zs : List ℤ). passes q.predicate zs [] in
      let g = λ (zs : List ℤ). line (items_over q.items zs []) in
      ap (selected_lines q) (sym (slice-front xs y) ∙ slice-join xs 0 x y zero-le a ∙ ap (λ l. l ++ slice_range r.rows x y) (slice-front xs x))
      ∙ ap (λ l. flat_map g (filter p l)) (map-append (λ r. r.values) (take x xs) (slice_range r.rows x y))
      ∙ ap (flat_map g) (filter-append p (map (λ r. r.values) (take x xs)) (map (λ r. r.values) (slice_range r.rows x y)))
      ∙ flat_map-append g (filter p (map (λ r. r.values) (take x xs))) (filter p (map (λ r. r.values) (slice_range r.rows x y)))

  -- ---- what is added to the text of windows, or of rows

  plain_law : plain_text q (first_arrivals r y) ≡ plain_text q (first_arrivals r x) ++ plain_added q r x y
  plain_law = elim q.shape as (λ s. by_shape s (cond (has_windows (frame q)) (window_text q (first_arrivals r y)) (selected_lines q (take y r.rows))) (window_text q (first_arrivals r y)) (window_text q (first_arrivals r y))
      ≡ by_shape s (cond (has_windows (frame q)) (window_text q (first_arrivals r x)) (selected_lines q (take x r.rows))) (window_text q (first_arrivals r x)) (window_text q (first_arrivals r x))
      ++ by_shape s (cond (has_windows (frame q)) (lines_from q (take y r.rows) ca cb) (selected_lines q (slice_range r.rows x y))) (lines_from q (take y r.rows) ca cb) (lines_from q (take y r.rows) ca cb)) [
        | Select ↦ elim (has_windows (frame q)) as (λ b. cond b (window_text q (first_arrivals r y)) (selected_lines q (take y r.rows))
            ≡ cond b (window_text q (first_arrivals r x)) (selected_lines q (take x r.rows)) ++ cond b (lines_from q (take y r.rows) ca cb) (selected_lines q (slice_range r.rows x y))) [ true ↦ window_lines | false ↦ select_rows ]
        | Group ↦ window_lines
        | Join ↦ window_lines
      ]

  -- the closing parts' lines, where there are no windows
  none_closing : has_windows (frame q) ≡ false → flat_map lines_y (from ca (mid - ca)) ≡ []
  unfolding from
  none_closing e =
      let none : cb ≡ 0 = none_of (frame q) (mark_at r y) e in
      let few : mid - ca ≡ 0 = omega (arith, none) in
      ap (λ n. flat_map lines_y (from ca n)) few

  printed_case : (b : Bool) → has_windows (frame q) ≡ b → cond b (lines_from q (take y r.rows) ca cb) (selected_lines q (slice_range r.rows x y))
      ≡ flat_map lines_y (from ca (mid - ca)) ++ cond b (whole_lines q r x y) (selected_lines q (slice_range r.rows x y))
  printed_case true e = closed_lines
  printed_case false e = sym (ap (λ l. l ++ selected_lines q (slice_range r.rows x y)) (none_closing e))

  printed : plain_added q r x y ≡ flat_map lines_y (from ca (mid - ca)) ++ by_frame q (selected_lines q (slice_range r.rows x y)) (whole_lines q r x y)
  printed = elim q.shape as (λ s. by_shape s (cond (has_windows (frame q)) (lines_from q (take y r.rows) ca cb) (selected_lines q (slice_range r.rows x y))) (lines_from q (take y r.rows) ca cb) (lines_from q (take y r.rows) ca cb)
      ≡ flat_map lines_y (from ca (mid - ca)) ++ by_shape s (cond (has_windows (frame q)) (whole_lines q r x y) (selected_lines q (slice_range r.rows x y))) (whole_lines q r x y) (whole_lines q r x y)) [
        | Select ↦ printed_case (has_windows (frame q)) refl
        | Group ↦ closed_lines
        | Join ↦ closed_lines
      ]

  -- the piece's lines are those of the windows that are closed, or of the rows
  pub written_law : plain_added q r x y ≡ written_by q (unclosed q (first_arrivals r x)) (piece_between q r x y)
  unfolding written_by piece_between shares_between
  written_law = printed ∙ ap (λ l. l ++ by_frame q (selected_lines q (slice_range r.rows x y)) (whole_lines q r x y)) (sym closing_lines)

  -- ---- what windows gain or lose

  before_stays : (i : ℕ) → i ≤ ca → before_window (λ k. window_answers q k (take y r.rows)) i ≡ before_window (λ k. window_answers q k (take x r.rows)) i
  before_stays zero l = refl
  before_stays (suc i) l = answers_stay q i r x y o a (closed_before i (omega (arith, l)))

  -- what was kept is what stands before the first window that is closed now
  pub last_stays : before_window (λ k. window_answers q k (take y r.rows)) ca ≡ last_answers q (first_arrivals r x)
  unfolding last_answers
  last_stays = before_stays ca (le_refl ca)

  change_law : (c : Change) → change_text c q (first_arrivals r y) ≡ change_text c q (first_arrivals r x) ++ change_added c q r x y
  change_law c = more_closed (change_lines c q (take y r.rows)) (change_lines c q (take x r.rows))
      (λ i l j. answer_lines i (c (before_stays i (omega (arith, l)) j) (answers_stay q i r x y o a (closed_before i l) j)))

  -- ---- what rows close in their substreams

  abbrev turn_y : List ℕ
  turn_y = closed_in_turn q [] (take y r.rows)

  abbrev turn_x : List ℕ
  turn_x = closed_in_turn q [] (take x r.rows)

  abbrev turn_xy : List ℕ
  turn_xy = closed_in_turn q (take x r.rows) (slice_range r.rows x y)

  turns : turn_y ≡ turn_x ++ turn_xy
  turns = ap (closed_in_turn q []) (sym (slice-front r.rows y) ∙ slice-join r.rows 0 x y zero-le a ∙ ap (λ l. l ++ slice_range r.rows x y) (slice-front r.rows x))
      ∙ in_turn-append q [] (take x r.rows) (slice_range r.rows x y)

  last_case : (b : Bool) → (first_arrivals r y).ended ≡ b → cond b (closed_at_last q (take y r.rows)) [] ≡ cond b (closed_at_last q r.rows) []
  last_case true e = ap (closed_at_last q) (take_all y r.rows (let far = ends_are_behind r y e in omega (arith, far)))
  last_case false e = refl

  none_between : (first_arrivals r x).ended ≡ true → slice_range r.rows x y ≡ []
  none_between e = nothing_behind r.rows x y (let far = ends_are_behind r x e in omega (arith, far))

  no_turn : (first_arrivals r x).ended ≡ true → turn_xy ≡ []
  unfolding closed_in_turn
  no_turn e = ap (closed_in_turn q (take x r.rows)) (none_between e)

  all_came : (first_arrivals r x).ended ≡ true → take y r.rows ≡ take x r.rows
  all_came e =
      let far = ends_are_behind r x e in
      take_all y r.rows (omega (arith, far, a)) ∙ sym (take_all x r.rows (omega (arith, far)))

  list_case : (b : Bool) → (first_arrivals r x).ended ≡ b
      → turn_y ++ cond (first_arrivals r y).ended (closed_at_last q (take y r.rows)) []
      ≡ (turn_x ++ cond b (closed_at_last q (take x r.rows)) []) ++ (turn_xy ++ cond (not b && (first_arrivals r y).ended) (closed_at_last q r.rows) [])
  list_case true e =
      let all : turn_y ≡ turn_x = ap (closed_in_turn q []) (all_came e) in
      (λ j. all j ++ cond (stays_ended r x y a e j) (closed_at_last q (all_came e j)) [])
      ∙ sym (append-nil (turn_x ++ closed_at_last q (take x r.rows)))
      ∙ sym (ap (λ l. (turn_x ++ closed_at_last q (take x r.rows)) ++ (l ++ [])) (no_turn e))
  list_case false e =
      ap (λ l. l ++ cond (first_arrivals r y).ended (closed_at_last q (take y r.rows)) []) turns
      ∙ append_assoc turn_x turn_xy (cond (first_arrivals r y).ended (closed_at_last q (take y r.rows)) [])
      ∙ ap (λ l. turn_x ++ (turn_xy ++ l)) (last_case (first_arrivals r y).ended refl)
      ∙ sym (ap (λ l. l ++ (turn_xy ++ cond (first_arrivals r y).ended (closed_at_last q r.rows) [])) (append-nil turn_x))

  list_law : key_text q (first_arrivals r y) ≡ key_text q (first_arrivals r x) ++ list_added q r x y
  list_law = list_case (first_arrivals r x).ended refl

  -- ---- the text up to y is that up to x, and then what is added
  pub text_law : text q (first_arrivals r y) ≡ text q (first_arrivals r x) ++ added_text q r x y
  unfolding text added_text
  text_law = elim (way q) as (λ u. by_way u (plain_text q (first_arrivals r y)) (key_text q (first_arrivals r y)) (λ c. change_text c q (first_arrivals r y))
      ≡ by_way u (plain_text q (first_arrivals r x)) (key_text q (first_arrivals r x)) (λ c. change_text c q (first_arrivals r x))
      ++ by_way u (plain_added q r x y) (list_added q r x y) (λ c. change_added c q r x y)) [
        | alike ↦ plain_law
        | by_list ↦ list_law
        | by_change c ↦ change_law c
      ]
