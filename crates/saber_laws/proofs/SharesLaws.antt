-- The parts of closing, pending and opening windows, one list after another.
use Rattle.std.proofs.Common.{◌≡◌, ℕ, zero, suc, ◌+◌, ◌-◌, ◌≤◌, ◌<◌, min, max, List, [], ◌++◌, Bool, false, cond, Option, None, option_map, T, refl, sym, ◌∙◌, ap, subst, append-nil, arith}
use Rattle.std.specs.List.{cons_option, filter_map}
use Rattle.std.proofs.lemmas.Bool.Decides.{nat_tests}
use Rattle.std.proofs.lemmas.List.Elements.{filter_map-append}
use Rattle.std.specs.Ordering.{nat_cmp}
use Rattle.std.specs.FinMap.{from_entries, is_sorted, entries_sorted}
use Rattle.saber_plan.specs.declared.windows.Kind.{Kind}
use Rattle.saber_plan.specs.Trees.{Tree}
use Rattle.saber_plan.specs.Inputs.{Input}
use Rattle.saber_plan.specs.Windows.{mark_at, closed_count, begun_count, kind_of, from}
use Rattle.saber_plan.specs.Answers.{frame}
use Rattle.saber_plan.specs.Parts.{Part, part}
use Rattle.saber_plan.specs.Shares.{full, numbered_list, is_closing, is_pending, is_opening, of_kind, entries_in, shares_between}
use Rattle.saber_plan.specs.Tasks.{piece_between}
use Rattle.saber_laws.specs.Shares.{Between, SharesMakePiece, SharesRise}
use Rattle.saber_laws.proofs.WindowLaws.{closed_within_begun}
use Rattle.saber_laws.proofs.DirectLaws.{is_part}
use Rattle.saber_plan.specs.Facts.Numbers.{from-append}
use Rattle.saber_laws.proofs.NumberedLaws.{entries-numbered}
use Rattle.saber_laws.proofs.AssemblyLaws.{count_kind, kind_is}
use Rattle.saber_laws.proofs.EndLaws.{closed_rise, begun_rise}

-- ---- numbers in a row

module _ {X : Type 0} where
  pub numbered-append : (a m n : ℕ) (f : ℕ → Option X) → numbered_list a (m + n) f ≡ numbered_list a m f ++ numbered_list (a + m) n f
  numbered-append a m n f = ap (filter_map (λ i. option_map (λ x. (i, x)) (f i))) (from-append a m n) ∙ filter_map-append (λ i. option_map (λ x. (i, x)) (f i)) (from a m) (from (a + m) n)

  pub numbered-none : (a n : ℕ) (f : ℕ → Option X) → ((i : ℕ) → a ≤ i → i < a + n → f i ≡ None) → numbered_list a n f ≡ []
  unfolding from
  numbered-none a zero f h = refl
  numbered-none a (suc n) f h = ap (λ o. cons_option (option_map (λ x. (a, x)) o) (numbered_list (a + 1) n f)) (h a (omega arith) (omega arith)) ∙ numbered-none (a + 1) n f (λ i l b. h i (omega arith) (omega arith))

  pub numbered-same : (a n : ℕ) (f g : ℕ → Option X) → ((i : ℕ) → a ≤ i → i < a + n → f i ≡ g i) → numbered_list a n f ≡ numbered_list a n g
  unfolding from
  numbered-same a zero f g h = refl
  numbered-same a (suc n) f g h = λ j. cons_option (option_map (λ x. (a, x)) (h a (omega arith) (omega arith) j)) (numbered-same (a + 1) n f g (λ i l b. h i (omega arith) (omega arith)) j)

  pub numbered-three : (a u v b : ℕ) (f : ℕ → Option X) → a ≤ u → u ≤ v → v ≤ b → numbered_list a (b - a) f ≡ numbered_list a (u - a) f ++ (numbered_list u (v - u) f ++ numbered_list v (b - v) f)
  numbered-three a u v b f h k l =
      let lengths : b - a ≡ (u - a) + ((v - u) + (b - v)) = omega arith in
      let first : a + (u - a) ≡ u = omega arith in
      let second : u + (v - u) ≡ v = omega arith in
      ap (λ n. numbered_list a n f) lengths ∙ numbered-append a (u - a) ((v - u) + (b - v)) f ∙ ap (λ c. numbered_list a (u - a) f ++ numbered_list c ((v - u) + (b - v)) f) first
      ∙ ap (λ t. numbered_list a (u - a) f ++ t) (numbered-append u (v - u) (b - v) f ∙ ap (λ c. numbered_list u (v - u) f ++ numbered_list c (b - v) f) second)

-- ---- kinds by counts: first closing windows, then pending or complete ones, then opening ones

module _ (ca ga cb gb : ℕ) (ca_cb : ca ≤ cb) (ga_gb : ga ≤ gb) (ca_ga : ca ≤ ga) (cb_gb : cb ≤ gb) where
  abbrev kind : ℕ → Option Kind
  kind i = count_kind ca ga cb gb i

  closing_first : (i : ℕ) → i < min cb ga → is_closing (kind i) ≡ is_part (kind i)
  closing_first i b = grind (arith, nat_tests)

  no_closing : (i : ℕ) → min cb ga ≤ i → is_closing (kind i) ≡ false
  no_closing i l = grind (arith, nat_tests)

  no_pending_before : (i : ℕ) → i < min cb ga → is_pending (kind i) ≡ false
  no_pending_before i b = grind (arith, nat_tests)

  pending_among : (i : ℕ) → min cb ga ≤ i → i < max cb ga → is_pending (kind i) ≡ is_part (kind i)
  pending_among i l b = grind (arith, nat_tests)

  no_pending_behind : (i : ℕ) → max cb ga ≤ i → is_pending (kind i) ≡ false
  no_pending_behind i l = grind (arith, nat_tests)

  no_opening : (i : ℕ) → i < max cb ga → is_opening (kind i) ≡ false
  no_opening i b = grind (arith, nat_tests)

  opening_last : (i : ℕ) → max cb ga ≤ i → is_opening (kind i) ≡ is_part (kind i)
  opening_last i l = grind (arith, nat_tests)

  -- what windows of such kinds have
  abbrev chosen : (Option Kind → Bool) → (ℕ → Option Part) → ℕ → Option Part
  chosen wanted at i = cond (wanted (kind i)) (at i) None

  module _ (at : ℕ → Option Part) where
    all_chosen : (wanted : Option Kind → Bool) (a b : ℕ) → ((i : ℕ) → a ≤ i → i < b → wanted (kind i) ≡ is_part (kind i)) → numbered_list a (b - a) (chosen wanted at) ≡ numbered_list a (b - a) (chosen is_part at)
    all_chosen wanted a b h = numbered-same a (b - a) (chosen wanted at) (chosen is_part at) (λ i l k. ap (λ c. cond c (at i) None) (h i l (omega (arith, l, k))))

    none_chosen : (wanted : Option Kind → Bool) (a b : ℕ) → ((i : ℕ) → a ≤ i → i < b → wanted (kind i) ≡ false) → numbered_list a (b - a) (chosen wanted at) ≡ []
    none_chosen wanted a b h = numbered-none a (b - a) (chosen wanted at) (λ i l k. ap (λ c. cond c (at i) None) (h i l (omega (arith, l, k))))

    cut_chosen : (wanted : Option Kind → Bool) → numbered_list ca (gb - ca) (chosen wanted at)
        ≡ numbered_list ca (min cb ga - ca) (chosen wanted at) ++ (numbered_list (min cb ga) (max cb ga - min cb ga) (chosen wanted at) ++ numbered_list (max cb ga) (gb - max cb ga) (chosen wanted at))
    cut_chosen wanted = numbered-three ca (min cb ga) (max cb ga) gb (chosen wanted at) (omega arith) (omega arith) (omega arith)

    closing_are : numbered_list ca (gb - ca) (chosen is_closing at) ≡ numbered_list ca (min cb ga - ca) (chosen is_part at)
    closing_are = cut_chosen is_closing
        ∙ (λ j. all_chosen is_closing ca (min cb ga) (λ i l b. closing_first i b) j ++ (none_chosen is_closing (min cb ga) (max cb ga) (λ i l b. no_closing i l) j ++ none_chosen is_closing (max cb ga) gb (λ i l b. no_closing i (omega (arith, l))) j))
        ∙ append-nil _

    pending_are : numbered_list ca (gb - ca) (chosen is_pending at) ≡ numbered_list (min cb ga) (max cb ga - min cb ga) (chosen is_part at)
    pending_are = cut_chosen is_pending
        ∙ (λ j. none_chosen is_pending ca (min cb ga) (λ i l b. no_pending_before i b) j ++ (all_chosen is_pending (min cb ga) (max cb ga) (λ i l b. pending_among i l b) j ++ none_chosen is_pending (max cb ga) gb (λ i l b. no_pending_behind i l) j))
        ∙ append-nil _

    opening_are : numbered_list ca (gb - ca) (chosen is_opening at) ≡ numbered_list (max cb ga) (gb - max cb ga) (chosen is_part at)
    opening_are = cut_chosen is_opening
        ∙ (λ j. none_chosen is_opening ca (min cb ga) (λ i l b. no_opening i (omega (arith, b))) j ++ (none_chosen is_opening (min cb ga) (max cb ga) (λ i l b. no_opening i b) j ++ all_chosen is_opening (max cb ga) gb (λ i l b. opening_last i l) j))

    -- the three lists, one after another, are that of all parts
    three_are : numbered_list ca (gb - ca) (chosen is_closing at) ++ (numbered_list ca (gb - ca) (chosen is_pending at) ++ numbered_list ca (gb - ca) (chosen is_opening at)) ≡ numbered_list ca (gb - ca) (chosen is_part at)
    three_are = (λ j. closing_are j ++ (pending_are j ++ opening_are j)) ∙ sym (cut_chosen is_part)

-- ---- the parts of a task

abbrev open_entries : Tree → Input → ℕ → ℕ → List (ℕ × Part)
open_entries q r x y =
    let a = mark_at r x in
    let b = mark_at r y in
    numbered_list (closed_count (frame q) a) (begun_count (frame q) b - closed_count (frame q) a) (λ i. cond (is_part (kind_of (frame q) i a b)) (full (part q i r.rows x y)) None)

entries_are : (q : Tree) (r : Input) (x y : ℕ) → Between q r x y → entries_in (shares_between q r x y) ≡ open_entries q r x y
unfolding shares_between of_kind
entries_are q r x y t =
    let f = frame q in
    let a = mark_at r x in
    let b = mark_at r y in
    let n = begun_count f b - closed_count f a in
    let at = λ (i : ℕ). full (part q i r.rows x y) in
    let counted = λ (i : ℕ). kind_is f t.fits i a b in
    let by = λ (wanted : Option Kind → Bool) (kinds : ℕ → Option Kind). numbered_list (closed_count f a) n (λ i. cond (wanted (kinds i)) (at i) None) in
    (λ j. by is_closing (λ i. counted i j) ++ (by is_pending (λ i. counted i j) ++ by is_opening (λ i. counted i j)))
    ∙ three_are (closed_count f a) (begun_count f a) (closed_count f b) (begun_count f b) (closed_rise f t.fits r x y t.ordered t.rises) (begun_rise f t.fits r x y t.ordered t.rises) (closed_within_begun f t.fits a) (closed_within_begun f t.fits b) at
    ∙ sym (λ j. by is_part (λ i. counted i j))

pub shares_make_piece : SharesMakePiece
unfolding piece_between
shares_make_piece q r x y t = refl

pub shares_rise : SharesRise
shares_rise q r x y t =
    let a = mark_at r x in
    let b = mark_at r y in
    let own : open_entries q r x y ≡ entries_in (shares_between q r x y) = sym (entries_are q r x y t) in
    subst (λ es. T (is_sorted nat_cmp es))
    (entries-numbered (closed_count (frame q) a) (begun_count (frame q) b - closed_count (frame q) a) (λ i. cond (is_part (kind_of (frame q) i a b)) (full (part q i r.rows x y)) None) ∙ own)
    (entries_sorted (from_entries {R = nat_cmp} (open_entries q r x y)))
