-- What is handed on of windows, and what is there once it is taken in.
use Rattle.std.proofs.Common.{◌≡◌, ℕ, ◌-◌, ◌≤◌, ◌<◌, max, [], ◌++◌, Bool, true, false, cond, nat_le, Option, None, T, refl, sym, ◌∙◌, ap, ap₂, subst, le_trans, zero-le, append-nil, ⊎_elim, arith, nat_cmp}
use Rattle.std.proofs.lemmas.Bool.{le-ltb, le-leb, lt-leb, cases_lt}
use Rattle.std.proofs.lemmas.Bool.Decides.{nat_tests}
use Rattle.std.specs.Cmp.{nat_cmp_total}
use Rattle.std.specs.FinMap.{get, from_entries, is_sorted, entries_sorted}
use Rattle.saber_plan.specs.declared.windows.Kind.{Kind}
use Rattle.saber_plan.specs.Trees.{Tree}
use Rattle.saber_plan.specs.Inputs.{Input, first_arrivals}
use Rattle.saber_plan.specs.Windows.{mark_at, closed_count, begun_count}
use Rattle.saber_plan.specs.Answers.{frame}
use Rattle.saber_plan.specs.Merges.{join}
use Rattle.saber_plan.specs.Facts.Maps.{get-both}
use Rattle.saber_plan.specs.Parts.{Part, part, merge}
use Rattle.saber_plan.specs.Shares.{full, numbered_list, is_closed, is_pending, is_opening, of_kind, entries_in, handed_between}
use Rattle.saber_plan.specs.Tasks.{unclosed}
use Rattle.saber_laws.specs.Shares.{Between}
use Rattle.saber_laws.specs.Words.{HandedRise, HandedPartsAre, HandedIsTakenIn, OpenBehind}
use Rattle.saber_laws.proofs.WindowLaws.{begun_are_counted, closed_within_begun}
use Rattle.saber_laws.proofs.NumberedLaws.{entries-numbered, get_low, get_in, get_high}
use Rattle.saber_laws.proofs.AssemblyLaws.{count_kind, kind_is, full_merges}
use Rattle.saber_laws.proofs.EndLaws.{closed_rise, begun_rise, parts_join, not_begun_part}
use Rattle.saber_laws.proofs.SharesLaws.{numbered-none, numbered-same, numbered-three}
use Rattle.saber_laws.proofs.OpenLaws.{unclosed_at, full_nothing, kept_is}

-- ---- kinds by counts: first closed windows, then pending or no ones, then opening ones

module _ (ca ga cb gb : ℕ) (ca_cb : ca ≤ cb) (ga_gb : ga ≤ gb) (ca_ga : ca ≤ ga) (cb_gb : cb ≤ gb) where
  abbrev kind : ℕ → Option Kind
  kind i = count_kind ca ga cb gb i

  closed_first : (i : ℕ) → ca ≤ i → i < cb → is_closed (kind i) ≡ true
  closed_first i l b = grind (arith, nat_tests)

  no_closed : (i : ℕ) → cb ≤ i → is_closed (kind i) ≡ false
  no_closed i l = grind (arith, nat_tests)

  no_pending_before : (i : ℕ) → i < cb → is_pending (kind i) ≡ false
  no_pending_before i b = grind (arith, nat_tests)

  pending_among : (i : ℕ) → cb ≤ i → i < max cb ga → is_pending (kind i) ≡ true
  pending_among i l b = grind (arith, nat_tests)

  no_pending_behind : (i : ℕ) → max cb ga ≤ i → is_pending (kind i) ≡ false
  no_pending_behind i l = grind (arith, nat_tests)

  no_opening : (i : ℕ) → i < max cb ga → is_opening (kind i) ≡ false
  no_opening i b = grind (arith, nat_tests)

  opening_last : (i : ℕ) → max cb ga ≤ i → i < gb → is_opening (kind i) ≡ true
  opening_last i l b = grind (arith, nat_tests)

  module _ (at : ℕ → Option Part) where
    -- what windows of such kinds have
    abbrev chosen : (Option Kind → Bool) → ℕ → Option Part
    chosen wanted i = cond (wanted (kind i)) (at i) None

    all_chosen : (wanted : Option Kind → Bool) (a b : ℕ) → ((i : ℕ) → a ≤ i → i < b → wanted (kind i) ≡ true) → numbered_list a (b - a) (chosen wanted) ≡ numbered_list a (b - a) at
    all_chosen wanted a b h = numbered-same a (b - a) (chosen wanted) at (λ i l k. ap (λ c. cond c (at i) None) (h i l (omega (arith, l, k))))

    none_chosen : (wanted : Option Kind → Bool) (a b : ℕ) → ((i : ℕ) → a ≤ i → i < b → wanted (kind i) ≡ false) → numbered_list a (b - a) (chosen wanted) ≡ []
    none_chosen wanted a b h = numbered-none a (b - a) (chosen wanted) (λ i l k. ap (λ c. cond c (at i) None) (h i l (omega (arith, l, k))))

    cut : (f : ℕ → Option Part) → numbered_list ca (gb - ca) f ≡ numbered_list ca (cb - ca) f ++ (numbered_list cb (max cb ga - cb) f ++ numbered_list (max cb ga) (gb - max cb ga) f)
    cut f = numbered-three ca cb (max cb ga) gb f (omega arith) (omega arith) (omega arith)

    closed_are : numbered_list ca (gb - ca) (chosen is_closed) ≡ numbered_list ca (cb - ca) at
    closed_are = cut (chosen is_closed)
        ∙ (λ j. all_chosen is_closed ca cb (λ i l b. closed_first i l b) j ++ (none_chosen is_closed cb (max cb ga) (λ i l b. no_closed i l) j ++ none_chosen is_closed (max cb ga) gb (λ i l b. no_closed i (omega (arith, l))) j))
        ∙ append-nil _

    pending_are : numbered_list ca (gb - ca) (chosen is_pending) ≡ numbered_list cb (max cb ga - cb) at
    pending_are = cut (chosen is_pending)
        ∙ (λ j. none_chosen is_pending ca cb (λ i l b. no_pending_before i b) j ++ (all_chosen is_pending cb (max cb ga) (λ i l b. pending_among i l b) j ++ none_chosen is_pending (max cb ga) gb (λ i l b. no_pending_behind i l) j))
        ∙ append-nil _

    opening_are : numbered_list ca (gb - ca) (chosen is_opening) ≡ numbered_list (max cb ga) (gb - max cb ga) at
    opening_are = cut (chosen is_opening)
        ∙ (λ j. none_chosen is_opening ca cb (λ i l b. no_opening i (omega (arith, b))) j ++ (none_chosen is_opening cb (max cb ga) (λ i l b. no_opening i b) j ++ all_chosen is_opening (max cb ga) gb (λ i l b. opening_last i l b) j))

    -- the three lists, one after another, are that of all windows
    three_are : numbered_list ca (gb - ca) (chosen is_closed) ++ (numbered_list ca (gb - ca) (chosen is_pending) ++ numbered_list ca (gb - ca) (chosen is_opening)) ≡ numbered_list ca (gb - ca) at
    three_are = (λ j. closed_are j ++ (pending_are j ++ opening_are j)) ∙ sym (cut at)

-- ---- what is handed on

module _ (q : Tree) (r : Input) (x y : ℕ) (t : Between q r x y) where
  abbrev first : ℕ
  first = closed_count (frame q) (mark_at r x)

  abbrev past : ℕ
  past = begun_count (frame q) (mark_at r y)

  abbrev at : ℕ → Option Part
  at i = full (part q i r.rows x y)

  rising : first ≤ past
  rising = le_trans (closed_rise (frame q) t.fits r x y t.ordered t.rises) (closed_within_begun (frame q) t.fits (mark_at r y))

  -- each window's part, if it isn't empty
  handed_are : entries_in (handed_between q r x y) ≡ numbered_list first (past - first) at
  unfolding handed_between of_kind
  handed_are =
      let f = frame q in
      let a = mark_at r x in
      let b = mark_at r y in
      let counted = λ (i : ℕ). kind_is f t.fits i a b in
      let by = λ (wanted : Option Kind → Bool) (kinds : ℕ → Option Kind). numbered_list first (past - first) (λ i. cond (wanted (kinds i)) (at i) None) in
      (λ j. by is_closed (λ i. counted i j) ++ (by is_pending (λ i. counted i j) ++ by is_opening (λ i. counted i j)))
      ∙ three_are first (begun_count f a) (closed_count f b) past (closed_rise f t.fits r x y t.ordered t.rises) (begun_rise f t.fits r x y t.ordered t.rises) (closed_within_begun f t.fits a) (closed_within_begun f t.fits b) at

  handed_at : (i : ℕ) → get (from_entries {R = nat_cmp} (entries_in (handed_between q r x y))) i ≡ cond (nat_le first i) (at i) None
  handed_at i =
      let up = rising in
      ap (λ l. get (from_entries {R = nat_cmp} l) i) handed_are
      ∙ ⊎_elim
      (λ l. get_low i first (past - first) at l ∙ sym (ap (λ b. cond b (at i) None) (lt-leb first i l)))
      (λ l. ⊎_elim
      (λ h. get_in i first (past - first) at l (omega (arith, l, h)))
      (λ h. get_high i first (past - first) at (omega (arith, h, up))
      ∙ sym (ap full (not_begun_part q i r x y t.ordered t.rises (sym (begun_are_counted (frame q) t.fits i (mark_at r y)) ∙ le-ltb i _ h)) ∙ full_nothing))
      (cases_lt i past)
      ∙ sym (ap (λ b. cond b (at i) None) (le-leb first i l)))
      (cases_lt i first)

  joined_case : (b : Bool) (i : ℕ) → join merge (cond b (full (part q i r.rows 0 x)) None) (cond b (at i) None) ≡ cond b (full (part q i r.rows 0 y)) None
  joined_case true i = sym (full_merges (part q i r.rows 0 x) (part q i r.rows x y)) ∙ ap full (sym (parts_join q i r.rows 0 x y zero-le t.rises))
  joined_case false i = refl

pub handed_rise : HandedRise
handed_rise q r x y t =
    let c = first q r x y t in
    let n = past q r x y t - first q r x y t in
    subst (λ es. T (is_sorted nat_cmp es)) (entries-numbered c n (at q r x y t) ∙ sym (handed_are q r x y t)) (entries_sorted (from_entries {R = nat_cmp} (numbered_list c n (at q r x y t))))

pub handed_parts_are : HandedPartsAre
handed_parts_are q r x y t i p e = kept_is (nat_le (first q r x y t) i) (part q i r.rows x y) p (sym (handed_at q r x y t i) ∙ e)

pub handed_is_taken_in : HandedIsTakenIn
handed_is_taken_in q r x y t i =
    get-both nat_cmp_total merge (unclosed q (first_arrivals r x)) (from_entries {R = nat_cmp} (entries_in (handed_between q r x y))) i
    ∙ ap₂ (join merge) (unclosed_at q t.fits r x i t.ordered) (handed_at q r x y t i)
    ∙ joined_case q r x y t (nat_le (first q r x y t) i) i

pub open_behind : OpenBehind
open_behind q w r y i o = unclosed_at q w r y i o
