-- An open part is that of its window over the rows so far, and a part of a piece is that over the task's rows.
use Rattle.std.proofs.Common.{◌≡◌, ℕ, ◌-◌, ◌≤◌, ◌<◌, length, take, Bool, true, false, cond, nat_le, ◌==◌, Some, None, sym, ◌∙◌, ap, le_trans, ⊎_elim, arith}
use Rattle.std.proofs.lemmas.Bool.{le-ltb, le-leb, lt-leb, cases_lt}
use Rattle.std.proofs.lemmas.Bool.Decides.{nat_tests}
use Rattle.std.specs.FinMap.{len, get, len-empty}
use Rattle.saber_plan.specs.Trees.{Tree}
use Rattle.saber_plan.specs.Inputs.{Input, first_arrivals}
use Rattle.saber_plan.specs.Windows.{Fits, Ordered, no_rows, mark_at, closed_count, begun_count, kind_of}
use Rattle.saber_plan.specs.Answers.{key_cmp, frame}
use Rattle.saber_plan.specs.Parts.{Part, no_part, part, Numbers}
use Rattle.saber_plan.specs.Shares.{full}
use Rattle.saber_plan.specs.Tasks.{unclosed, piece_between}
use Rattle.saber_laws.specs.Shares.{Between, OpenPartsAre, PiecePartsAre}
use Rattle.saber_laws.proofs.WindowLaws.{begun_are_counted, closed_within_begun}
use Rattle.saber_laws.proofs.NumberedLaws.{get_low, get_in, get_high}
use Rattle.saber_laws.proofs.DirectLaws.{is_part, parts_between}
use Rattle.saber_laws.proofs.EndLaws.{closed_rise, part_upto, part_not_begun}
use Rattle.saber_laws.proofs.AssemblyLaws.{count_kind, kind_is}

-- ---- a part that isn't empty is itself

full_case : (b : Bool) (p r : Part) → cond b None (Some p) ≡ Some r → r ≡ p
full_case true p r e = cc
full_case false p r e = cc

full_is : (p r : Part) → full p ≡ Some r → r ≡ p
full_is p r e = full_case (len p == 0) p r e

pub full_nothing : full no_part ≡ None
full_nothing = ap (λ n. cond (n == 0) None (Some no_part)) (len-empty key_cmp Numbers)

pub kept_is : (b : Bool) (p r : Part) → cond b (full p) None ≡ Some r → r ≡ p
kept_is true p r e = full_is p r e
kept_is false p r e = cc

-- ---- kinds by counts

no_part_low : (ca ga cb gb i : ℕ) → i < ca → is_part (count_kind ca ga cb gb i) ≡ false
no_part_low ca ga cb gb i l = grind (arith, nat_tests)

no_part_high : (ca ga cb gb i : ℕ) → gb ≤ i → is_part (count_kind ca ga cb gb i) ≡ false
no_part_high ca ga cb gb i l = grind (arith, nat_tests)

-- ---- the maps of parts, window by window

abbrev open_before : Tree → Input → ℕ → ℕ → Bool
open_before q r x i = nat_le (closed_count (frame q) (mark_at r x)) i

part_before : (q : Tree) → Fits (frame q) → (r : Input) (x i : ℕ) → Ordered no_rows r.rows → begun_count (frame q) (mark_at r x) ≤ i → part q i r.rows 0 x ≡ no_part
part_before q w r x i o h = part_not_begun q i r x o (sym (begun_are_counted (frame q) w i (mark_at r x)) ∙ le-ltb i _ h)

pub unclosed_at : (q : Tree) → Fits (frame q) → (r : Input) (x i : ℕ) → Ordered no_rows r.rows → get (unclosed q (first_arrivals r x)) i ≡ cond (open_before q r x i) (full (part q i r.rows 0 x)) None
unfolding unclosed
unclosed_at q w r x i o =
    let c = closed_count (frame q) (mark_at r x) in
    let g = begun_count (frame q) (mark_at r x) in
    let c_g : c ≤ g = closed_within_begun (frame q) w (mark_at r x) in
    let at = λ (k : ℕ). full (part q k (take x r.rows) 0 (length (take x r.rows))) in
    let here : at i ≡ full (part q i r.rows 0 x) = ap full (part_upto q i r.rows x) in
    ⊎_elim
    (λ l. get_low i c (g - c) at l ∙ sym (ap (λ b. cond b (full (part q i r.rows 0 x)) None) (lt-leb c i l)))
    (λ l. ⊎_elim
    (λ b. get_in i c (g - c) at l (omega (arith, l, b)) ∙ here)
    (λ b. get_high i c (g - c) at (omega (arith, b, c_g)) ∙ sym (ap full (part_before q w r x i o b) ∙ full_nothing))
    (cases_lt i g)
    ∙ sym (ap (λ b. cond b (full (part q i r.rows 0 x)) None) (le-leb c i l)))
    (cases_lt i c)

abbrev has_part : Tree → Input → ℕ → ℕ → ℕ → Bool
has_part q r x y i = is_part (count_kind (closed_count (frame q) (mark_at r x)) (begun_count (frame q) (mark_at r x)) (closed_count (frame q) (mark_at r y)) (begun_count (frame q) (mark_at r y)) i)

piece_at : (q : Tree) (r : Input) (x y : ℕ) → Between q r x y → (i : ℕ) → get (piece_between q r x y).parts i ≡ cond (has_part q r x y i) (full (part q i r.rows x y)) None
piece_at q r x y t i =
    let f = frame q in
    let a = mark_at r x in
    let b = mark_at r y in
    let c = closed_count f a in
    let g = begun_count f b in
    let c_g : c ≤ g = le_trans (closed_rise f t.fits r x y t.ordered t.rises) (closed_within_begun f t.fits b) in
    let at = λ (k : ℕ). cond (is_part (kind_of f k a b)) (full (part q k r.rows x y)) None in
    let there = λ (k : Bool). cond k (full (part q i r.rows x y)) None in
    ap (λ m. get m i) (parts_between q r x y)
    ∙ ⊎_elim
    (λ l. get_low i c (g - c) at l ∙ sym (ap there (no_part_low c (begun_count f a) (closed_count f b) g i l)))
    (λ l. ⊎_elim
    (λ h. get_in i c (g - c) at l (omega (arith, l, h)) ∙ ap (λ k. there (is_part k)) (kind_is f t.fits i a b))
    (λ h. get_high i c (g - c) at (omega (arith, h, c_g)) ∙ sym (ap there (no_part_high c (begun_count f a) (closed_count f b) g i h)))
    (cases_lt i g))
    (cases_lt i c)

pub open_parts_are : OpenPartsAre
open_parts_are q r x y t i p e = kept_is (open_before q r x i) (part q i r.rows 0 x) p (sym (unclosed_at q t.fits r x i t.ordered) ∙ e)

pub piece_parts_are : PiecePartsAre
piece_parts_are q r x y t i p e = kept_is (has_part q r x y i) (part q i r.rows x y) p (sym (piece_at q r x y t i) ∙ e)
