-- What windows change, from the parts that were handed on and taken in.
use Rattle.std.proofs.Common.{◌≡◌, ℕ, ◌+◌, ◌≤◌, ◌<◌, List, [], ◌∷◌, ◌++◌, map, take, Bool, true, false, cond, nat_lt, nat_le, ◌==◌, T, Option, Some, None, ℤ, refl, sym, ◌∙◌, ap, subst, nat_cmp, arith}
use Rattle.std.proofs.lemmas.Bool.Decides.{nat_tests}
use Rattle.std.proofs.lemmas.List.{nil_from_length}
use Rattle.std.specs.List.{AllByRecursion}
use Rattle.std.specs.Cmp.{nat_cmp_total, tied_itself}
use Rattle.std.specs.Ordering.{eq_by_cmp, is_eq, is_lt}
use Rattle.std.specs.FinMap.{len, get, entries, from_entries, find, is_sorted, retain_keys, same_map, entries_sorted, len-entries, get-entries, get-retain_keys, nat_cmp-IsAntisymmetric}
use Rattle.std.specs.FinMap.Entries.{find_tied, below_all}
use Rattle.saber_plan.specs.Trees.{Tree}
use Rattle.saber_plan.specs.Inputs.{Input, first_arrivals}
use Rattle.saber_plan.specs.Merges.{both}
use Rattle.saber_plan.specs.Facts.Lists.{T_parts}
use Rattle.saber_plan.specs.Facts.Maps.{equal_if, first_alone, rest_rises}
use Rattle.saber_plan.specs.Answers.{Answers, window_answers, before_window, frame}
use Rattle.saber_plan.specs.Parts.{Part, Numbers, part, part_answers, group_answer, merge}
use Rattle.saber_plan.specs.Tasks.{Parts, unclosed, closed_at, last_answers}
use Rattle.saber_plan.specs.Shares.{Shares, full, entries_in, handed_between}
use Rattle.saber_laws.specs.Shares.{Between}
use Rattle.saber_laws.proofs.OpenLaws.{open_parts_are}
use Rattle.saber_laws.proofs.EndLaws.{closed_rise}
use Rattle.saber_laws.proofs.WordLaws.{answers_are_of_parts, last_answers_stay}
use Rattle.saber_laws.proofs.HandedLaws.{handed_rise, handed_parts_are, handed_is_taken_in, open_behind}
use Rattle.saber_changes.specs.declared.cancel.Change.{Change}
use Rattle.saber_changes.specs.declared.walk.Walk.{Walk}
use Rattle.saber_changes.specs.Walks.{Stands, Walks, changes_from}
use Rattle.saber_parts.specs.Stored.{CanTakeIn}
use Rattle.saber_parts.specs.Changing.{Rises, Tells, Hands, Handed}

-- ---- entries whose numbers rise

abbrev Entries : Type 0
Entries = List (ℕ × Part)

none_here : (e : ℕ × Part) (es : Entries) (i : ℕ) (p : Part) (b : Bool) → eq_by_cmp nat_cmp i e.0 ≡ b → find nat_cmp e.0 es ≡ None → find nat_cmp i es ≡ Some p → cond b (Some e.1) (find nat_cmp i es) ≡ Some p
none_here e es i p true t n f = let m : find nat_cmp i es ≡ None = sym (find_tied nat_cmp nat_cmp_total i e.0 (equal_if _ t) es) ∙ n in cc
none_here e es i p false t n f = f

-- what is true of each number and what it has is true of each entry
each_has : (P : ℕ → Part → Type 0) (es : Entries) → T (is_sorted nat_cmp es) → ((i : ℕ) (p : Part) → find nat_cmp i es ≡ Some p → P i p) → AllByRecursion (λ (e : ℕ × Part). P e.0 e.1) es
each_has P [] s h = tt
each_has P (e ∷ es) s h = (
  h e.0 e.1 (ap (λ r. cond (is_eq r) (Some e.1) (find nat_cmp e.0 es)) (tied_itself nat_cmp_total e.0)),
  each_has P es (rest_rises nat_cmp e es s) (λ i p f. h i p (none_here e es i p (eq_by_cmp nat_cmp i e.0) refl (first_alone nat_cmp e es s) f)),
)

less_is : (k l : ℕ) → T (is_lt (nat_cmp k l)) → k < l
less_is k l h = grind (arith, nat_tests)

-- entries behind a number, and below another
lifted : (k a b : ℕ) (es : Entries) → T (below_all nat_cmp k es) → AllByRecursion (λ (e : ℕ × Part). (a ≤ e.0) × (e.0 < b)) es → AllByRecursion (λ (e : ℕ × Part). (k + 1 ≤ e.0) × (e.0 < b)) es
lifted k a b [] s h = tt
lifted k a b (e ∷ es) s h = let p = T_parts _ _ s in let low = less_is k e.0 p.0 in ((omega (arith, low), h.0.1), lifted k a b es p.1 h.1)

rise_from : (a b : ℕ) (es : Entries) → a ≤ b → T (is_sorted nat_cmp es) → AllByRecursion (λ (e : ℕ × Part). (a ≤ e.0) × (e.0 < b)) es → Rises a b es
rise_from a b [] l s h = l
rise_from a b (e ∷ es) l s h = let p = T_parts _ _ s in let high = h.0.1 in (h.0.0, h.0.1, rise_from (e.0 + 1) b es (omega (arith, high)) p.1 (lifted e.0 a b es p.0 h.1))

apart : (i k : ℕ) → i < k → eq_by_cmp nat_cmp i k ≡ false
apart i k h = grind (arith, nat_tests)

apart_above : (i k : ℕ) → k < i → eq_by_cmp nat_cmp i k ≡ false
apart_above i k h = grind (arith, nat_tests)

none_below : (a b : ℕ) (es : Entries) → Rises a b es → (i : ℕ) → i < a → find nat_cmp i es ≡ None
none_below a b [] h i l = refl
none_below a b (e ∷ es) h i l = let low = h.0 in ap (λ t. cond t (Some e.1) (find nat_cmp i es)) (apart i e.0 (omega (arith, low, l))) ∙ none_below (e.0 + 1) b es h.2 i (omega (arith, low, l))

-- ---- what they tell

full_case : (b : Bool) (p r : Part) → cond b None (Some p) ≡ Some r → r ≡ p
full_case true p r e = cc
full_case false p r e = cc

full_is : (p r : Part) → full p ≡ Some r → r ≡ p
full_is p r e = full_case (len p == 0) p r e

empty_case : (b : Bool) (p : Part) → cond b None (Some p) ≡ None → b ≡ true
empty_case true p e = refl
empty_case false p e = cc

zero_is : (n : ℕ) → (n == 0) ≡ true → n ≡ 0
zero_is n h = grind (arith, nat_tests)

no_answers : (q : Tree) (p : Part) → full p ≡ None → part_answers q p ≡ []
no_answers q p e =
    let none : entries p ≡ [] = nil_from_length _ (sym (len-entries p) ∙ zero_is (len p) (empty_case (len p == 0) p e)) in
    ap (λ (es : List (List ℤ × Numbers)). map (λ (e : List ℤ × List ℤ). e.1) (map (group_answer q.shape q.items) es)) none

module _ (q : Tree) (at : ℕ → Answers) (has : ℕ → Part) (told : (i : ℕ) → at i ≡ part_answers q (has i)) where
  tells : (b : ℕ) (es : Entries) (a : ℕ) → Rises a b es → ((i : ℕ) → a ≤ i → i < b → find nat_cmp i es ≡ full (has i)) → Tells q at a b es
  tells b [] a h found = λ i l r. told i ∙ no_answers q (has i) (sym (found i l r))
  tells b (e ∷ es) a h found =
      let low = h.0 in
      let high = h.1 in (
        (λ i l r. told i ∙ no_answers q (has i) (sym (found i l (omega (arith, r, high))) ∙ ap (λ t. cond t (Some e.1) (find nat_cmp i es)) (apart i e.0 r) ∙ none_below (e.0 + 1) b es h.2 i (omega (arith, r)))),
        told e.0 ∙ ap (part_answers q) (sym (full_is (has e.0) e.1 (sym (found e.0 low high) ∙ ap (λ r. cond (is_eq r) (Some e.1) (find nat_cmp e.0 es)) (tied_itself nat_cmp_total e.0)))),
        tells b es (e.0 + 1) h.2 (λ i l r. sym (ap (λ t. cond t (Some e.1) (find nat_cmp i es)) (apart_above i e.0 (omega (arith, l)))) ∙ found i (omega (arith, l, low)) r),
      )

-- ---- taken in

two_tests : (b c : Bool) (o : Option Part) (p : Part) → cond b (cond c o None) None ≡ Some p → (b ≡ true) × (c ≡ true)
two_tests true true o p e = (refl, refl)
two_tests true false o p e = cc
two_tests false c o p e = cc

below_is : (i c : ℕ) → nat_lt i c ≡ true → i < c
below_is i c h = grind (arith, nat_tests)

from_is : (c i : ℕ) → nat_le c i ≡ true → c ≤ i
from_is c i h = grind (arith, nat_tests)

is_below : (i c : ℕ) → i < c → nat_lt i c ≡ true
is_below i c h = grind (arith, nat_tests)

is_from : (c i : ℕ) → c ≤ i → nat_le c i ≡ true
is_from c i h = grind (arith, nat_tests)

-- a number from the later of two on is one from the earlier on
later_case : (b c : Bool) (o : Option Part) → (b ≡ true → c ≡ true) → cond b (cond c o None) None ≡ cond b o None
later_case true c o h = ap (λ t. cond t o None) (h refl)
later_case false c o h = refl

module _ (q : Tree) (m : Parts) (w : Walk) (s : Shares) (r : Input) (x y : ℕ) (h : Hands q m w s r x y) where
  between : Between q r x y
  between = record { fits = h.windows; ordered = h.fits.ordered; rises = h.rises }

  pub rising : T (is_sorted nat_cmp (entries_in s))
  rising = subst (λ t. T (is_sorted nat_cmp (entries_in t))) (sym h.handed_is) (handed_rise q r x y between)

  pub can : CanTakeIn q m (from_entries (entries_in s))
  can = record {
    at = λ i a b f g. record {
      window = i;
      rows = r.rows;
      from = 0;
      seam = x;
      to = y;
      fits = h.fits;
      rises = omega arith;
      rises_on = h.rises;
      first = open_parts_are q r x y between i a (sym (ap (λ (n : Parts). get n i) h.unclosed_is) ∙ f);
      second = handed_parts_are q r x y between i b (sym (ap (λ t. get (from_entries {R = nat_cmp} (entries_in t)) i) h.handed_is) ∙ g);
    };
  }

  abbrev merged : Parts
  merged = both merge m (from_entries (entries_in s))

  abbrev whole : ℕ → Part
  whole i = part q i r.rows 0 y

  merged_at : (i : ℕ) → get merged i ≡ cond (nat_le (closed_at q r x) i) (full (whole i)) None
  merged_at i = (λ j. get (both merge (h.unclosed_is j) (from_entries {R = nat_cmp} (entries_in (h.handed_is j)))) i) ∙ handed_is_taken_in q r x y between i

  closed_is : s.closed ≡ closed_at q r y
  unfolding handed_between
  closed_is = ap (λ (t : Shares). t.closed) h.handed_is

  abbrev first : ℕ
  first = closed_at q r x

  abbrev below : Parts
  below = retain_keys merged (λ i. nat_lt i s.closed)

  found : (i : ℕ) → find nat_cmp i (entries below) ≡ cond (nat_lt i s.closed) (cond (nat_le first i) (full (whole i)) None) None
  found i = sym (get-entries below i) ∙ get-retain_keys merged (λ i. nat_lt i s.closed) i (λ k e. ap (λ j. nat_lt j s.closed) (sym (nat_cmp-IsAntisymmetric i k e)))
      ∙ ap (λ o. cond (nat_lt i s.closed) o None) (merged_at i)

  order : w.next ≤ s.closed
  order = let low = closed_rise (frame q) h.windows r x y h.fits.ordered h.rises in let next = h.next_is in let past = closed_is in omega (arith, low, next, past)

  pub closed_rise_on : Rises w.next s.closed (entries below)
  closed_rise_on = rise_from w.next s.closed (entries below) order (entries_sorted below)
      (each_has (λ i p. (w.next ≤ i) × (i < s.closed)) (entries below) (entries_sorted below) (λ i p f.
      let t = two_tests _ _ (full (whole i)) p (sym (found i) ∙ f) in
      let low = from_is first i t.1 in
      let next = h.next_is in
      (omega (arith, low, next), below_is i s.closed t.0)))

  -- the answers of all windows, by all rows so far
  abbrev at : ℕ → Answers
  at i = window_answers q i (take y r.rows)

  pub stands : Stands at w
  stands = h.last_is ∙ sym (last_answers_stay q h.windows r x y h.fits.ordered h.rises) ∙ ap (before_window at) (sym h.next_is)

  pub told : Tells q at w.next s.closed (entries below)
  told = tells q at whole (λ i. answers_are_of_parts q i r.rows y) s.closed (entries below) w.next closed_rise_on (λ i l u.
      let next = h.next_is in
      found i ∙ ap (λ b. cond b (cond (nat_le first i) (full (whole i)) None) None) (is_below i s.closed u) ∙ ap (λ b. cond b (full (whole i)) None) (is_from first i (omega (arith, l, next))))

  open_at : (i : ℕ) → get (retain_keys merged (λ i. nat_le s.closed i)) i ≡ get (unclosed q (first_arrivals r y)) i
  open_at i =
      let low = closed_rise (frame q) h.windows r x y h.fits.ordered h.rises in
      get-retain_keys merged (λ i. nat_le s.closed i) i (λ k e. ap (nat_le s.closed) (sym (nat_cmp-IsAntisymmetric i k e)))
      ∙ ap (λ o. cond (nat_le s.closed i) o None) (merged_at i)
      ∙ ap (λ c. cond (nat_le c i) (cond (nat_le first i) (full (whole i)) None) None) closed_is
      ∙ later_case (nat_le (closed_at q r y) i) (nat_le first i) (full (whole i)) (λ t. let high = from_is (closed_at q r y) i t in is_from first i (omega (arith, low, high)))
      ∙ sym (open_behind q h.windows r y i h.fits.ordered)

  -- all that comes of it
  pub handed : (change : Change) (new : Walk) (left : Parts) (before after : List ℕ) → left ≡ retain_keys merged (λ i. nat_le s.closed i) → new.next ≡ s.closed
      → Walks change at w new s.closed before after → Handed change q left new before after r x y
  unfolding last_answers
  handed change new left before after l n walks = record {
    text = walks.text ∙ (λ j. before ++ changes_from change at (h.next_is j) (closed_is j));
    stays = l ∙ same_map nat_cmp_total nat_cmp-IsAntisymmetric _ _ open_at;
    next = n ∙ closed_is;
    last = walks.stands ∙ ap (before_window at) (n ∙ closed_is);
  }
