-- The parts of a store below a number, and those from it on.
use Rattle.std.proofs.Common.{◌≡◌, ℕ, List, [], ◌∷◌, filter, Bool, true, false, cond, nat_lt, nat_le, Option, Some, None, T, refl, sym, ◌∙◌, ap, arith, nat_cmp}
use Rattle.std.proofs.lemmas.Bool.Decides.{nat_tests}
use Rattle.std.specs.Cmp.{nat_cmp_total}
use Rattle.std.specs.Ordering.{eq_by_cmp}
use Rattle.std.specs.FinMap.Entries.{is_sorted-where_key}
use Rattle.std.specs.FinMap.{get, entries, from_entries, retain_keys, find, is_sorted, same_map, get-from_entries, get-retain_keys, nat_cmp-IsAntisymmetric}
use Rattle.saber_plan.specs.Parts.{Part}
use Rattle.saber_plan.specs.Tasks.{Parts}
use Rattle.saber_plan.specs.Facts.Maps.{entries-from_rising}
use Rattle.saber_fragment.specs.Shown.{windows_by}
use Rattle.saber_parts.specs.Stored.{parts_by, closed_of}

tie_is : (i k : ℕ) → eq_by_cmp nat_cmp i k ≡ true → i ≡ k
tie_is i k e = grind (arith, nat_tests)

-- where the test of a key says so, an entry with it is found as before, and else none is
keep_case : (p : ℕ → Bool) (i : ℕ) (e : ℕ × Part) (r : Option Part) (rest : List (ℕ × Part)) (t b : Bool) → p e.0 ≡ t → eq_by_cmp nat_cmp i e.0 ≡ b → find nat_cmp i rest ≡ cond (p i) r None → find nat_cmp i (cond t (e ∷ rest) rest) ≡ cond (p i) (cond b (Some e.1) r) None
keep_case p i e r rest true true g h k = ap (λ b. cond b (Some e.1) (find nat_cmp i rest)) h ∙ sym (ap (λ b. cond b (Some e.1) None) (ap p (tie_is i e.0 h) ∙ g))
keep_case p i e r rest true false g h k = ap (λ b. cond b (Some e.1) (find nat_cmp i rest)) h ∙ k
keep_case p i e r rest false true g h k = k ∙ ap (λ b. cond b r None) (ap p (tie_is i e.0 h) ∙ g) ∙ sym (ap (λ b. cond b (Some e.1) None) (ap p (tie_is i e.0 h) ∙ g))
keep_case p i e r rest false false g h k = k

none_kept : (b : Bool) (o : Option Part) → o ≡ None → o ≡ cond b o None
none_kept true o e = refl
none_kept false o e = e

find_kept : (p : ℕ → Bool) (i : ℕ) (es : List (ℕ × Part)) → find nat_cmp i (filter (λ e. p e.0) es) ≡ cond (p i) (find nat_cmp i es) None
find_kept p i [] = none_kept (p i) None refl
find_kept p i (e ∷ es) = keep_case p i e (find nat_cmp i es) (filter (λ e. p e.0) es) (p e.0) (eq_by_cmp nat_cmp i e.0) refl refl (find_kept p i es)

kept_at : (p : ℕ → Bool) (i : ℕ) (m : Parts) → get (retain_keys m p) i ≡ cond (p i) (get m i) None
kept_at p i m = get-retain_keys m p i (λ k e. ap p (sym (nat_cmp-IsAntisymmetric i k e)))

-- entries kept by key make the map kept by key
kept_map : (p : ℕ → Bool) (es : List (ℕ × Part)) → from_entries {R = nat_cmp} (filter (λ e. p e.0) es) ≡ retain_keys (from_entries {R = nat_cmp} es) p
kept_map p es = same_map nat_cmp_total nat_cmp-IsAntisymmetric _ _ (λ i. get-from_entries nat_cmp_total (filter (λ e. p e.0) es) i ∙ find_kept p i es ∙ sym (kept_at p i (from_entries {R = nat_cmp} es) ∙ ap (λ o. cond (p i) o None) (get-from_entries nat_cmp_total es i)))

module _ {P : Type 0} (shown : P → Part) where
  shown_kept : (p : ℕ → Bool) (es : List (ℕ × P)) → windows_by shown (filter (λ e. p e.0) es) ≡ filter (λ e. p e.0) (windows_by shown es)
  shown_kept p [] = refl
  shown_kept p (e ∷ es) = elim (p e.0) as (λ b. windows_by shown (cond b (e ∷ filter (λ e. p e.0) es) (filter (λ e. p e.0) es)) ≡ cond b ((e.0, shown e.1) ∷ filter (λ e. p e.0) (windows_by shown es)) (filter (λ e. p e.0) (windows_by shown es))) [
    | true ↦ ap (λ l. (e.0, shown e.1) ∷ l) (shown_kept p es)
    | false ↦ shown_kept p es
  ]

  -- those from a number on
  pub cut_from : (c : ℕ) (all : Parts) (es : List (ℕ × P)) → parts_by shown es ≡ all → parts_by shown (filter (λ e. nat_le c e.0) es) ≡ retain_keys all (λ i. nat_le c i)
  cut_from c all es t = ap (λ l. from_entries {R = nat_cmp} l) (shown_kept (λ i. nat_le c i) es) ∙ kept_map (λ i. nat_le c i) (windows_by shown es) ∙ ap (λ (m : Parts). retain_keys m (λ i. nat_le c i)) t

  -- those below it, in order
  pub cut_below : (c : ℕ) (all : Parts) (es : List (ℕ × P)) → parts_by shown es ≡ all → T (is_sorted nat_cmp (windows_by shown es)) → windows_by shown (closed_of c es) ≡ entries (retain_keys all (λ i. nat_lt i c))
  cut_below c all es t s =
      let kept : windows_by shown (closed_of c es) ≡ filter (λ e. nat_lt e.0 c) (windows_by shown es) = shown_kept (λ i. nat_lt i c) es in
      let rising : T (is_sorted nat_cmp (filter (λ e. nat_lt e.0 c) (windows_by shown es))) = is_sorted-where_key nat_cmp (λ i. nat_lt i c) (windows_by shown es) s in
      kept ∙ sym (entries-from_rising nat_cmp_total nat_cmp-IsAntisymmetric (filter (λ e. nat_lt e.0 c) (windows_by shown es)) rising)
      ∙ ap entries (kept_map (λ i. nat_lt i c) (windows_by shown es) ∙ ap (λ (m : Parts). retain_keys m (λ i. nat_lt i c)) t)
