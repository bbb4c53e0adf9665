-- Panes as a finite map: one part more, and one pane after another.
use Rattle.std.proofs.Common.{IfSome, ◌+◌, ◌≤◌, ◌<◌, ◌≡◌, ℕ, List, [], ◌∷◌, map, filter, Bool, true, false, cond, T, Option, Some, None, option_map, refl, sym, ◌∙◌, ap, ap₂, subst, nat_cmp, arith}
use Rattle.std.specs.Cmp.{nat_cmp_total, tied_itself}
use Rattle.std.specs.Ordering.{eq_by_cmp, is_eq}
use Rattle.std.specs.Map.{lookup, set_value}
use Rattle.std.specs.Map.Calls.{RetainsPairs}
use Rattle.std.proofs.lemmas.Bool.Decides.{nat_tests}
use Rattle.std.specs.BTreeMap.{BTreeMap, insert_entry, is_at}
use Rattle.std.specs.BTreeMap.Range.{IsLeBy, IsLtBy, IsEntryInRange, IsRangeOf}
use Rattle.std.specs.declared.ops.Bound.TheVariants.{Included, Excluded}
use Rattle.std.specs.Option.{is_some, IsSome}
use Rattle.std.specs.List.{slice_get}
use Rattle.std.specs.FinMap.{get, insert, from_entries, find, is_sorted, len, retain_keys, get-from_entries, get-insert, get-retain_keys, len-insert, same_map, nat_cmp-IsAntisymmetric}
use Rattle.std.specs.FinMap.Entries.{find_tied}
use Rattle.saber_plan.specs.Merges.{joined_value, both}
use Rattle.saber_plan.specs.Parts.{Part, merge}
use Rattle.saber_plan.specs.Tasks.{Parts}
use Rattle.saber_plan.specs.Facts.Maps.{equal_if, take_one, first_alone, rest_rises}
use Rattle.saber_plan.specs.Facts.Trees.{written, inserted, looked_up}
use Rattle.saber_partial.specs.Tallies.{CanMerge}
use Rattle.saber_panes.specs.Panes.{seen_panes, CanTakeIn}

-- what `get` finds
pub pane_at : (k : ℕ) (es : List (ℕ × Part)) (o : Option Part) → lookup (is_at (λ a. nat_cmp k a)) es ≡ o → get (seen_panes es) k ≡ o
pane_at k es None f = sym (looked_up nat_cmp (λ k. k) (λ x. x) nat_cmp_total nat_cmp-IsAntisymmetric k es) ∙ ap (option_map (λ (x : Part). x)) f
pane_at k es (Some x) f = sym (looked_up nat_cmp (λ k. k) (λ x. x) nat_cmp_total nat_cmp-IsAntisymmetric k es) ∙ ap (option_map (λ (x : Part). x)) f

pub pane_written : (k : ℕ) (w v : Part) (es : List (ℕ × Part)) → lookup (is_at (λ a. nat_cmp k a)) es ≡ Some v → seen_panes (set_value (is_at (λ a. nat_cmp k a)) es w) ≡ insert (seen_panes es) k w
pane_written k w v es f = written nat_cmp (λ k. k) (λ x. x) nat_cmp_total nat_cmp-IsAntisymmetric k w v es f

pub pane_inserted : (k : ℕ) (v : Part) (es : List (ℕ × Part)) → seen_panes (insert_entry nat_cmp es k v) ≡ insert (seen_panes es) k v
pane_inserted k v es = inserted nat_cmp (λ k. k) (λ x. x) nat_cmp_total nat_cmp-IsAntisymmetric k v es

-- ---- one pane after another taken in

abbrev pub made : List (ℕ × Part) → Parts
made es = from_entries {R = nat_cmp} es

pub pane_rest : (m : Parts) (k : ℕ) (b n : Part) (es : List (ℕ × Part)) → n ≡ joined_value merge (get m k) b → T (is_sorted nat_cmp ((k, b) ∷ es)) → both merge (insert m k n) (made es) ≡ both merge m (made ((k, b) ∷ es))
pane_rest m k b n es e s = ap (λ x. both merge (insert m k x) (made es)) e ∙ take_one nat_cmp_total nat_cmp-IsAntisymmetric merge m k b es (first_alone nat_cmp (k, b) es s)

not_there : {o : Option Part} {y : Part} → o ≡ None → o ≡ Some y → ⊥
not_there e h = cc

can_case : (m : Parts) (k : ℕ) (b n : Part) (es : List (ℕ × Part)) (i : ℕ) (x y : Part) (t : Bool) → (t ≡ true → find nat_cmp i es ≡ None) → CanTakeIn m (made ((k, b) ∷ es))
    → eq_by_cmp nat_cmp i k ≡ t → cond t (Some n) (get m i) ≡ Some x → find nat_cmp i es ≡ Some y → CanMerge x y
can_case m k b n es i x y true none c t g h = absurd (not_there (none refl) h)
can_case m k b n es i x y false none c t g h = c.at i x y g (get-from_entries nat_cmp_total ((k, b) ∷ es) i ∙ ap (λ d. cond d (Some b) (find nat_cmp i es)) t ∙ h)

pub pane_fits : (m : Parts) (k : ℕ) (b n : Part) (es : List (ℕ × Part)) → T (is_sorted nat_cmp ((k, b) ∷ es)) → CanTakeIn m (made ((k, b) ∷ es)) → CanTakeIn (insert m k n) (made es)
pane_fits m k b n es s c = record {
  at = λ i x y g h. can_case m k b n es i x y (eq_by_cmp nat_cmp i k) (λ e. sym (find_tied nat_cmp nat_cmp_total i k (equal_if _ e) es) ∙ first_alone nat_cmp (k, b) es s) c refl
      (sym (get-insert nat_cmp_total m k n i) ∙ g) (sym (get-from_entries nat_cmp_total es i) ∙ h);
}

pub pane_here : (m : Parts) (k : ℕ) (a b : Part) (es : List (ℕ × Part)) → CanTakeIn m (made ((k, b) ∷ es)) → get m k ≡ Some a → CanMerge a b
pane_here m k a b es c g = c.at k a b g (get-from_entries nat_cmp_total ((k, b) ∷ es) k ∙ ap (λ r. cond (is_eq r) (Some b) (find nat_cmp k es)) (tied_itself nat_cmp_total k))

-- what entries of a tree map are seen as
abbrev pub seen_list : List (ℕ × Part) → List (ℕ × Part)
seen_list es = map (λ e. (e.0, e.1)) es

-- with the first of them there is one pane more than without it
with_first : (e : ℕ × Part) (es : List (ℕ × Part)) → T (is_sorted nat_cmp (e ∷ es)) → len (made (e ∷ es)) ≡ len (made es) + 1
with_first e es s =
    let none = ap is_some (get-from_entries nat_cmp_total es e.0 ∙ first_alone nat_cmp e es s) in
    len-insert nat_cmp_total (made es) e.0 e.1 ∙ ap (λ b. cond b (len (made es)) (len (made es) + 1)) none

pub one_fewer : (next all : List (ℕ × Part)) (k : ℕ) (b : Part) → all ≡ (k, b) ∷ next → T (is_sorted nat_cmp (seen_list all)) → len (seen_panes all) ≡ len (seen_panes next) + 1
one_fewer next all k b left rising = ap (λ l. len (seen_panes l)) left ∙ with_first (k, b) (seen_list next) (subst (λ l. T (is_sorted nat_cmp (seen_list l))) left rising)

-- the next pane taken in, and what is left
module _ (m : Parts) (next all : List (ℕ × Part)) (k : ℕ) (b : Part) (after whole : Parts) (left : all ≡ (k, b) ∷ next) (new : after ≡ insert m k (joined_value merge (get m k) b))
    (rest : both merge m (seen_panes all) ≡ whole) (rising : T (is_sorted nat_cmp (seen_list all))) (fits : CanTakeIn m (seen_panes all)) where
  rises : T (is_sorted nat_cmp ((k, b) ∷ seen_list next))
  rises = subst (λ l. T (is_sorted nat_cmp (seen_list l))) left rising

  taken_rest : both merge after (seen_panes next) ≡ whole
  taken_rest = ap (λ x. both merge x (seen_panes next)) new ∙ pane_rest m k b (joined_value merge (get m k) b) (seen_list next) refl rises ∙ ap (λ l. both merge m (seen_panes l)) (sym left) ∙ rest

  taken_fits : CanTakeIn after (seen_panes next)
  taken_fits = subst (λ x. CanTakeIn x (seen_panes next)) (sym new) (pane_fits m k b (joined_value merge (get m k) b) (seen_list next) rises (subst (λ l. CanTakeIn m (seen_panes l)) left fits))

  pub taken : (both merge after (seen_panes next) ≡ whole) × T (is_sorted nat_cmp (seen_list next)) × CanTakeIn after (seen_panes next)
  taken = (taken_rest, rest_rises nat_cmp (k, b) (seen_list next) rises, taken_fits)

-- ---- panes kept by their numbers

tie_is : (i k : ℕ) → eq_by_cmp nat_cmp i k ≡ true → i ≡ k
tie_is i k e = grind (arith, nat_tests)

keep_case : (p : ℕ → Bool) (i : ℕ) (e : ℕ × Part) (r : Option Part) (rest : List (ℕ × Part)) (t b : Bool) → p e.0 ≡ t → eq_by_cmp nat_cmp i e.0 ≡ b → find nat_cmp i rest ≡ cond (p i) r None → find nat_cmp i (cond t (e ∷ rest) rest) ≡ cond (p i) (cond b (Some e.1) r) None
keep_case p i e r rest true true g h k = ap (λ b. cond b (Some e.1) (find nat_cmp i rest)) h ∙ sym (ap (λ b. cond b (Some e.1) None) (ap p (tie_is i e.0 h) ∙ g))
keep_case p i e r rest true false g h k = ap (λ b. cond b (Some e.1) (find nat_cmp i rest)) h ∙ k
keep_case p i e r rest false true g h k = k ∙ ap (λ b. cond b r None) (ap p (tie_is i e.0 h) ∙ g) ∙ sym (ap (λ b. cond b (Some e.1) None) (ap p (tie_is i e.0 h) ∙ g))
keep_case p i e r rest false false g h k = k

none_kept : (b : Bool) (o : Option Part) → o ≡ None → o ≡ cond b o None
none_kept true o e = refl
none_kept false o e = e

find_kept : (p : ℕ → Bool) (i : ℕ) (es : List (ℕ × Part)) → find nat_cmp i (filter (λ e. p e.0) es) ≡ cond (p i) (find nat_cmp i es) None
find_kept p i [] = none_kept (p i) None refl
find_kept p i (e ∷ es) = keep_case p i e (find nat_cmp i es) (filter (λ e. p e.0) es) (p e.0) (eq_by_cmp nat_cmp i e.0) refl refl (find_kept p i es)

kept_at : (p : ℕ → Bool) (i : ℕ) (m : Parts) → get (retain_keys m p) i ≡ cond (p i) (get m i) None
kept_at p i m = get-retain_keys m p i (λ k e. ap p (sym (nat_cmp-IsAntisymmetric i k e)))

kept_map : (p : ℕ → Bool) (es : List (ℕ × Part)) → made (filter (λ e. p e.0) es) ≡ retain_keys (made es) p
kept_map p es = same_map nat_cmp_total nat_cmp-IsAntisymmetric _ _ (λ i. get-from_entries nat_cmp_total (filter (λ e. p e.0) es) i ∙ find_kept p i es ∙ sym (kept_at p i (made es) ∙ ap (λ o. cond (p i) o None) (get-from_entries nat_cmp_total es i)))

seen_kept : (p : ℕ → Bool) (es : List (ℕ × Part)) → seen_list (filter (λ e. p e.0) es) ≡ filter (λ e. p e.0) (seen_list es)
seen_kept p [] = refl
seen_kept p (e ∷ es) = elim (p e.0) as (λ b. seen_list (cond b (e ∷ filter (λ e. p e.0) es) (filter (λ e. p e.0) es)) ≡ cond b ((e.0, e.1) ∷ filter (λ e. p e.0) (seen_list es)) (filter (λ e. p e.0) (seen_list es))) [
  | true ↦ ap (λ l. (e.0, e.1) ∷ l) (seen_kept p es)
  | false ↦ seen_kept p es
]

-- what calls of a closure keep that answers p of what it has and the key, and writes nothing
module _ {F : Type 0} (T : F → ℕ → Part → Bool → Part → F → Type 0) (p : ℕ → ℕ → Bool) (state : F → ℕ)
    (told : (f : F) (k : ℕ) (v : Part) (b : Bool) (w : Part) (g : F) → T f k v b w g → (b ≡ p (state f) k) × (w ≡ v) × (state g ≡ state f)) where
  all_kept : (n : ℕ) (f : F) (es kept : List (ℕ × Part)) → state f ≡ n → RetainsPairs T f es kept → kept ≡ filter (λ e. p n e.0) es
  all_kept n f [] kept s r = r
  all_kept n f (e ∷ es) kept s r =
      let a = told f e.0 e.1 r.0 r.1 r.2 r.4 in
      r.6 ∙ ap (λ b. cond b ((e.0, r.1) ∷ r.3) r.3) (a.0 ∙ ap (λ i. p i e.0) s) ∙ ap₂ (λ w l. cond (p n e.0) ((e.0, w) ∷ l) l) a.1 (all_kept n r.2 es r.3 (a.2 ∙ s) r.5)

  pub panes_kept : (n : ℕ) (f : F) (es kept : List (ℕ × Part)) → state f ≡ n → RetainsPairs T f es kept → seen_panes kept ≡ retain_keys (seen_panes es) (p n)
  panes_kept n f es kept s r = ap seen_panes (all_kept n f es kept s r) ∙ ap made (seen_kept (p n) es) ∙ kept_map (p n) (seen_list es)

-- ---- the first pane of a range

to_le : (a b : ℕ) → IsLeBy nat_cmp a b → a ≤ b
to_le a b h = grind (arith, nat_tests)

of_le : (a b : ℕ) → a ≤ b → IsLeBy nat_cmp a b
of_le a b h = grind (arith, nat_tests)

to_lt : (a b : ℕ) → IsLtBy nat_cmp a b → a < b
to_lt a b h = grind (arith, nat_tests)

of_lt : (a b : ℕ) → a < b → IsLtBy nat_cmp a b
of_lt a b h = grind (arith, nat_tests)

first_case : (o : Option Part) (j k : ℕ) → k < j → (IsSome o → IsLeBy nat_cmp j k) → o ≡ None
first_case None j k l h = refl
first_case (Some x) j k l h = let low = to_le j k (h refl) in absurd (omega (arith, low, l))

module _ (m : BTreeMap ℕ Part) (lo hi : ℕ) (r : List (ℕ × Part)) (is : IsRangeOf nat_cmp (Included lo) (Excluded hi) m r) where
  pub first_there : (e : ℕ × Part) (rest : List (ℕ × Part)) → r ≡ e ∷ rest → (lo ≤ e.0) × (e.0 < hi) × ((k : ℕ) → lo ≤ k → k < e.0 → get (seen_panes m.entries) k ≡ None)
  first_there e rest s =
      let here : IsEntryInRange nat_cmp (Included lo) (Excluded hi) m e = subst (λ l. IfSome (slice_get l 0) (IsEntryInRange nat_cmp (Included lo) (Excluded hi) m)) s is.1 in
      let low = to_le lo e.0 here.0.0 in
      let high = to_lt e.0 hi here.0.1 in (
        low,
        high,
        λ k a b. pane_at k m.entries None (first_case _ e.0 k b (λ there. subst (λ l. IfSome (slice_get l 0) (λ x. IsLeBy nat_cmp x.0 k)) s (is.2 k (of_le lo k a, of_lt k hi (omega (arith, b, high))) there))),
      )

  pub none_there : r ≡ [] → (k : ℕ) → lo ≤ k → k < hi → get (seen_panes m.entries) k ≡ None
  none_there s k a b = pane_at k m.entries None (is.5 s k (of_le lo k a, of_lt k hi b))
