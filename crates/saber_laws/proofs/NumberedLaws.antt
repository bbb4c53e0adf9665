-- Maps from numbers in a row.
use Rattle.std.proofs.Common.{◌≡◌, ℕ, zero, suc, ◌+◌, ◌≤◌, ◌<◌, List, [], ◌∷◌, ◌++◌, filter, flat_map, Bool, true, false, cond, Option, Some, None, option_map, T, refl, sym, ◌∙◌, ap, subst, ⊎_elim, arith}
use Rattle.std.specs.List.{cons_option}
use Rattle.std.specs.Option.{option_map_or}
use Rattle.std.proofs.lemmas.Bool.{cases_eq}
use Rattle.std.proofs.lemmas.Bool.Decides.{nat_tests}
use Rattle.std.specs.Cmp.{nat_cmp_total}
use Rattle.std.specs.Ordering.{nat_cmp, eq_by_cmp, is_lt}
use Rattle.std.specs.declared.cmp.Ordering.TheVariants.{Less}
use Rattle.std.specs.FinMap.{get, entries, from_entries, find, is_sorted, get-from_entries, nat_cmp-IsAntisymmetric}
use Rattle.std.specs.FinMap.Entries.{below_all}
use Rattle.saber_plan.specs.Windows.{from}
use Rattle.saber_plan.specs.Tasks.{numbered_list}
use Rattle.saber_plan.specs.Facts.Lists.{and_T}
use Rattle.saber_plan.specs.Facts.Maps.{entries-from_rising}

pub same_number : (i a : ℕ) → i ≡ a → eq_by_cmp nat_cmp i a ≡ true
same_number i a e = grind (arith, nat_tests)

pub other_number : (i a : ℕ) → (i ≡ a → ⊥) → eq_by_cmp nat_cmp i a ≡ false
other_number i a e = grind (arith, nat_tests)

number_less : (a b : ℕ) → a < b → nat_cmp a b ≡ Less
number_less a b h = grind (arith, nat_tests)

module _ {X : Type 0} where
  find_here : (i a : ℕ) (o : Option X) (rest : List (ℕ × X)) → i ≡ a → find nat_cmp i rest ≡ None → find nat_cmp i (cons_option (option_map (λ x. (a, x)) o) rest) ≡ o
  find_here i a None rest e n = n
  find_here i a (Some x) rest e n = ap (λ b. cond b (Some x) (find nat_cmp i rest)) (same_number i a e)

  find_on : (i a : ℕ) (o : Option X) (rest : List (ℕ × X)) → (i ≡ a → ⊥) → find nat_cmp i (cons_option (option_map (λ x. (a, x)) o) rest) ≡ find nat_cmp i rest
  find_on i a None rest e = refl
  find_on i a (Some x) rest e = ap (λ b. cond b (Some x) (find nat_cmp i rest)) (other_number i a e)

  pub find_low : (i a n : ℕ) (f : ℕ → Option X) → i < a → find nat_cmp i (numbered_list a n f) ≡ None
  unfolding from
  find_low i a zero f h = refl
  find_low i a (suc n) f h = find_on i a (f a) (numbered_list (a + 1) n f) (λ e. omega arith) ∙ find_low i (a + 1) n f (omega arith)

  pub find_high : (i a n : ℕ) (f : ℕ → Option X) → a + n ≤ i → find nat_cmp i (numbered_list a n f) ≡ None
  unfolding from
  find_high i a zero f h = refl
  find_high i a (suc n) f h = find_on i a (f a) (numbered_list (a + 1) n f) (λ e. omega arith) ∙ find_high i (a + 1) n f (omega arith)

  pub find_in : (i a n : ℕ) (f : ℕ → Option X) → a ≤ i → i < a + n → find nat_cmp i (numbered_list a n f) ≡ f i
  unfolding from
  find_in i a zero f g h = absurd (omega arith)
  find_in i a (suc n) f g h = ⊎_elim
      (λ e. find_here i a (f a) (numbered_list (a + 1) n f) e (find_low i (a + 1) n f (omega arith)) ∙ ap f (sym e))
      (λ e. find_on i a (f a) (numbered_list (a + 1) n f) e ∙ find_in i (a + 1) n f (omega arith) (omega arith)) (cases_eq i a)

  pub get_low : (i a n : ℕ) (f : ℕ → Option X) → i < a → get (from_entries {R = nat_cmp} (numbered_list a n f)) i ≡ None
  get_low i a n f h = get-from_entries nat_cmp_total (numbered_list a n f) i ∙ find_low i a n f h

  pub get_high : (i a n : ℕ) (f : ℕ → Option X) → a + n ≤ i → get (from_entries {R = nat_cmp} (numbered_list a n f)) i ≡ None
  get_high i a n f h = get-from_entries nat_cmp_total (numbered_list a n f) i ∙ find_high i a n f h

  pub get_in : (i a n : ℕ) (f : ℕ → Option X) → a ≤ i → i < a + n → get (from_entries {R = nat_cmp} (numbered_list a n f)) i ≡ f i
  get_in i a n f g h = get-from_entries nat_cmp_total (numbered_list a n f) i ∙ find_in i a n f g h

  below_onto : (k a : ℕ) (o : Option X) (rest : List (ℕ × X)) → k < a → T (below_all nat_cmp k rest) → T (below_all nat_cmp k (cons_option (option_map (λ x. (a, x)) o) rest))
  below_onto k a None rest h b = b
  below_onto k a (Some x) rest h b = and_T _ _ (subst (λ r. T (is_lt r)) (sym (number_less k a h)) tt) b

  below_numbered : (k a n : ℕ) (f : ℕ → Option X) → k < a → T (below_all nat_cmp k (numbered_list a n f))
  unfolding from
  below_numbered k a zero f h = tt
  below_numbered k a (suc n) f h = below_onto k a (f a) (numbered_list (a + 1) n f) h (below_numbered k (a + 1) n f (omega arith))

  sorted_onto : (a : ℕ) (o : Option X) (rest : List (ℕ × X)) → T (below_all nat_cmp a rest) → T (is_sorted nat_cmp rest) → T (is_sorted nat_cmp (cons_option (option_map (λ x. (a, x)) o) rest))
  sorted_onto a None rest b s = s
  sorted_onto a (Some x) rest b s = and_T _ _ b s

  sorted_numbered : (a n : ℕ) (f : ℕ → Option X) → T (is_sorted nat_cmp (numbered_list a n f))
  unfolding from
  sorted_numbered a zero f = tt
  sorted_numbered a (suc n) f = sorted_onto a (f a) (numbered_list (a + 1) n f) (below_numbered a (a + 1) n f (omega arith)) (sorted_numbered (a + 1) n f)

  pub entries-numbered : (a n : ℕ) (f : ℕ → Option X) → entries (from_entries {R = nat_cmp} (numbered_list a n f)) ≡ numbered_list a n f
  entries-numbered a n f = entries-from_rising nat_cmp_total nat_cmp-IsAntisymmetric (numbered_list a n f) (sorted_numbered a n f)

  map_onto : {B : Type 0} (g : ℕ × X → List B) (a : ℕ) (o : Option X) (rest : List (ℕ × X)) → flat_map g (cons_option (option_map (λ x. (a, x)) o) rest) ≡ option_map_or (λ x. g (a, x)) o [] ++ flat_map g rest
  map_onto g a None rest = refl
  map_onto g a (Some x) rest = refl

  pub flat_map-numbered : {B : Type 0} (g : ℕ × X → List B) (a n : ℕ) (f : ℕ → Option X) → flat_map g (numbered_list a n f) ≡ flat_map (λ i. option_map_or (λ x. g (i, x)) (f i) []) (from a n)
  unfolding from
  flat_map-numbered g a zero f = refl
  flat_map-numbered g a (suc n) f = map_onto g a (f a) (numbered_list (a + 1) n f) ∙ ap (λ l. option_map_or (λ x. g (a, x)) (f a) [] ++ l) (flat_map-numbered g (a + 1) n f)

-- two functions that agree from a on
pub flat_map-from : {B : Type 0} (f g : ℕ → List B) (a n : ℕ) → ((i : ℕ) → a ≤ i → i < a + n → f i ≡ g i) → flat_map f (from a n) ≡ flat_map g (from a n)
unfolding from
flat_map-from f g a zero h = refl
flat_map-from f g a (suc n) h = λ j. h a (omega arith) (omega arith) j ++ flat_map-from f g (a + 1) n (λ i p q. h i (omega arith) (omega arith)) j

pub filter_all : (p : ℕ → Bool) (a n : ℕ) → ((i : ℕ) → a ≤ i → i < a + n → p i ≡ true) → filter p (from a n) ≡ from a n
unfolding from
filter_all p a zero h = refl
filter_all p a (suc n) h = ap (λ b. cond b (a ∷ filter p (from (a + 1) n)) (filter p (from (a + 1) n))) (h a (omega arith) (omega arith)) ∙ ap (λ l. a ∷ l) (filter_all p (a + 1) n (λ i g l. h i (omega arith) (omega arith)))

pub filter_none : (p : ℕ → Bool) (a n : ℕ) → ((i : ℕ) → a ≤ i → i < a + n → p i ≡ false) → filter p (from a n) ≡ []
unfolding from
filter_none p a zero h = refl
filter_none p a (suc n) h = ap (λ b. cond b (a ∷ filter p (from (a + 1) n)) (filter p (from (a + 1) n))) (h a (omega arith) (omega arith)) ∙ filter_none p (a + 1) n (λ i g l. h i (omega arith) (omega arith))
