-- Key lists with numbers, and what stands at these.
use Rattle.std.proofs.Common.{◌≡◌, ◌<◌, ◌≤◌, ℕ, zero, suc, List, [], ◌∷◌, ◌++◌, length, zip, get_or, slice_get, set, ℤ, Bool, true, false, cond, ltb, Option, Some, None, option_map, option_and_then, unwrap_or, refl, sym, ◌∙◌, ap, arith, rules, length-append}
use Rattle.std.proofs.lemmas.Bool.{both_ways}
use Rattle.std.proofs.lemmas.Cmp.{tied_itself}
use Rattle.std.specs.Ordering.{eq_by_cmp, is_eq}
use Rattle.std.specs.FinMap.{FinMap, empty, get, insert, from_entries, get-empty, get-from_entries, get-insert, from_entries_push, same_map}
use Rattle.std.specs.FinMap.Entries.{find}
use Rattle.saber_plan.specs.Answers.{key_cmp}
use Rattle.saber_plan.specs.Facts.Parts.{total, exact}
use Rattle.saber_plan.specs.Facts.Maps.{equal_if}
use Rattle.arrayvec.specs.ArrayVec.{ArrayVec}
use Rattle.std.specs.Map.{lookup}
use Rattle.std.specs.BTreeMap.{insert_entry, is_at}
use Rattle.saber_plan.specs.Facts.Trees.{inserted, looked_up}
use Rattle.saber_places.specs.Numbering.{number_of, by_list, lists_in, numbers_in, IsNumbered}

-- ---- lists that are the same

pub same_list : (k l : List ℤ) → eq_by_cmp key_cmp k l ≡ true → k ≡ l
same_list k l e = exact k l (equal_if _ e)

pub ties : (k : List ℤ) → eq_by_cmp key_cmp k k ≡ true
ties k = ap is_eq (tied_itself total k)

both_tie : (q k l : List ℤ) → eq_by_cmp key_cmp k l ≡ false → eq_by_cmp key_cmp q l ≡ true → eq_by_cmp key_cmp q k ≡ true → ⊥
both_tie q k l e p r = both_ways _ e (ap (λ x. eq_by_cmp key_cmp x l) (sym (same_list q k r)) ∙ p)

shadow : {X : Type 0} (b : Bool) (w y z : X) → cond b w z ≡ cond b w (cond b y z)
shadow true w y z = refl
shadow false w y z = refl

apart : {X : Type 0} (a b : Bool) (w x z : X) → (a ≡ true → b ≡ true → ⊥) → cond a x (cond b w z) ≡ cond b w (cond a x z)
apart true true w x z h = absurd (h refl refl)
apart true false w x z h = refl
apart false b w x z h = refl

-- ---- numbers

first_is : (b : Bool) (o : Option ℕ) → cond b (Some 0) (option_map suc o) ≡ Some 0 → b ≡ true
first_is true o h = refl
first_is false None h = cc
first_is false (Some m) h = absurd (let e : suc m ≡ 0 = ap (λ p. unwrap_or p 0) h in omega (arith, e))

later_is : (b : Bool) (o : Option ℕ) (n : ℕ) → cond b (Some 0) (option_map suc o) ≡ Some (suc n) → (b ≡ false) × (o ≡ Some n)
later_is true o n h = absurd (let e : 0 ≡ suc n = ap (λ p. unwrap_or p 0) h in omega (arith, e))
later_is false None n h = cc
later_is false (Some m) n h = (refl, (let e : suc m ≡ suc n = ap (λ p. unwrap_or p 0) h in let f : m ≡ n = omega (arith, e) in ap Some f))

none_is : (b : Bool) (o : Option ℕ) → cond b (Some 0) (option_map suc o) ≡ None → (b ≡ false) × (o ≡ None)
none_is true o h = cc
none_is false None h = (refl, refl)
none_is false (Some m) h = cc

moved : (b : Bool) (n : ℕ) (o : Option ℕ) → option_map suc (cond b (Some n) o) ≡ cond b (Some (suc n)) (option_map suc o)
moved true n o = refl
moved false n o = refl

-- with one list more
pub number_pushed : (q k : List ℤ) (ls : List (List ℤ)) → number_of k ls ≡ None → number_of q (ls ++ k ∷ []) ≡ cond (eq_by_cmp key_cmp q k) (Some (length ls)) (number_of q ls)
number_pushed q k [] h = refl
number_pushed q k (l ∷ ls) h =
    let (other, rest) = none_is (eq_by_cmp key_cmp k l) (number_of k ls) h in
    ap (λ o. cond (eq_by_cmp key_cmp q l) (Some 0) (option_map suc o)) (number_pushed q k ls rest)
    ∙ ap (cond (eq_by_cmp key_cmp q l) (Some 0)) (moved (eq_by_cmp key_cmp q k) (length ls) (number_of q ls))
    ∙ apart (eq_by_cmp key_cmp q l) (eq_by_cmp key_cmp q k) (Some (suc (length ls))) (Some 0) (option_map suc (number_of q ls)) (both_tie q k l other)

-- a number is below their count
pub number_below : (k : List ℤ) (ls : List (List ℤ)) (n : ℕ) → number_of k ls ≡ Some n → n < length ls
number_below k [] n h = cc
number_below k (l ∷ ls) zero h = omega arith
number_below k (l ∷ ls) (suc n) h = (let less = number_below k ls n (later_is (eq_by_cmp key_cmp k l) (number_of k ls) n h).1 in omega (arith, less))

get_before : (ls : List (List ℤ)) (k : List ℤ) (i : ℕ) → i < length ls → get_or (ls ++ k ∷ []) i [] ≡ get_or ls i []
get_before [] k i h = absurd (omega (arith, h))
get_before (l ∷ ls) k zero h = refl
get_before (l ∷ ls) k (suc i) h = get_before ls k i (omega (arith, h))

get_last : (ls : List (List ℤ)) (k : List ℤ) → get_or (ls ++ k ∷ []) (length ls) [] ≡ k
get_last [] k = refl
get_last (l ∷ ls) k = get_last ls k

by_case : (b : Bool) (n i : ℕ) (o : Option ℕ) → (b ≡ true → ⊥) → o ≡ Some i → cond b (Some n) o ≡ Some i
by_case true n i o f h = absurd (f refl)
by_case false n i o f h = h

not_none : (o : Option ℕ) (n : ℕ) → o ≡ None → o ≡ Some n → ⊥
not_none o n e h = cc

module _ (ls : List (List ℤ)) (m : FinMap key_cmp ℕ) (is : IsNumbered ls m) (k : List ℤ) (new : number_of k ls ≡ None) where
  own_more : (i : ℕ) → i < length (ls ++ k ∷ []) → (b : Bool) → ltb i (length ls) ≡ b → number_of (get_or (ls ++ k ∷ []) i []) (ls ++ k ∷ []) ≡ Some i
  own_more i h true e =
      let less : i < length ls = search rules in
      let here = get_or ls i [] in
      ap (λ l. number_of l (ls ++ k ∷ [])) (get_before ls k i less)
      ∙ number_pushed here k ls new
      ∙ by_case (eq_by_cmp key_cmp here k) (length ls) i (number_of here ls) (λ t. not_none (number_of k ls) i new (ap (λ l. number_of l ls) (sym (same_list here k t)) ∙ is.own i less)) (is.own i less)
  own_more i h false e =
      let far : length ls ≤ i = search rules in
      let last : i ≡ length ls = omega (arith, h, far, length-append ls (k ∷ [])) in
      ap (λ j. number_of (get_or (ls ++ k ∷ []) j []) (ls ++ k ∷ [])) last
      ∙ ap (λ l. number_of l (ls ++ k ∷ [])) (get_last ls k)
      ∙ number_pushed k k ls new
      ∙ ap (λ b. cond b (Some (length ls)) (number_of k ls)) (ties k)
      ∙ ap Some (sym last)

  -- with a list that is new
  pub numbered_more : IsNumbered (ls ++ k ∷ []) (insert m k (length ls))
  numbered_more = record {
    own = λ i h. own_more i h (ltb i (length ls)) refl;
    found = λ q. get-insert total m k (length ls) q ∙ ap (cond (eq_by_cmp key_cmp q k) (Some (length ls))) (is.found q) ∙ sym (number_pushed q k ls new);
  }

pub numbered_none : IsNumbered [] empty
numbered_none = record {
  own = λ i h. absurd (omega (arith, h));
  found = λ k. get-empty key_cmp k;
}

-- ---- the lists of a vector, and the tree

pub list_of_item : (vs : List (ArrayVec ℤ)) (i : ℕ) (v : ArrayVec ℤ) → i < length vs → get_or vs i v ≡ v → (i < length (lists_in vs)) × (get_or (lists_in vs) i [] ≡ v.items)
list_of_item [] i v h e = absurd (omega (arith, h))
list_of_item (w ∷ vs) zero v h e = (omega arith, ap (λ (x : ArrayVec ℤ). x.items) e)
list_of_item (w ∷ vs) (suc i) v h e = (let (less, is) = list_of_item vs i v (omega (arith, h)) e in (omega (arith, less), is))

pub length_in : (vs : List (ArrayVec ℤ)) → length (lists_in vs) ≡ length vs
length_in [] = refl
length_in (v ∷ vs) = ap suc (length_in vs)

pub lists_pushed : (vs : List (ArrayVec ℤ)) (v : ArrayVec ℤ) → lists_in (vs ++ v ∷ []) ≡ lists_in vs ++ v.items ∷ []
lists_pushed [] v = refl
lists_pushed (w ∷ vs) v = ap (λ ls. w.items ∷ ls) (lists_pushed vs v)

abbrev items_of : ArrayVec ℤ → List ℤ
items_of v = v.items

same_option : (o : Option ℕ) → option_map (λ (n : ℕ). n) o ≡ o
same_option None = refl
same_option (Some n) = refl

-- what the tree finds
pub number_found : (k : List ℤ) (es : List (ArrayVec ℤ × ℕ)) → lookup (is_at (λ (a : ArrayVec ℤ). key_cmp k a.items)) es ≡ get (numbers_in es) k
number_found k es = sym (same_option (lookup (is_at (λ (a : ArrayVec ℤ). key_cmp k a.items)) es)) ∙ looked_up key_cmp items_of (λ (n : ℕ). n) total exact k es

pub number_inserted : (v : ArrayVec ℤ) (n : ℕ) (es : List (ArrayVec ℤ × ℕ)) → numbers_in (insert_entry (λ (a b : ArrayVec ℤ). key_cmp a.items b.items) es v n) ≡ insert (numbers_in es) v.items n
number_inserted v n es = inserted key_cmp items_of (λ (n : ℕ). n) total exact v n es

-- ---- what stands at the numbers

module _ {A : Type 0} where
  nothing_there : (o : Option ℕ) → None ≡ option_and_then (slice_get {X = A} []) o
  nothing_there None = refl
  nothing_there (Some n) = refl

  there : (b : Bool) (o : Option ℕ) (v : A) (vs : List A) → cond b (Some v) (option_and_then (slice_get vs) o) ≡ option_and_then (slice_get (v ∷ vs)) (cond b (Some 0) (option_map suc o))
  there true o v vs = refl
  there false None v vs = refl
  there false (Some n) v vs = refl

  found_at : (k : List ℤ) (ls : List (List ℤ)) (vs : List A) → find key_cmp k (zip ls vs) ≡ option_and_then (slice_get vs) (number_of k ls)
  found_at k [] vs = refl
  found_at k (l ∷ ls) [] = nothing_there (number_of k (l ∷ ls))
  found_at k (l ∷ ls) (v ∷ vs) = ap (cond (eq_by_cmp key_cmp k l) (Some v)) (found_at k ls vs) ∙ there (eq_by_cmp key_cmp k l) (number_of k ls) v vs

  -- what a list has is what stands at its number
  pub at_number : (k : List ℤ) (ls : List (List ℤ)) (vs : List A) → get (by_list ls vs) k ≡ option_and_then (slice_get vs) (number_of k ls)
  at_number k ls vs = get-from_entries total (zip ls vs) k ∙ found_at k ls vs

  found_set : (q k : List ℤ) (ls : List (List ℤ)) (vs : List A) (n : ℕ) (w : A) → number_of k ls ≡ Some n → n < length vs
      → find key_cmp q (zip ls (set vs n w)) ≡ cond (eq_by_cmp key_cmp q k) (Some w) (find key_cmp q (zip ls vs))
  found_set q k [] vs n w h less = cc
  found_set q k (l ∷ ls) [] n w h less = absurd (omega (arith, less))
  found_set q k (l ∷ ls) (v ∷ vs) zero w h less =
      let same : k ≡ l = same_list k l (first_is (eq_by_cmp key_cmp k l) (number_of k ls) h) in
      shadow (eq_by_cmp key_cmp q l) (Some w) (Some v) (find key_cmp q (zip ls vs))
      ∙ ap (λ x. cond (eq_by_cmp key_cmp q x) (Some w) (cond (eq_by_cmp key_cmp q l) (Some v) (find key_cmp q (zip ls vs)))) (sym same)
  found_set q k (l ∷ ls) (v ∷ vs) (suc n) w h less =
      let (other, rest) = later_is (eq_by_cmp key_cmp k l) (number_of k ls) n h in
      ap (cond (eq_by_cmp key_cmp q l) (Some v)) (found_set q k ls vs n w rest (omega (arith, less)))
      ∙ apart (eq_by_cmp key_cmp q l) (eq_by_cmp key_cmp q k) (Some w) (Some v) (find key_cmp q (zip ls vs)) (both_tie q k l other)

  -- what is put at a list's number, the list has
  pub set_at : (k : List ℤ) (ls : List (List ℤ)) (vs : List A) (n : ℕ) (w : A) → number_of k ls ≡ Some n → n < length vs → by_list ls (set vs n w) ≡ insert (by_list ls vs) k w
  set_at k ls vs n w h less = same_map total exact _ _ (λ q.
      get-from_entries total (zip ls (set vs n w)) q ∙ found_set q k ls vs n w h less
      ∙ sym (get-insert total (by_list ls vs) k w q ∙ ap (cond (eq_by_cmp key_cmp q k) (Some w)) (get-from_entries total (zip ls vs) q)))

  pub zip_pushed : (k : List ℤ) (ls : List (List ℤ)) (vs : List A) (w : A) → length vs ≡ length ls → zip (ls ++ k ∷ []) (vs ++ w ∷ []) ≡ zip ls vs ++ (k, w) ∷ []
  zip_pushed k [] [] w h = refl
  zip_pushed k [] (v ∷ vs) w h = absurd (omega (arith, h))
  zip_pushed k (l ∷ ls) [] w h = absurd (omega (arith, h))
  zip_pushed k (l ∷ ls) (v ∷ vs) w h = ap (λ es. (l, v) ∷ es) (zip_pushed k ls vs w (omega (arith, h)))

  -- a new list has what comes with it
  pub pushed_at : (k : List ℤ) (ls : List (List ℤ)) (vs : List A) (w : A) → number_of k ls ≡ None → length vs ≡ length ls
      → by_list (ls ++ k ∷ []) (vs ++ w ∷ []) ≡ insert (by_list ls vs) k w
  pushed_at k ls vs w h long =
      ap from_entries (zip_pushed k ls vs w long)
      ∙ from_entries_push total exact (zip ls vs) k w (found_at k ls vs ∙ ap (option_and_then (slice_get vs)) h)
