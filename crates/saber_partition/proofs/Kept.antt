-- What is kept of key lists, by their numbers.
use Rattle.std.proofs.Common.{◌≡◌, ◌<◌, ◌+◌, ℕ, zero, suc, List, [], ◌∷◌, ◌++◌, length, map, zip, get_or, slice_get, set, ℤ, Option, Some, None, option_and_then, refl, sym, ◌∙◌, ap, ap₂, subst, append_assoc, length-append, arith}
use Rattle.std.proofs.lemmas.List.{length-map}
use Rattle.std.specs.FinMap.{get, insert, from_entries}
use Rattle.arrayvec.specs.ArrayVec.{ArrayVec}
use Rattle.saber_plan.specs.Answers.{key_cmp}
use Rattle.saber_places.specs.Numbering.{number_of, by_list, lists_in}
use Rattle.saber_places.proofs.Numbering.{at_number, set_at, pushed_at, zip_pushed, lists_pushed, length_in}
use Rattle.saber_partition.specs.declared.keyed.Keyed.{Keyed}
use Rattle.saber_partition.specs.Lists.{Own, Lists}
use Rattle.saber_partition.specs.Stores.{own_of, own_lists}

own_at : (ks : List Keyed) (n : ℕ) (own : Keyed) → n < length ks → get_or ks n own ≡ own → slice_get (map own_of ks) n ≡ Some (own_of own)
own_at [] n own less e = absurd (omega (arith, less))
own_at (k ∷ ks) zero own less e = ap (λ (o : Keyed). Some (own_of o)) e
own_at (k ∷ ks) (suc n) own less e = own_at ks n own (omega (arith, less)) e

own_set : (ks : List Keyed) (n : ℕ) (own : Keyed) → map own_of (set ks n own) ≡ set (map own_of ks) n (own_of own)
own_set [] n own = refl
own_set (k ∷ ks) zero own = refl
own_set (k ∷ ks) (suc n) own = ap (λ l. own_of k ∷ l) (own_set ks n own)

own_pushed : (ks : List Keyed) (own : Keyed) → map own_of (ks ++ own ∷ []) ≡ map own_of ks ++ own_of own ∷ []
own_pushed [] own = refl
own_pushed (k ∷ ks) own = ap (λ l. own_of k ∷ l) (own_pushed ks own)

-- what is kept of a list stands at its number
pub kept_at : (k : List ℤ) (ls : List (List ℤ)) (ks : List Keyed) (n : ℕ) (own : Keyed) → number_of k ls ≡ Some n → n < length ks → get_or ks n own ≡ own → get (own_lists ls ks) k ≡ Some (own_of own)
kept_at k ls ks n own number less e = at_number k ls (map own_of ks) ∙ ap (option_and_then (slice_get (map own_of ks))) number ∙ own_at ks n own less e

pub kept_none : (k : List ℤ) (ls : List (List ℤ)) (ks : List Keyed) → number_of k ls ≡ None → get (own_lists ls ks) k ≡ None
kept_none k ls ks none = at_number k ls (map own_of ks) ∙ ap (option_and_then (slice_get (map own_of ks))) none

pub kept_set : (k : List ℤ) (ls : List (List ℤ)) (ks : List Keyed) (n : ℕ) (own : Keyed) → number_of k ls ≡ Some n → n < length ks → own_lists ls (set ks n own) ≡ insert (own_lists ls ks) k (own_of own)
kept_set k ls ks n own number less =
    ap (λ (os : List Own). by_list ls os) (own_set ks n own)
    ∙ set_at k ls (map own_of ks) n (own_of own) number (let same = length-map ks own_of in omega (arith, less, same))

pub kept_new : (k : List ℤ) (ls : List (List ℤ)) (ks : List Keyed) (own : Keyed) → number_of k ls ≡ None → length ks ≡ length ls → own_lists (ls ++ k ∷ []) (ks ++ own ∷ []) ≡ insert (own_lists ls ks) k (own_of own)
kept_new k ls ks own none long =
    ap (λ (os : List Own). by_list (ls ++ k ∷ []) os) (own_pushed ks own)
    ∙ pushed_at k ls (map own_of ks) (own_of own) none (length-map ks own_of ∙ long)

-- ---- from the last to the first

-- of these entries some are left, and the others are a map
pub record Turned (es left : List (List ℤ × Own)) (m : Lists) : Type 0 where
  pub done : List (List ℤ × Own)
  pub split : es ≡ left ++ done
  pub is : m ≡ from_entries {R = key_cmp} done

pub turned_more : (es left : List (List ℤ × Own)) (k : List ℤ) (o : Own) (m n : Lists) → Turned es (left ++ (k, o) ∷ []) m → n ≡ insert m k o → Turned es left n
turned_more es left k o m n t e = record {
  done = (k, o) ∷ t.done;
  split = t.split ∙ append_assoc left ((k, o) ∷ []) t.done;
  is = e ∙ ap (λ (l : Lists). insert l k o) t.is;
}

-- the last entry
pub last_entry : (vs : List (ArrayVec ℤ)) (v : ArrayVec ℤ) (ks : List Keyed) (k : Keyed) → length ks ≡ length vs
    → zip (lists_in (vs ++ v ∷ [])) (map own_of (ks ++ k ∷ [])) ≡ zip (lists_in vs) (map own_of ks) ++ (v.items, own_of k) ∷ []
last_entry vs v ks k long =
    ap₂ (λ (ls : List (List ℤ)) (os : List Own). zip ls os) (lists_pushed vs v) (own_pushed ks k)
    ∙ zip_pushed v.items (lists_in vs) (map own_of ks) (own_of k) (length-map ks own_of ∙ long ∙ sym (length_in vs))

-- the last list and what it has go into the map
pub turned_step : (ls vs : List (ArrayVec ℤ)) (v : ArrayVec ℤ) (ks js : List Keyed) (k : Keyed) (es : List (List ℤ × Own)) (m n : Lists)
    → ls ≡ vs ++ v ∷ [] → ks ≡ js ++ k ∷ [] → length ks ≡ length ls → Turned es (zip (lists_in ls) (map own_of ks)) m → n ≡ insert m v.items (own_of k)
    → Turned es (zip (lists_in vs) (map own_of js)) n × (length js ≡ length vs)
turned_step ls vs v ks js k es m n l j long t e =
    let longer : length vs + 1 ≡ length ls = sym (ap length l ∙ length-append vs (v ∷ [])) in
    let longest : length js + 1 ≡ length ks = sym (ap length j ∙ length-append js (k ∷ [])) in
    let same : length js ≡ length vs = omega (arith, long, longer, longest) in (
      turned_more es (zip (lists_in vs) (map own_of js)) v.items (own_of k) m n
          (subst (λ (left : List (List ℤ × Own)). Turned es left m) (ap₂ (λ (xs : List (ArrayVec ℤ)) (ys : List Keyed). zip (lists_in xs) (map own_of ys)) l j ∙ last_entry vs v js k same) t) e,
      same,
    )
