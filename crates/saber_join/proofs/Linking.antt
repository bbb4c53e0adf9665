-- Rows linked by buckets of keys.
use Rattle.std.proofs.Common.{◌≡◌, ℕ, zero, suc, ◌+◌, ◌<◌, ◌≤◌, max, List, [], ◌∷◌, ◌++◌, length, take, get_or, set, map, filter, reverse, Bool, true, false, cond, ◌==◌, nat_lt, ℤ, ◌⊎◌, inl, inr, pos, refl, sym, ◌∙◌, ap, subst, subst₂, arith, length-append, append_assoc, append-nil}
use Rattle.std.proofs.lemmas.Bool.{eqb-true, eqb-false, eq-eqb, ne_eqb, and_parts, cases_eq}
use Rattle.std.proofs.lemmas.Bool.Decides.{nat_tests, Decides-int_eq}
use Rattle.std.specs.Ordering.{int_eq}
use Rattle.std.proofs.lemmas.List.{take_more, take_all, take-append-le, length-map, length-set, get_or-map, get_or_default, get_or-set_same, get_or-set_other, map-append, reverse-append}
use Rattle.std.proofs.lemmas.List.Elements.{filter-append}
use Rattle.std.specs.List.{AllByRecursion}
use Rattle.saber_plan.specs.Facts.Lists.{all_append, all_weaker}
use Rattle.saber_join.specs.declared.shelf.Kept.{Kept}
use Rattle.saber_join.specs.Shelves.{Card, meets, no_card, cards_at, bucket_of, last_in}
use Rattle.saber_join.specs.Linked.{card_in, keys_in, AllBelow, Linked}

same_int : (a b : ℤ) → int_eq a b ≡ true → a ≡ b
same_int a b h = (Decides-int_eq a b).0 h

-- ---- the last of a bucket

last_case : (mask b n : ℕ) (ks : List ℤ) (t : Bool) → last_in mask b ks n ≤ n → cond t (suc n) (last_in mask b ks n) ≤ suc n
last_case mask b n ks true h = omega arith
last_case mask b n ks false h = omega (arith, h)

pub last_within : (mask b : ℕ) (ks : List ℤ) (n : ℕ) → last_in mask b ks n ≤ n
last_within mask b ks zero = omega arith
last_within mask b ks (suc n) = last_case mask b n ks (bucket_of mask (get_or ks n (pos 0)) == b) (last_within mask b ks n)

get_front : {A : Type 0} (xs : List A) (y d : A) (n : ℕ) → n < length xs → get_or (xs ++ y ∷ []) n d ≡ get_or xs n d
get_front [] y d n h = absurd (omega (arith, h))
get_front (x ∷ xs) y d zero h = refl
get_front (x ∷ xs) y d (suc n) h = get_front xs y d n (omega (arith, h))

get_last : {A : Type 0} (xs : List A) (y d : A) → get_or (xs ++ y ∷ []) (length xs) d ≡ y
get_last [] y d = refl
get_last (x ∷ xs) y d = get_last xs y d

there_case : (mask b n i : ℕ) (ks : List ℤ) (t : Bool) → (bucket_of mask (get_or ks n (pos 0)) == b) ≡ t → (last_in mask b ks n ≡ i + 1 → bucket_of mask (get_or ks i (pos 0)) ≡ b) → cond t (suc n) (last_in mask b ks n) ≡ i + 1 → bucket_of mask (get_or ks i (pos 0)) ≡ b
there_case mask b n i ks true e h g = let same : i ≡ n = omega (arith, g) in ap (λ j. bucket_of mask (get_or ks j (pos 0))) same ∙ eqb-true (bucket_of mask (get_or ks n (pos 0))) b e
there_case mask b n i ks false e h g = h g

-- it lies in the bucket
pub last_there : (mask b : ℕ) (ks : List ℤ) (n i : ℕ) → last_in mask b ks n ≡ i + 1 → bucket_of mask (get_or ks i (pos 0)) ≡ b
last_there mask b ks zero i h = absurd (omega (arith, h))
last_there mask b ks (suc n) i h = there_case mask b n i ks (bucket_of mask (get_or ks n (pos 0)) == b) refl (last_there mask b ks n i) h

pub last_kept : (mask b : ℕ) (ks : List ℤ) (k : ℤ) (n : ℕ) → n ≤ length ks → last_in mask b (ks ++ k ∷ []) n ≡ last_in mask b ks n
last_kept mask b ks k zero h = refl
last_kept mask b ks k (suc n) h =
    (λ j. cond (bucket_of mask (get_front ks k (pos 0) n (omega (arith, h)) j) == b) (suc n) (last_kept mask b ks k n (omega (arith, h)) j))

-- ---- the rows so far that pass a test

abbrev front : (Card → Bool) → List Kept → ℕ → List Card
front p ks n = filter p (map card_in (take n ks))

pub front_more : (p : Card → Bool) (ks : List Kept) (n : ℕ) (k : Kept) → n < length ks → k ≡ get_or ks n k → front p ks (n + 1) ≡ front p ks n ++ cond (p (card_in k)) (card_in k ∷ []) []
front_more p ks n k h e =
    ap (λ l. filter p (map card_in l)) (take_more ks n k h ∙ ap (λ z. take n ks ++ z ∷ []) (sym e))
    ∙ ap (filter p) (map-append card_in (take n ks) (k ∷ []))
    ∙ filter-append p (map card_in (take n ks)) (card_in k ∷ [])

pub keys_at : (ks : List Kept) (n : ℕ) (k : Kept) → n < length ks → k ≡ get_or ks n k → get_or (keys_in ks) n (pos 0) ≡ k.key
keys_at ks n k h e = get_or-map (λ (z : Kept). z.key) ks n k (pos 0) h ∙ ap (λ (z : Kept). z.key) (sym e)

-- where all that pass lie in one bucket, those behind the last of the bucket don't
module _ (mask b : ℕ) (p : Card → Bool) (only : (e : Card) → p e ≡ true → bucket_of mask e.key ≡ b) (ks : List Kept) (d : Kept) where
  other : (k : Kept) (t : Bool) → p (card_in k) ≡ t → (bucket_of mask k.key == b) ≡ false → cond t (card_in k ∷ []) [] ≡ []
  other k true e h = absurd (eqb-false (bucket_of mask k.key) b h (only (card_in k) e))
  other k false e h = refl

  front_case : (n : ℕ) (k : Kept) → n < length ks → k ≡ get_or ks n k → front p ks n ≡ front p ks (last_in mask b (keys_in ks) n) → (t : Bool) → (bucket_of mask k.key == b) ≡ t → front p ks (n + 1) ≡ front p ks (cond t (n + 1) (last_in mask b (keys_in ks) n))
  front_case n k h e g true t = refl
  front_case n k h e g false t = front_more p ks n k h e ∙ ap (λ l. front p ks n ++ l) (other k (p (card_in k)) refl t) ∙ append-nil (front p ks n) ∙ g

  pub front_is : (n : ℕ) → n ≤ length ks → front p ks n ≡ front p ks (last_in mask b (keys_in ks) n)
  front_is zero h = refl
  front_is (suc n) h =
      let next : n + 1 ≡ suc n = omega arith in
      let there : n < length ks = omega (arith, h) in
      let k = get_or ks n d in
      let is : k ≡ get_or ks n k = get_or_default ks n d k there in
      let key = keys_at ks n k there is in
      subst (λ m. front p ks m ≡ front p ks (cond (bucket_of mask (get_or (keys_in ks) n (pos 0)) == b) m (last_in mask b (keys_in ks) n))) next
      (front_case n k there is (front_is n (omega (arith, h))) (bucket_of mask (get_or (keys_in ks) n (pos 0)) == b) (ap (λ z. bucket_of mask z == b) (sym key)))

-- rows of which none reaches so far
pub none_meet : (k : ℤ) (low high : ℕ) (ks : List Kept) → high ≤ low → AllBelow high ks → filter (meets k low) (map card_in ks) ≡ []
none_meet k low high [] l h = refl
none_meet k low high (z ∷ zs) l h =
    let past : z.past ≤ high = h.0 in
    let out : meets k low (card_in z) ≡ false = grind (arith, nat_tests) in
    ap (λ b. cond b (card_in z ∷ filter (meets k low) (map card_in zs)) (filter (meets k low) (map card_in zs))) out ∙ none_meet k low high zs l h.1

-- a row with the key lies in the key's bucket
pub in_bucket : (mask : ℕ) (k : ℤ) (low : ℕ) (e : Card) → meets k low e ≡ true → bucket_of mask e.key ≡ bucket_of mask k
in_bucket mask k low e h = ap (bucket_of mask) (same_int e.key k (and_parts (int_eq e.key k) (nat_lt low e.past) h).0)

-- ---- places that are found

pub found_more : (es : List Card) (at : ℕ) (e : Card) (t : Bool) (found rest : List ℕ) → get_or es at no_card ≡ e → rest ≡ found ++ cond t (at ∷ []) [] → cards_at es (reverse rest) ≡ cond t (e ∷ []) [] ++ cards_at es (reverse found)
found_more es at e true found rest h g = ap (λ l. cards_at es (reverse l)) g ∙ ap (cards_at es) (reverse-append found (at ∷ [])) ∙ ap (λ z. z ∷ cards_at es (reverse found)) h
found_more es at e false found rest h g = ap (λ l. cards_at es (reverse l)) (g ∙ append-nil found)

pub there_more : (P : ℕ → Type 0) (at : ℕ) (t : Bool) (found rest : List ℕ) → P at → AllByRecursion P found → rest ≡ found ++ cond t (at ∷ []) [] → AllByRecursion P rest
there_more P at true found rest h f g = subst (AllByRecursion P) (sym g) (all_append P found (at ∷ []) f (h, tt))
there_more P at false found rest h f g = subst (AllByRecursion P) (sym (g ∙ append-nil found)) f

take_cards : (n : ℕ) (ks : List Kept) → map card_in (take n ks) ≡ take n (map card_in ks)
take_cards zero ks = refl
take_cards (suc n) [] = refl
take_cards (suc n) (k ∷ ks) = ap (λ l. card_in k ∷ l) (take_cards n ks)

front_any : (mask b : ℕ) (p : Card → Bool) → ((e : Card) → p e ≡ true → bucket_of mask e.key ≡ b) → (ks : List Kept) (n : ℕ) → n ≤ length ks → front p ks n ≡ front p ks (last_in mask b (keys_in ks) n)
front_any mask b p only [] zero h = refl
front_any mask b p only [] (suc n) h = absurd (omega (arith, h))
front_any mask b p only (k ∷ ks) n h = front_is mask b p only (k ∷ ks) k n h

-- the walk begins with all rows
pub begun_walk : (mask : ℕ) (last : List ℕ) (ks : List Kept) → Linked mask last ks → (key : ℤ) (low b next : ℕ) → b ≡ bucket_of mask key → b ≤ mask → next ≡ get_or last b 0
    → (next ≡ last_in mask (bucket_of mask key) (keys_in ks) (length ks)) × (filter (meets key low) (take next (map card_in ks)) ≡ filter (meets key low) (map card_in ks))
begun_walk mask last ks linked key low b next is h e =
    let p = meets key low in
    let n = length ks in
    let within : b < length last = let l = linked.buckets in omega (arith, l, h) in
    let it : next ≡ last_in mask (bucket_of mask key) (keys_in ks) n = e ∙ linked.ends b within ∙ ap (λ c. last_in mask c (keys_in ks) n) is in
    let whole : take n ks ≡ ks = take_all n ks (omega arith) in
    (it, ap (filter p) (sym (take_cards next ks)) ∙ ap (front p ks) it ∙ sym (front_any mask (bucket_of mask key) p (in_bucket mask key low) ks n (omega arith)) ∙ ap (λ l. filter p (map card_in l)) whole)

-- one step of the walk
pub walked : (p : Card → Bool) (ks : List Kept) (n next : ℕ) (k : Kept) (found rest : List ℕ) → n < length ks → k ≡ get_or ks n k → front p ks n ≡ front p ks next → rest ≡ found ++ cond (p (card_in k)) (n ∷ []) []
    → front p ks (n + 1) ++ cards_at (map card_in ks) (reverse found) ≡ front p ks next ++ cards_at (map card_in ks) (reverse rest)
walked p ks n next k found rest h e same g =
    let es = map card_in ks in
    let it : get_or es n no_card ≡ card_in k = get_or-map card_in ks n k no_card h ∙ ap card_in (sym e) in
    ap (λ l. l ++ cards_at es (reverse found)) (front_more p ks n k h e)
    ∙ append_assoc (front p ks n) (cond (p (card_in k)) (card_in k ∷ []) []) (cards_at es (reverse found))
    ∙ (λ i. same i ++ sym (found_more es n (card_in k) (p (card_in k)) found rest it g) i)

-- ---- one row more

no_below : (high : ℕ) (ks : List Kept) → AllBelow high ks → (more : ℕ) → high ≤ more → AllBelow more ks
no_below high ks h more l = all_weaker (λ (k : Kept). k.past ≤ high) (λ (k : Kept). k.past ≤ more) (λ k g. omega (arith, g, l)) ks h

module _ (mask high : ℕ) (last : List ℕ) (ks : List Kept) (k : Kept) (linked : Linked mask last ks) (all : AllBelow high ks) (there : bucket_of mask k.key < length last) (previous : k.previous ≡ get_or last (bucket_of mask k.key) 0) (reach : k.high ≡ max high k.past) where
  abbrev n : ℕ
  n = length ks

  long : length (keys_in ks) ≡ n
  long = length-map ks (λ (z : Kept). z.key)

  keys_more : keys_in (ks ++ k ∷ []) ≡ keys_in ks ++ k.key ∷ []
  keys_more = map-append (λ (z : Kept). z.key) ks (k ∷ [])

  last_before : (b i : ℕ) → i ≤ n → last_in mask b (keys_in (ks ++ k ∷ [])) i ≡ last_in mask b (keys_in ks) i
  last_before b i h = ap (λ l. last_in mask b l i) keys_more ∙ last_kept mask b (keys_in ks) k.key i (omega (arith, h, long))

  last_behind : (b : ℕ) → last_in mask b (keys_in (ks ++ k ∷ [])) (suc n) ≡ cond (bucket_of mask k.key == b) (suc n) (last_in mask b (keys_in ks) n)
  last_behind b =
      let it : get_or (keys_in (ks ++ k ∷ [])) n (pos 0) ≡ k.key = ap (λ l. get_or l n (pos 0)) keys_more ∙ ap (λ m. get_or (keys_in ks ++ k.key ∷ []) m (pos 0)) (sym long) ∙ get_last (keys_in ks) k.key (pos 0) in
      λ j. cond (bucket_of mask (it j) == b) (suc n) (last_before b n (omega arith) j)

  ends_case : (b : ℕ) → b < length last → (bucket_of mask k.key ≡ b) ⊎ (bucket_of mask k.key ≡ b → ⊥) → get_or (set last (bucket_of mask k.key) (n + 1)) b 0 ≡ cond (bucket_of mask k.key == b) (suc n) (last_in mask b (keys_in ks) n)
  ends_case b l (inl e) =
      let next : n + 1 ≡ suc n = omega arith in
      ap (λ i. get_or (set last (bucket_of mask k.key) (n + 1)) i 0) (sym e) ∙ get_or-set_same last (bucket_of mask k.key) (n + 1) 0 there ∙ next ∙ sym (ap (λ t. cond t (suc n) (last_in mask b (keys_in ks) n)) (eq-eqb (bucket_of mask k.key) b e))
  ends_case b l (inr e) =
      get_or-set_other last (bucket_of mask k.key) b (n + 1) 0 (λ h. e (sym h)) ∙ linked.ends b l ∙ sym (ap (λ t. cond t (suc n) (last_in mask b (keys_in ks) n)) (ne_eqb (bucket_of mask k.key) b e))

  more : length (ks ++ k ∷ []) ≡ suc n
  more = let e = length-append ks (k ∷ []) in omega (arith, e)

  link_case : (i : ℕ) (z : Kept) → i < length (ks ++ k ∷ []) → z ≡ get_or (ks ++ k ∷ []) i z → (i ≡ n) ⊎ (i ≡ n → ⊥) → z.previous ≡ last_in mask (bucket_of mask z.key) (keys_in (ks ++ k ∷ [])) i
  link_case i z h e (inl is) =
      let it : z ≡ k = e ∙ ap (λ j. get_or (ks ++ k ∷ []) j z) is ∙ get_last ks k z in
      ap (λ (y : Kept). y.previous) it ∙ previous ∙ linked.ends (bucket_of mask k.key) there ∙ sym (last_before (bucket_of mask k.key) n (omega arith)) ∙ (λ j. last_in mask (bucket_of mask (sym it j).key) (keys_in (ks ++ k ∷ [])) (sym is j))
  link_case i z h e (inr non) =
      let low : i < n = omega (arith, h, more, non) in
      linked.links i z low (e ∙ get_front ks k z i low) ∙ sym (last_before (bucket_of mask z.key) i (omega (arith, low)))

  pub all_more : AllBelow (max high k.past) (ks ++ k ∷ [])
  all_more = all_append (λ (z : Kept). z.past ≤ max high k.past) ks (k ∷ []) (no_below high ks all (max high k.past) (omega arith)) (omega arith, tt)

  below_case : (i : ℕ) (z : Kept) → i < length (ks ++ k ∷ []) → z ≡ get_or (ks ++ k ∷ []) i z → (i ≡ n) ⊎ (i ≡ n → ⊥) → AllBelow z.high (take (i + 1) (ks ++ k ∷ []))
  below_case i z h e (inl is) =
      let it : z ≡ k = e ∙ ap (λ j. get_or (ks ++ k ∷ []) j z) is ∙ get_last ks k z in
      let whole : take (i + 1) (ks ++ k ∷ []) ≡ ks ++ k ∷ [] = take_all (i + 1) (ks ++ k ∷ []) (omega (arith, is, more)) in
      subst (λ m. AllBelow m (take (i + 1) (ks ++ k ∷ []))) (sym (ap (λ (y : Kept). y.high) it ∙ reach)) (subst (AllBelow (max high k.past)) (sym whole) all_more)
  below_case i z h e (inr non) =
      let low : i < n = omega (arith, h, more, non) in
      subst (AllBelow z.high) (sym (take-append-le (i + 1) ks (k ∷ []) (omega (arith, low)))) (linked.below i z low (e ∙ get_front ks k z i low))

  pub put_linked : Linked mask (set last (bucket_of mask k.key) (n + 1)) (ks ++ k ∷ [])
  put_linked = record {
    buckets = length-set last (bucket_of mask k.key) (n + 1) ∙ linked.buckets;
    ends = λ b l.
        let within : b < length last = subst (λ m. b < m) (length-set last (bucket_of mask k.key) (n + 1)) l in
        ends_case b within (cases_eq (bucket_of mask k.key) b) ∙ sym (last_behind b) ∙ ap (λ m. last_in mask b (keys_in (ks ++ k ∷ [])) m) (sym more);
    links = λ i z h e. link_case i z h e (cases_eq i n);
    below = λ i z h e. below_case i z h e (cases_eq i n);
  }

-- the same, of what a put makes
pub put_all : (mask high : ℕ) (last : List ℕ) (ks : List Kept) (k : Kept) → Linked mask last ks → AllBelow high ks → bucket_of mask k.key < length last → k.previous ≡ get_or last (bucket_of mask k.key) 0 → k.high ≡ max high k.past
    → (b count : ℕ) (new : List Kept) → b ≡ bucket_of mask k.key → count ≡ length ks + 1 → new ≡ ks ++ k ∷ [] → AllBelow k.high new × Linked mask (set last b count) new
put_all mask high last ks k linked all there previous reach b count new e f g = (
  subst (AllBelow k.high) (sym g) (subst (λ h. AllBelow h (ks ++ k ∷ [])) (sym reach) (all_more mask high last ks k linked all there previous reach)),
  subst (Linked mask (set last b count)) (sym g) (subst₂ (λ i n. Linked mask (set last i n) (ks ++ k ∷ [])) (sym e) (sym f) (put_linked mask high last ks k linked all there previous reach)),
)

-- ---- a step of the walk, by the links

pub stepped_walk : (mask : ℕ) (last : List ℕ) (ks : List Kept) → Linked mask last ks → (key : ℤ) (low n : ℕ) (k : Kept) (found rest : List ℕ) (all : List Card) → n < length ks → k ≡ get_or ks n k → bucket_of mask (get_or (keys_in ks) n (pos 0)) ≡ bucket_of mask key
    → rest ≡ found ++ cond (meets key low (card_in k)) (n ∷ []) []
    → filter (meets key low) (take (n + 1) (map card_in ks)) ++ cards_at (map card_in ks) (reverse found) ≡ all
    → filter (meets key low) (take k.previous (map card_in ks)) ++ cards_at (map card_in ks) (reverse rest) ≡ all
stepped_walk mask last ks linked key low n k found rest all h e b g done =
    let p = meets key low in
    let es = map card_in ks in
    let own : bucket_of mask k.key ≡ bucket_of mask key = ap (bucket_of mask) (sym (keys_at ks n k h e)) ∙ b in
    let to : k.previous ≡ last_in mask (bucket_of mask key) (keys_in ks) n = linked.links n k h e ∙ ap (λ c. last_in mask c (keys_in ks) n) own in
    let same : front p ks n ≡ front p ks k.previous = front_any mask (bucket_of mask key) p (in_bucket mask key low) ks n (omega (arith, h)) ∙ ap (front p ks) (sym to) in
    ap (λ l. filter p l ++ cards_at es (reverse rest)) (sym (take_cards k.previous ks))
    ∙ sym (walked p ks n k.previous k found rest h e same g)
    ∙ ap (λ l. filter p l ++ cards_at es (reverse found)) (take_cards (n + 1) ks)
    ∙ done

pub stopped_walk : (mask : ℕ) (last : List ℕ) (ks : List Kept) → Linked mask last ks → (key : ℤ) (low n : ℕ) (k : Kept) → n < length ks → k ≡ get_or ks n k → k.high ≤ low → filter (meets key low) (take (n + 1) (map card_in ks)) ≡ []
stopped_walk mask last ks linked key low n k h e l = ap (filter (meets key low)) (sym (take_cards (n + 1) ks)) ∙ none_meet key low k.high (take (n + 1) ks) l (linked.below n k h e)
