-- What is kept of all key lists: one row more, the open parts, and the end.
use Rattle.std.proofs.Common.{◌≡◌, ℕ, ◌+◌, ◌-◌, ◌/◌, ◌≤◌, ◌==◌, List, [], ◌∷◌, ◌++◌, filter, flat_map, map, length, Bool, true, false, cond, not, nat_le, Option, Some, None, ℤ, refl, sym, ◌∙◌, ap, subst, subst₂, append-nil, length-append, arith}
use Rattle.std.specs.List.{AllByRecursion}
use Rattle.std.specs.Option.{option_map_or}
use Rattle.std.specs.Ordering.{nat_cmp, eq_by_cmp, match_ordering}
use Rattle.std.specs.declared.cmp.Ordering.TheVariants.{Less, Equal, Greater}
use Rattle.std.specs.FinMap.{get, insert, len, empty, entries, from_entries, find, put, entries-insert, get-insert, get-empty, get-from_entries, same_map}
use Rattle.std.specs.FinMap.Entries.{by_order}
use Rattle.std.proofs.lemmas.Bool.{lt-leb}
use Rattle.std.proofs.lemmas.List.Elements.{filter-append}
use Rattle.saber_plan.specs.declared.rows.Row.{Row}
use Rattle.saber_plan.specs.declared.plans.Shape.TheVariants.{Group}
use Rattle.saber_plan.specs.Trees.{Tree}
use Rattle.saber_plan.specs.Inputs.{going_on}
use Rattle.saber_plan.specs.Windows.{no_rows, mark_of, last_mark, past_count, begun_count, closed_count}
use Rattle.saber_plan.specs.Answers.{frame, key_cmp, with_key, keys_of, list_of, substream, lists_in, past_in, closed_at_last}
use Rattle.saber_plan.specs.Parts.{Part, part}
use Rattle.saber_plan.specs.Facts.Parts.{total, exact, keyed_list}
use Rattle.saber_plan.specs.Facts.Maps.{equal_if, entries-empty}
use Rattle.saber_plan.specs.Facts.Numbers.{flat_map-from, numbered_is}
use Rattle.saber_plan.specs.Tasks.{full, numbered_list, Parts, list_input, unclosed, unclosed_by_list}
use Rattle.saber_sliding.specs.Entries.{part_at}
use Rattle.saber_partition.specs.Streams.{Asks, Keeps}
use Rattle.saber_partition.specs.Lists.{Own, nothing, Lists, KeptAt, TakenAll, held_parts, held_lists, last_lines}
use Rattle.saber_partition.proofs.Counting.{frame_is, ended_stays}
use Rattle.saber_partition.proofs.Streaming.{holds_nothing, part_is_whole}

same_key : (k l : List ℤ) → eq_by_cmp key_cmp k l ≡ true → k ≡ l
same_key k l e = exact k l (equal_if _ e)

-- ---- one row more

last_case : (us : List Row) (r : Row) (b : Bool) → us ++ cond b (r ∷ []) [] ≡ cond b (us ++ r ∷ []) us
last_case us r true = refl
last_case us r false = append-nil us

pub substream_next : (q : Tree) (k : List ℤ) (xs : List Row) (r : Row) → substream q k (xs ++ r ∷ []) ≡ cond (eq_by_cmp key_cmp k (list_of q r)) (substream q k xs ++ r ∷ []) (substream q k xs)
substream_next q k xs r = filter-append (λ x. eq_by_cmp key_cmp k (list_of q x)) xs (r ∷ []) ∙ last_case (substream q k xs) r (eq_by_cmp key_cmp k (list_of q r))

some_rows : (us : List Row) (r : Row) → 1 ≤ length (us ++ r ∷ [])
some_rows us r = let long = length-append us (r ∷ []) in omega (arith, long)

pub taken_more : (q : Tree) (xs : List Row) (r : Row) (m : Lists) (o : Own) → TakenAll q xs m → Keeps q (substream q (list_of q r) xs ++ r ∷ []) o.next o.begun o.entries
    → TakenAll q (xs ++ r ∷ []) (insert m (list_of q r) o)
taken_more q xs r m o t own k =
    subst₂ (KeptAt q) (sym (substream_next q k xs r)) (sym (get-insert total m (list_of q r) o k))
    (elim (eq_by_cmp key_cmp k (list_of q r)) as (λ b. eq_by_cmp key_cmp k (list_of q r) ≡ b → KeptAt q (cond b (substream q k xs ++ r ∷ []) (substream q k xs)) (cond b (Some o) (get m k))) [
      | true ↦ λ e. (some_rows (substream q k xs) r, subst (λ l. Keeps q (substream q l xs ++ r ∷ []) o.next o.begun o.entries) (sym (same_key k (list_of q r) e)) own)
      | false ↦ λ e. t k
    ] refl)

pub taken_nothing : (q : Tree) → TakenAll q [] empty
taken_nothing q k = subst (KeptAt q []) (sym (get-empty key_cmp k)) refl

-- ---- what is kept of a key list

abbrev pub own_or : Option Own → Own
own_or None = nothing
own_or (Some o) = o

abbrev pub own_at : Lists → List ℤ → Own
own_at m k = own_or (get m k)

no_count : (b : Bool) (n : ℕ) → b ≡ false → 0 ≡ cond b n 0
no_count true n e = cc
no_count false n e = refl

pub keeps_nothing : (q : Tree) → Asks q → Keeps q [] 0 0 []
keeps_nothing q a =
    let slide = a.window.window.slide in
    let size = a.window.window.size in
    record {
      holds = holds_nothing q 0 [] refl;
      next_is = subst (λ f. 0 ≡ past_count f no_rows) (sym (frame_is q a)) (no_count (nat_le size 0) ((0 - size) / slide + 1) (lt-leb size 0 a.window.fits.size.0));
      begun_is = subst (λ f. 0 ≡ begun_count f no_rows) (sym (frame_is q a)) refl;
    }

kept_or : (q : Tree) → Asks q → (us : List Row) (o : Option Own) → KeptAt q us o → Keeps q us (own_or o).next (own_or o).begun (own_or o).entries
kept_or q a us None e = subst (λ l. Keeps q l 0 0 []) (sym e) (keeps_nothing q a)
kept_or q a us (Some o) e = e.1

pub kept_own : (q : Tree) → Asks q → (xs : List Row) (m : Lists) → TakenAll q xs m → (k : List ℤ) → Keeps q (substream q k xs) (own_at m k).next (own_at m k).begun (own_at m k).entries
kept_own q a xs m t k = kept_or q a (substream q k xs) (get m k) (t k)

-- ---- the map by the key lists of the rows

abbrev some_at : {X : Type 0} → List Row → X → Option X
some_at [] x = None
some_at (r ∷ rs) x = Some x

find_list : {X : Type 0} (g : List ℤ → X) (q : Tree) (k : List ℤ) (xs : List Row) → find key_cmp k (keyed_list g (map (list_of q) xs)) ≡ some_at (substream q k xs) (g k)
find_list g q k [] = refl
find_list g q k (r ∷ xs) =
    elim (eq_by_cmp key_cmp k (list_of q r)) as (λ b. eq_by_cmp key_cmp k (list_of q r) ≡ b → cond b (Some (g (list_of q r))) (find key_cmp k (keyed_list g (map (list_of q) xs))) ≡ some_at (cond b (r ∷ substream q k xs) (substream q k xs)) (g k)) [
      | true ↦ λ e. ap (λ l. Some (g l)) (sym (same_key k (list_of q r) e))
      | false ↦ λ e. find_list g q k xs
    ] refl

is_own : (q : Tree) (us : List Row) (o : Option Own) → KeptAt q us o → some_at us (own_or o) ≡ o
is_own q us None e = ap (λ l. some_at l nothing) e
is_own q [] (Some o) e = absurd (omega (arith, e.0))
is_own q (u ∷ us) (Some o) e = refl

map_is : (q : Tree) (xs : List Row) (m : Lists) → TakenAll q xs m → m ≡ from_entries {R = key_cmp} (keyed_list (own_at m) (map (list_of q) xs))
map_is q xs m t = same_map total exact _ _ (λ k. sym (get-from_entries total (keyed_list (own_at m) (map (list_of q) xs)) k ∙ find_list (own_at m) q k xs ∙ is_own q (substream q k xs) (get m k) (t k)))

put_keyed : {X : Type 0} (g : List ℤ → X) (k : List ℤ) (ls : List (List ℤ)) → put key_cmp k (g k) (keyed_list g ls) ≡ keyed_list g (with_key k ls)
unfolding with_key
put_keyed g k [] = refl
put_keyed g k (l ∷ ls) =
    elim (key_cmp k l) as (λ r. key_cmp k l ≡ r → by_order r ((k, g k) ∷ (l, g l) ∷ keyed_list g ls) ((l, g k) ∷ keyed_list g ls) ((l, g l) ∷ put key_cmp k (g k) (keyed_list g ls)) ≡ keyed_list g (match_ordering r (k ∷ l ∷ ls) (l ∷ ls) (l ∷ with_key k ls))) [
      | Less ↦ λ e. refl
      | Equal ↦ λ e i. (l, g (exact k l e i)) ∷ keyed_list g ls
      | Greater ↦ λ e i. (l, g l) ∷ put_keyed g k ls i
    ] refl

entries_keyed : {X : Type 0} (g : List ℤ → X) (ks : List (List ℤ)) → entries (from_entries {R = key_cmp} (keyed_list g ks)) ≡ keyed_list g (keys_of ks)
unfolding keys_of
entries_keyed g [] = entries-empty key_cmp
entries_keyed g (k ∷ ks) = entries-insert total (from_entries {R = key_cmp} (keyed_list g ks)) k (g k) ∙ ap (put key_cmp k (g k)) (entries_keyed g ks) ∙ put_keyed g k (keys_of ks)

-- its entries are those of the key lists of the rows, rising
pub entries_are : (q : Tree) (xs : List Row) (m : Lists) → TakenAll q xs m → entries m ≡ keyed_list (own_at m) (lists_in q xs)
entries_are q xs m t = ap entries (map_is q xs m t) ∙ entries_keyed (own_at m) (map (list_of q) xs)

-- ---- the open parts

closed_is : (q : Tree) (us : List Row) → past_in q us ≡ closed_count (frame q) (last_mark (going_on us))
closed_is q us = sym (ap (λ b. cond b (begun_count (frame q) (mark_of us)) (past_count (frame q) (mark_of us))) (ended_stays no_rows us))

held_own : (q : Tree) → q.shape ≡ Group → (us : List Row) (o : Own) → Keeps q us o.next o.begun o.entries → held_parts o ≡ unclosed q (going_on us)
unfolding unclosed
held_own q e us o t =
    let at = λ (i : ℕ). full (part_at o.entries i) in
    let given = λ (i : ℕ). full (part q i us 0 (length us)) in
    ap (from_entries {R = nat_cmp}) (
    numbered_is at o.next (o.begun - o.next)
    ∙ flat_map-from (λ i. option_map_or (λ p. (i, p) ∷ []) (at i) []) (λ i. option_map_or (λ p. (i, p) ∷ []) (given i) []) o.next (o.begun - o.next)
    (λ i p l. ap (λ a. option_map_or (λ (m : Part). (i, m) ∷ []) (full a) []) (sym (t.holds.at i p) ∙ part_is_whole q e i us))
    ∙ sym (numbered_is given o.next (o.begun - o.next))
    ∙ (λ j. numbered_list ((t.next_is ∙ closed_is q us) j) (t.begun_is j - (t.next_is ∙ closed_is q us) j) given))

map_keyed : {X : Type 0} (f : X → Parts) (g : List ℤ → X) (h : List ℤ → Parts) → ((k : List ℤ) → f (g k) ≡ h k) → (ks : List (List ℤ)) → map {B = List ℤ × Parts} (λ e. (e.0, f e.1)) (keyed_list g ks) ≡ keyed_list h ks
map_keyed f g h e [] = refl
map_keyed f g h e (k ∷ ks) = λ j. (k, e k j) ∷ map_keyed f g h e ks j

abbrev is_some : List ℤ × Parts → Bool
is_some e = not (len e.1 == 0)

pub held_is : (q : Tree) → Asks q → (xs : List Row) (m : Lists) → TakenAll q xs m → held_lists m ≡ unclosed_by_list q (going_on xs)
unfolding unclosed_by_list
held_is q a xs m t =
    let h = λ (k : List ℤ). unclosed q (list_input q k (going_on xs)) in
    ap (λ es. from_entries {R = key_cmp} (filter is_some (map (λ e. (e.0, held_parts e.1)) es))) (entries_are q xs m t)
    ∙ ap (λ es. from_entries {R = key_cmp} (filter is_some es))
    (map_keyed held_parts (own_at m) h (λ k. held_own q a.group (substream q k xs) (own_at m k) (kept_own q a xs m t k)) (lists_in q xs))

pub nothing_held : held_lists empty ≡ empty
nothing_held = ap (λ es. from_entries {R = key_cmp} (filter is_some (map (λ e. (e.0, held_parts e.1)) es))) (entries-empty key_cmp)

-- ---- the end

flat_keyed : {X : Type 0} (f : List ℤ → List ℕ) (g : List ℤ → X) (ks : List (List ℤ)) → flat_map (λ e. f e.0) (keyed_list g ks) ≡ flat_map f ks
flat_keyed f g [] = refl
flat_keyed f g (k ∷ ks) = ap (λ l. f k ++ l) (flat_keyed f g ks)

-- what is printed at the end, entry by entry
pub last_is : (q : Tree) (xs : List Row) (m : Lists) → TakenAll q xs m → flat_map (λ e. last_lines q (substream q e.0 xs)) (entries m) ≡ closed_at_last q xs
last_is q xs m t = ap (flat_map (λ e. last_lines q (substream q e.0 xs))) (entries_are q xs m t) ∙ flat_keyed (λ k. last_lines q (substream q k xs)) (own_at m) (lists_in q xs)

all_keyed : {X : Type 0} (P : List ℤ × X → Type 0) (g : List ℤ → X) → ((k : List ℤ) → P (k, g k)) → (ks : List (List ℤ)) → AllByRecursion P (keyed_list g ks)
all_keyed P g h [] = tt
all_keyed P g h (k ∷ ks) = (h k, all_keyed P g h ks)

abbrev pub IsKept : Tree → List Row → List ℤ × Own → Type 0
IsKept q xs e = Keeps q (substream q e.0 xs) e.1.next e.1.begun e.1.entries

pub all_kept : (q : Tree) → Asks q → (xs : List Row) (m : Lists) → TakenAll q xs m → AllByRecursion (IsKept q xs) (entries m)
all_kept q a xs m t = subst (AllByRecursion (IsKept q xs)) (sym (entries_are q xs m t)) (all_keyed (IsKept q xs) (own_at m) (kept_own q a xs m t) (lists_in q xs))
