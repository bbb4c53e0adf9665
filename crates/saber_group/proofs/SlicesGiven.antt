-- Slices that are given away from the front, and slices whose parts stand in a list.
use Rattle.std.proofs.Common.{◌≡◌, ℕ, zero, suc, ◌+◌, ◌≤◌, ◌<◌, List, [], ◌∷◌, ◌++◌, inl, inr, Option, Some, None, length, min, take, drop, get_or, refl, sym, ◌∙◌, ap, ap₂, subst, append-nil, arith}
use Rattle.std.proofs.lemmas.List.{drop_all, map-append, length-append, length-take}
use Rattle.std.specs.List.{AllByRecursion, slice_get}
use Rattle.saber_plan.specs.Parts.{Part, no_part}
use Rattle.saber_plan.specs.Trees.{Tree}
use Rattle.saber_partial.specs.Ones.{AreOf, IsAt, Making}
use Rattle.saber_partial.specs.PartLaws.{OfRows}
use Rattle.saber_partial.proofs.OneParts.{are_of_more}
use Rattle.saber_group.specs.declared.slices.Slice.{Slice}
use Rattle.saber_group.specs.declared.slice_list.Span.{Span}
use Rattle.saber_sliding.specs.Entries.{Entries, CanFollow, Entered}
use Rattle.saber_group.specs.SliceParts.{EnteredFrom}
use Rattle.saber_group.specs.SliceLists.{first_of, part_in, slice_with, spans_left, CanEnter, EnteredFirst, EnteredFirstFrom, Grew, IsWithin, Stands}

-- ---- the first of some slices

pub first_there : (ss : List Slice) (n : ℕ) → first_of ss 0 ≡ Some n → (s : Slice) × (rest : List Slice) × (ss ≡ s ∷ rest) × (s.first ≡ n)
first_there [] n h = cc
first_there (s ∷ rest) n h = (s, rest, refl, cc)

pub none_there : (ss : List Slice) → first_of ss 0 ≡ None → ss ≡ []
none_there [] h = refl
none_there (s ∷ rest) h = cc

pub some_left : (ss : List Slice) → 0 < length ss → (s : Slice) × (rest : List Slice) × (ss ≡ s ∷ rest)
some_left [] h = absurd (omega (arith, h))
some_left (s ∷ rest) h = (s, rest, refl)

pub none_left : (ss : List Slice) → length ss ≤ 0 → ss ≡ []
none_left [] h = refl
none_left (s ∷ rest) h = absurd (omega (arith, h))

-- a slice that comes to windows, where it stands first
pub can_enter : (ss rest : List Slice) (s : Slice) (es : Entries) → ss ≡ s ∷ rest → CanEnter ss es → CanFollow s.part es
can_enter ss rest s es e h = subst (λ l. CanEnter l es) e h

pub entered_one : (ss rest : List Slice) (s : Slice) (es fs : Entries) → ss ≡ s ∷ rest → Entered es s.past s.part fs → EnteredFirst ss es fs
entered_one ss rest s es fs e h = subst (λ l. EnteredFirst l es fs) (sym e) h

pub entered_none : (ss : List Slice) (es : Entries) → ss ≡ [] → EnteredFirst ss es es
entered_none ss es e = subst (λ l. EnteredFirst l es es) (sym e) refl

pub entered_from : (low : ℕ) (ss rest : List Slice) (s : Slice) (es fs : Entries) → ss ≡ s ∷ rest → EnteredFrom low es s.past s.part fs → EnteredFirstFrom low ss es fs
entered_from low ss rest s es fs e h = subst (λ l. EnteredFirstFrom low l es fs) (sym e) h

pub entered_none_from : (low : ℕ) (ss : List Slice) (es : Entries) → ss ≡ [] → EnteredFirstFrom low ss es es
entered_none_from low ss es e = subst (λ l. EnteredFirstFrom low l es es) (sym e) refl

-- ---- one of them by its place

pub first_past : (ss : List Slice) (i : ℕ) → length ss ≤ i → None ≡ first_of ss i
first_past [] i h = refl
first_past (s ∷ ss) zero h = absurd (omega (arith, h))
first_past (s ∷ ss) (suc i) h = first_past ss i (omega (arith, h))

pub first_at : (ss : List Slice) (i : ℕ) (d : Slice) → i < length ss → d ≡ get_or ss i d → Some d.first ≡ first_of ss i
first_at [] i d h e = absurd (omega (arith, h))
first_at (s ∷ ss) zero d h e = ap (λ (r : Slice). Some r.first) e
first_at (s ∷ ss) (suc i) d h e = first_at ss i d (omega (arith, h)) e

pub span_past : (ps : List Part) (spans : List Span) (i : ℕ) → length spans ≤ i → None ≡ first_of (spans_left ps spans) i
span_past ps [] i h = refl
span_past ps (s ∷ spans) zero h = absurd (omega (arith, h))
span_past ps (s ∷ spans) (suc i) h = span_past ps spans i (omega (arith, h))

pub span_at : (ps : List Part) (spans : List Span) (i : ℕ) (d : Span) → i < length spans → Some (get_or spans i d).first ≡ first_of (spans_left ps spans) i
span_at ps [] i d h = absurd (omega (arith, h))
span_at ps (s ∷ spans) zero d h = refl
span_at ps (s ∷ spans) (suc i) d h = span_at ps spans i d (omega (arith, h))

-- what is left from some place on, or from the end
pub drop_least : {A : Type 0} (n : ℕ) (xs : List A) → drop (min n (length xs)) xs ≡ drop n xs
drop_least zero xs = let none : min 0 (length xs) ≡ 0 = omega arith in ap (λ k. drop k xs) none
drop_least (suc n) [] = drop_all (min (suc n) 0) [] (omega arith)
drop_least (suc n) (x ∷ xs) = let one : min (suc n) (suc (length xs)) ≡ suc (min n (length xs)) = omega arith in ap (λ k. drop k (x ∷ xs)) one ∙ drop_least n xs

pub firsts_more : (low : ℕ) (ss : List Slice) (i n : ℕ) → first_of ss i ≡ Some n → n ≤ low → AllByRecursion (λ (r : Slice). r.first ≤ low) (take i ss) → AllByRecursion (λ (r : Slice). r.first ≤ low) (take (i + 1) ss)
firsts_more low [] i n f h all = cc
firsts_more low (s ∷ ss) zero n f h all = let same : s.first ≡ n = cc in (omega (arith, same, h), tt)
firsts_more low (s ∷ ss) (suc i) n f h all =
    let more : suc (i + 1) ≡ suc i + 1 = omega arith in
    subst (λ k. AllByRecursion (λ (r : Slice). r.first ≤ low) (take k (s ∷ ss))) more (all.0, firsts_more low ss i n f h all.1)

pub first_is : (ss : List Slice) (i n : ℕ) (r : Slice) → first_of ss i ≡ Some n → Some r ≡ slice_get ss i → r.first ≡ n
first_is [] i n r f h = cc
first_is (s ∷ ss) zero n r f h = cc
first_is (s ∷ ss) (suc i) n r f h = first_is ss i n r f h

pub not_none : (ss : List Slice) (i : ℕ) (r : Slice) → first_of ss i ≡ None → Some r ≡ slice_get ss i → ⊥
not_none [] i r f h = cc
not_none (s ∷ ss) zero r f h = cc
not_none (s ∷ ss) (suc i) r f h = not_none ss i r f h

pub not_past : (ss : List Slice) (i : ℕ) (r : Slice) → Some r ≡ slice_get ss i → length ss ≤ i → ⊥
not_past [] i r h l = cc
not_past (s ∷ ss) zero r h l = omega (arith, l)
not_past (s ∷ ss) (suc i) r h l = not_past ss i r h (omega (arith, l))

-- ---- parts in a list

part_front : (ps more : List Part) (o : Option ℕ) → Stands ps o → part_in (ps ++ more) o ≡ part_in ps o
part_front ps more None h = refl
part_front [] more (Some i) h = absurd (omega (arith, h))
part_front (p ∷ ps) more (Some zero) h = refl
part_front (p ∷ ps) more (Some (suc i)) h = part_front ps more (Some i) (omega (arith, h))

-- slices made before keep their parts
spans_stay : (ps more : List Part) (spans : List Span) → AllByRecursion (λ (s : Span). Stands ps s.part) spans → spans_left (ps ++ more) spans ≡ spans_left ps spans
spans_stay ps more [] h = refl
spans_stay ps more (s ∷ spans) h = λ j. record { first = s.first; past = s.past; end = s.end; part = part_front ps more s.part h.0 j } ∷ spans_stay ps more spans h.1 j

stands_more : (ps more : List Part) (o : Option ℕ) → Stands ps o → Stands (ps ++ more) o
stands_more ps more None h = tt
stands_more ps more (Some i) h = let long = length-append ps more in omega (arith, h, long)

all_stand : (ps more : List Part) (spans : List Span) → AllByRecursion (λ (s : Span). Stands ps s.part) spans → AllByRecursion (λ (s : Span). Stands (ps ++ more) s.part) spans
all_stand ps more [] h = tt
all_stand ps more (s ∷ spans) h = (stands_more ps more s.part h.0, all_stand ps more spans h.1)

one_stands : (ps : List Part) (spans : List Span) (s : Span) → AllByRecursion (λ (r : Span). Stands ps r.part) spans → Stands ps s.part → AllByRecursion (λ (r : Span). Stands ps r.part) (spans ++ s ∷ [])
one_stands ps [] s h own = (own, tt)
one_stands ps (r ∷ spans) s h own = (h.0, one_stands ps spans s h.1 own)

module _ (old new : List Part) (grew : Grew old new) (spans : List Span) (s : Span) (stand : AllByRecursion (λ (r : Span). Stands old r.part) spans) (own : Stands new s.part) where
  pub stand_on : AllByRecursion (λ (r : Span). Stands new r.part) (spans ++ s ∷ [])
  stand_on = one_stands new spans s (subst (λ ps. AllByRecursion (λ (r : Span). Stands ps r.part) spans) (sym grew.1) (all_stand old grew.0 spans stand)) own

  -- one slice more, whose part may be new
  pub spans_more : spans_left new (spans ++ s ∷ []) ≡ spans_left old spans ++ slice_with new s ∷ []
  spans_more =
      map-append (slice_with new) spans (s ∷ [])
      ∙ ap (λ l. l ++ slice_with new s ∷ []) (ap (λ ps. spans_left ps spans) grew.1 ∙ spans_stay old grew.0 spans stand)

-- ---- a part that was in the making

part_last : (ps : List Part) (p : Part) → part_in (ps ++ p ∷ []) (Some (length ps)) ≡ p
part_last [] p = refl
part_last (r ∷ ps) p = part_last ps p

pub at_is : (m : Making) (o : Option ℕ) (ps : List Part) → IsAt m o ps → part_in ps o ≡ m.last
at_is m None ps h = sym h.0
at_is m (Some i) ps h = (λ j. part_in (h.1 j) (Some (h.0 j))) ∙ part_last m.done m.last

pub at_stands : (m : Making) (o : Option ℕ) (ps : List Part) → IsAt m o ps → Stands ps o
at_stands m None ps h = tt
at_stands m (Some i) ps h = let place = h.0 in let long = ap length h.1 ∙ length-append m.done (m.last ∷ []) in omega (arith, place, long)

pub at_grew : (m : Making) (o : Option ℕ) (ps : List Part) → IsAt m o ps → Grew m.done ps
at_grew m None ps h = ([], h.1 ∙ sym (append-nil m.done))
at_grew m (Some i) ps h = (m.last ∷ [], h.1)

pub at_all : (q : Tree) (n : ℕ) (m : Making) (o : Option ℕ) (ps : List Part) → AreOf q m.done → OfRows q n m.last → IsAt m o ps → AreOf q ps
at_all q n m None ps all few h = subst (AreOf q) (sym h.1) all
at_all q n m (Some i) ps all few h = subst (AreOf q) (sym h.1) (are_of_more q n m.done m.last all few)

-- ---- parts at the front

past_end : (ps : List Part) (i : ℕ) → length ps ≤ i → part_in ps (Some i) ≡ no_part
past_end [] i h = refl
past_end (p ∷ ps) zero h = absurd (omega (arith, h))
past_end (p ∷ ps) (suc i) h = past_end ps i (omega (arith, h))

pub part_within : (n : ℕ) (ps : List Part) (o : Option ℕ) → IsWithin n (length ps) o → part_in (take n ps) o ≡ part_in ps o
part_within n ps None h = refl
part_within n ps (Some i) (inr h) = past_end (take n ps) i (let less = length-take n ps in omega (arith, h, less)) ∙ sym (past_end ps i h)
part_within zero ps (Some i) (inl h) = absurd (omega (arith, h))
part_within (suc n) [] (Some i) (inl h) = refl
part_within (suc n) (p ∷ ps) (Some zero) (inl h) = refl
part_within (suc n) (p ∷ ps) (Some (suc i)) (inl h) = part_within n ps (Some i) (inl (omega (arith, h)))

-- slices over the parts that they need are the same
pub spans_within : (n : ℕ) (ps : List Part) (spans : List Span) → AllByRecursion (λ (s : Span). IsWithin n (length ps) s.part) spans → spans_left (take n ps) spans ≡ spans_left ps spans
spans_within n ps [] h = refl
spans_within n ps (s ∷ spans) h = λ j. record { first = s.first; past = s.past; end = s.end; part = part_within n ps s.part h.0 j } ∷ spans_within n ps spans h.1 j

-- so many parts serve slices that need fewer
more_within : (n k all : ℕ) (o : Option ℕ) → n ≤ k → IsWithin n all o → IsWithin k all o
more_within n k all None up h = tt
more_within n k all (Some i) up (inl h) = inl (omega (arith, up, h))
more_within n k all (Some i) up (inr h) = inr h

pub all_within : (n k all : ℕ) (spans : List Span) → n ≤ k → AllByRecursion (λ (s : Span). IsWithin n all s.part) spans → AllByRecursion (λ (s : Span). IsWithin k all s.part) spans
all_within n k all [] up h = tt
all_within n k all (s ∷ spans) up h = (more_within n k all s.part up h.0, all_within n k all spans up h.1)
