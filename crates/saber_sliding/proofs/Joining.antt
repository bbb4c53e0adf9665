-- Entries and what they come to, as a part comes into the last one.
use Rattle.std.proofs.Common.{◌≡◌, ℕ, zero, suc, ◌≤◌, [], ◌∷◌, ◌++◌, length, slice_index_or, slice_set, Bool, true, false, Some, None, refl, sym, ◌∙◌, ap, subst, arith}
use Rattle.std.specs.List.{slice_get}
use Rattle.std.proofs.lemmas.Bool.{false≢true}
use Rattle.saber_plan.specs.Parts.{Part, merge}
use Rattle.saber_plan.specs.Facts.Parts.{merge-empty_right}
use Rattle.saber_laws.proofs.PartLaws.{merge_is_associative}
use Rattle.saber_partial.specs.Tallies.{CanMerge}
use Rattle.saber_partial.specs.MergeFacts.{can_ahead, can_none}
use Rattle.saber_sliding.specs.Entries.{Entries, followed_entries, last_number, merged_part, suffixes, joined_entries, queue_entries, CanFollow, Chained, Sound, IsSound}
use Rattle.saber_sliding.proofs.Entered.{followed_twice, followed-append, follow_back, joins-push, back_can, seen_late}

-- ---- what they come to

merged-joined : (p : Part) (es : Entries) → 1 ≤ length es → merged_part (joined_entries p es) ≡ merge (merged_part es) p
merged-joined p [] h = absurd (omega (arith, h))
merged-joined p (e ∷ []) h = merge-empty_right (merge e.1 p) ∙ ap (λ m. merge m p) (sym (merge-empty_right e.1))
merged-joined p (e ∷ f ∷ es) h = ap (merge e.1) (merged-joined p (f ∷ es) (omega arith)) ∙ sym (merge_is_associative e.1 (merged_part (f ∷ es)) p)

suffixes-joined : (p : Part) (es : Entries) → suffixes (joined_entries p es) ≡ followed_entries p (suffixes es)
suffixes-joined p [] = refl
suffixes-joined p (e ∷ []) = λ i. (e.0, merged-joined p (e ∷ []) (omega arith) i) ∷ []
suffixes-joined p (e ∷ f ∷ es) = λ i. (e.0, merged-joined p (e ∷ f ∷ es) (omega arith) i) ∷ suffixes-joined p (f ∷ es) i

seen-joined : (front back : Entries) (b p : Part) → queue_entries front (joined_entries p back) (merge b p) ≡ followed_entries p (queue_entries front back b)
seen-joined front back b p =
    (λ i. followed_twice b p front i ++ suffixes-joined p back i)
    ∙ sym (followed-append p (followed_entries b front) (suffixes back))

-- ---- what stays

chained-joined : (p : Part) (es : Entries) → Chained es → CanFollow p (suffixes es) → Chained (joined_entries p es)
chained-joined p [] g h = tt
chained-joined p (e ∷ []) g h = (can_none (merge e.1 p), tt)
chained-joined p (e ∷ f ∷ es) g h =
    (subst (CanMerge e.1) (sym (merged-joined p (f ∷ es) (omega arith))) (can_ahead e.1 (merged_part (f ∷ es)) p g.0 h.0), chained-joined p (f ∷ es) g.1 h.1)

sound-joined : (front back : Entries) (b p : Part) → 1 ≤ length back → Sound front back b → CanFollow p (queue_entries front back b) → Sound front (joined_entries p back) (merge b p)
sound-joined front back b p some s h = record {
  merge_is = ap (λ m. merge m p) s.merge_is ∙ sym (merged-joined p back some);
  chained = chained-joined p back s.chained (follow_back p b front (suffixes back) h);
  joins = joins-push b p front (suffixes back) s.joins h;
}

-- ---- where the back may still be to become the front

pub joined_can : (late : Bool) (front back : Entries) (b p : Part) → IsSound late front back b → CanFollow p (queue_entries front back b) → late ≡ false → CanMerge b p
joined_can true front back b p h g e = absurd (false≢true (sym e))
joined_can false front back b p h g e = back_can front back b p h g

pub joined_room : (front back : Entries) (b p : Part) → CanFollow p (queue_entries front back b) → CanFollow p (suffixes back)
joined_room front back b p h = follow_back p b front (suffixes back) h

pub joined_sound : (late : Bool) (front back : Entries) (b c p : Part) → 1 ≤ length back → IsSound late front back b → CanFollow p (queue_entries front back b) → (late ≡ false → c ≡ merge b p) → IsSound late front (joined_entries p back) c
joined_sound true front back b c p some h g e = (h.0, chained-joined p back h.1 (joined_room front back b p g))
joined_sound false front back b c p some h g e = subst (Sound front (joined_entries p back)) (sym (e refl)) (sound-joined front back b p some h g)

pub joined_seen : (late : Bool) (front back : Entries) (b c p : Part) → IsSound late front back b → (late ≡ false → c ≡ merge b p) → queue_entries front (joined_entries p back) c ≡ followed_entries p (queue_entries front back b)
joined_seen true front back b c p h e =
    seen_late front (joined_entries p back) c h.0 ∙ suffixes-joined p back ∙ ap (followed_entries p) (sym (seen_late front back b h.0))
joined_seen false front back b c p h e = ap (queue_entries front (joined_entries p back)) (e refl) ∙ seen-joined front back b p

-- ---- the last entry

pub some_back : (es : Entries) (n : ℕ) → last_number es ≡ Some n → 1 ≤ length es
some_back [] n e = absurd (let f : None ≡ Some n = e in cc)
some_back (d ∷ es) n e = omega arith

last_behind : (d : ℕ × Part) (es : Entries) (n : ℕ) → last_number es ≡ Some n → last_number (d ∷ es) ≡ Some n
last_behind d [] n e = absurd (let f : None ≡ Some n = e in cc)
last_behind d (f ∷ es) n e = e

last_suffix : (es : Entries) (n : ℕ) → last_number es ≡ Some n → last_number (suffixes es) ≡ Some n
last_suffix [] n e = e
last_suffix (d ∷ []) n e = e
last_suffix (d ∷ f ∷ es) n e = last_suffix (f ∷ es) n e

last_append : (es fs : Entries) (n : ℕ) → last_number fs ≡ Some n → last_number (es ++ fs) ≡ Some n
last_append [] fs n e = e
last_append (d ∷ es) fs n e = last_behind d (es ++ fs) n (last_append es fs n e)

pub last_seen : (front back : Entries) (b : Part) (n : ℕ) → last_number back ≡ Some n → last_number (queue_entries front back b) ≡ Some n
last_seen front back b n e = last_append (followed_entries b front) (suffixes back) n (last_suffix back n e)

-- it stands at the last place
pub last_at : (es : Entries) (i : ℕ) (d : ℕ × Part) → length es ≡ suc i → Some d ≡ slice_get es i → last_number es ≡ Some d.0
last_at [] i d h e = absurd (omega (arith, h))
last_at (c ∷ []) zero d h e = let here : Some d ≡ Some c = e in let same : d ≡ c = cc in λ i. Some (sym same i).0
last_at (c ∷ []) (suc i) d h e = absurd (omega (arith, h))
last_at (c ∷ f ∷ es) zero d h e = absurd (omega (arith, h))
last_at (c ∷ f ∷ es) (suc i) d h e = last_at (f ∷ es) i d (omega (arith, h)) e

-- can take in what can come behind all
pub last_can : (es : Entries) (i : ℕ) (d : ℕ × Part) (p : Part) → length es ≡ suc i → d ≡ slice_index_or es i d → CanFollow p (suffixes es) → CanMerge d.1 p
last_can [] i d p h e g = absurd (omega (arith, h))
last_can (c ∷ []) zero d p h e g = subst (λ m. CanMerge m p) (merge-empty_right c.1 ∙ (λ i. (sym e i).1)) g.0
last_can (c ∷ []) (suc i) d p h e g = absurd (omega (arith, h))
last_can (c ∷ f ∷ es) zero d p h e g = absurd (omega (arith, h))
last_can (c ∷ f ∷ es) (suc i) d p h e g = last_can (f ∷ es) i d p (omega (arith, h)) e g.1

-- and another is put in its place
pub last_set : (es : Entries) (i : ℕ) (d : ℕ × Part) (p : Part) → length es ≡ suc i → d ≡ slice_index_or es i d → slice_set es i (d.0, merge d.1 p) ≡ joined_entries p es
last_set [] i d p h e = absurd (omega (arith, h))
last_set (c ∷ []) zero d p h e = λ i. ((e i).0, merge (e i).1 p) ∷ []
last_set (c ∷ []) (suc i) d p h e = absurd (omega (arith, h))
last_set (c ∷ f ∷ es) zero d p h e = absurd (omega (arith, h))
last_set (c ∷ f ∷ es) (suc i) d p h e = ap (λ l. c ∷ l) (last_set (f ∷ es) i d p (omega (arith, h)) e)
