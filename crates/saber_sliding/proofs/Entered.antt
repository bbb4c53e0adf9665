-- Entries and what they come to, as one more comes and the first goes.
use Rattle.std.proofs.Common.{◌≡◌, ℕ, zero, suc, drop, ◌≤◌, ◌<◌, Bool, true, false, cond, nat_le, [], ◌∷◌, ◌++◌, length, refl, sym, ◌∙◌, ap, subst, subst₂, append-nil, append_assoc, arith}
use Rattle.std.proofs.lemmas.Bool.{false≢true}
use Rattle.std.proofs.lemmas.List.{length-map}
use Rattle.saber_plan.specs.Parts.{Part, no_part, merge}
use Rattle.saber_plan.specs.Facts.Parts.{merge-empty_left, merge-empty_right}
use Rattle.saber_laws.proofs.PartLaws.{merge_is_associative}
use Rattle.saber_partial.specs.Tallies.{CanMerge}
use Rattle.saber_sliding.specs.Entries.{Entries, whole, followed_entries, pushed_entries, dropped_entries, merged_part, suffixes, queue_entries, CanFollow, Chained, Sound, IsSound}
use Rattle.saber_sliding.specs.EntryFacts.{all_dropped}
use Rattle.saber_partial.specs.MergeFacts.{can_ahead, can_none, none_can}

-- the empty part changes nothing
pub ruleset units = (merge-empty_left, merge-empty_right)

abbrev last : ℕ → Part → Entries
last n p = (n, p) ∷ []

pub length-suffixes : (es : Entries) → length (suffixes es) ≡ length es
length-suffixes [] = refl
length-suffixes (e ∷ es) = let rest = length-suffixes es in omega (arith, rest)

pub whole_merged : (es : Entries) → whole (suffixes es) ≡ merged_part es
whole_merged [] = refl
whole_merged (e ∷ es) = refl

-- ---- one more

merged-push : (n : ℕ) (p : Part) (es : Entries) → merged_part (es ++ last n p) ≡ merge (merged_part es) p
merged-push n p [] = merge-empty_right p ∙ sym (merge-empty_left p)
merged-push n p (e ∷ es) = ap (merge e.1) (merged-push n p es) ∙ sym (merge_is_associative e.1 (merged_part es) p)

pub followed_twice : (m p : Part) (es : Entries) → followed_entries (merge m p) es ≡ followed_entries p (followed_entries m es)
followed_twice m p [] = refl
followed_twice m p (e ∷ es) = λ i. (e.0, sym (merge_is_associative e.1 m p) i) ∷ followed_twice m p es i

pub suffixes-push : (n : ℕ) (p : Part) (es : Entries) → suffixes (es ++ last n p) ≡ followed_entries p (suffixes es) ++ last n p
suffixes-push n p [] = λ i. (n, (merge-empty_right p) i) ∷ []
suffixes-push n p (e ∷ es) = λ i. (e.0, (ap (merge e.1) (merged-push n p es) ∙ sym (merge_is_associative e.1 (merged_part es) p)) i) ∷ suffixes-push n p es i

pub followed-append : (p : Part) (es fs : Entries) → followed_entries p (es ++ fs) ≡ followed_entries p es ++ followed_entries p fs
followed-append p [] fs = refl
followed-append p (e ∷ es) fs = ap (λ l. (e.0, merge e.1 p) ∷ l) (followed-append p es fs)

pub seen-push : (front back : Entries) (b : Part) (n : ℕ) (p : Part) → queue_entries front (back ++ last n p) (merge b p) ≡ pushed_entries (queue_entries front back b) n p
seen-push front back b n p =
    (λ i. followed_twice b p front i ++ suffixes-push n p back i)
    ∙ sym (append_assoc (followed_entries p (followed_entries b front)) (followed_entries p (suffixes back)) (last n p))
    ∙ ap (λ l. l ++ last n p) (sym (followed-append p (followed_entries b front) (suffixes back)))

pub follow_back : (p b : Part) (front es : Entries) → CanFollow p (followed_entries b front ++ es) → CanFollow p es
follow_back p b [] es h = h
follow_back p b (e ∷ front) es h = follow_back p b front es h.1

pub joins-push : (b p : Part) (front es : Entries) → CanFollow b front → CanFollow p (followed_entries b front ++ es) → CanFollow (merge b p) front
joins-push b p [] es g h = tt
joins-push b p (e ∷ front) es g h = (can_ahead e.1 b p g.0 h.0, joins-push b p front es g.1 h.1)

pub chained-push : (n : ℕ) (p : Part) (es : Entries) → Chained es → CanFollow p (suffixes es) → Chained (es ++ last n p)
chained-push n p [] g h = (can_none p, tt)
chained-push n p (e ∷ es) g h =
    (subst (CanMerge e.1) (sym (merged-push n p es)) (can_ahead e.1 (merged_part es) p g.0 h.0), chained-push n p es g.1 h.1)

pub sound-push : (front back : Entries) (b : Part) (n : ℕ) (p : Part) → Sound front back b → CanFollow p (queue_entries front back b) → Sound front (back ++ last n p) (merge b p)
sound-push front back b n p s h = record {
  merge_is = ap (λ m. merge m p) s.merge_is ∙ sym (merged-push n p back);
  chained = chained-push n p back s.chained (follow_back p b front (suffixes back) h);
  joins = joins-push b p front (suffixes back) s.joins h;
}

first_can : (p : Part) (es : Entries) → CanFollow p (suffixes es) → CanMerge (merged_part es) p
first_can p [] h = none_can p
first_can p (e ∷ es) h = h.0

pub back_can : (front back : Entries) (b p : Part) → Sound front back b → CanFollow p (queue_entries front back b) → CanMerge b p
back_can front back b p s h = subst (λ m. CanMerge m p) (sym s.merge_is) (first_can p back (follow_back p b front (suffixes back) h))

-- ---- the back becomes the front

followed_none : (es : Entries) → followed_entries no_part es ≡ es
followed_none [] = refl
followed_none (e ∷ es) = λ i. (e.0, (merge-empty_right e.1) i) ∷ followed_none es i

pub seen_turned : (es : Entries) → queue_entries es [] no_part ≡ es
seen_turned es = append-nil (followed_entries no_part es) ∙ followed_none es

pub sound_turned : (es : Entries) → Sound es [] no_part
sound_turned es = record { merge_is = refl; chained = tt; joins = any es } where
  any : (es : Entries) → CanFollow no_part es
  any [] = tt
  any (e ∷ es) = (can_none e.1, any es)

-- ---- a back that is still to become the front

pub late_none : (late : Bool) (front back : Entries) (p : Part) → late ≡ true → IsSound late front back p → (front ≡ []) × Chained back
late_none true front back p e h = h
late_none false front back p e h = absurd (false≢true e)

chained_any : (late : Bool) (front back : Entries) (p : Part) → IsSound late front back p → Chained back
chained_any true front back p h = h.1
chained_any false front back p h = h.chained

chained_drop : (n : ℕ) (es : Entries) → Chained es → Chained (drop n es)
chained_drop zero es h = h
chained_drop (suc n) [] h = tt
chained_drop (suc n) (e ∷ es) h = chained_drop n es h.1

pub chained_left : (late : Bool) (front back : Entries) (p : Part) (n : ℕ) → IsSound late front back p → Chained (drop n back)
chained_left late front back p n h = chained_drop n back (chained_any late front back p h)

pub seen_late : (front back : Entries) (p : Part) → front ≡ [] → queue_entries front back p ≡ suffixes back
seen_late front back p e = ap (λ f. queue_entries f back p) e

-- ---- summing up

-- the last of `back` are in `front`, summed up
pub record Turned (all back front : Entries) : Type 0 where
  pub rest : Entries
  pub all_is : all ≡ back ++ rest
  pub front_is : front ≡ suffixes rest

pub chained_at : (es : Entries) (e : ℕ × Part) (fs : Entries) → Chained (es ++ e ∷ fs) → CanMerge e.1 (merged_part fs)
chained_at [] e fs h = h.0
chained_at (d ∷ es) e fs h = chained_at es e fs h.1

pub turned_can : (all back front es : Entries) (n : ℕ) (p : Part) → Chained all → Turned all back front → back ≡ es ++ last n p → CanMerge p (whole front)
turned_can all back front es n p h t e =
    subst (CanMerge p) (sym (ap whole t.front_is ∙ whole_merged t.rest))
    (chained_at es (n, p) t.rest (subst Chained (t.all_is ∙ ap (λ l. l ++ t.rest) e ∙ append_assoc es (last n p) t.rest) h))

pub turned_more : (all back front es : Entries) (n : ℕ) (p r : Part) → Turned all back front → back ≡ es ++ last n p → r ≡ merge p (whole front) → Turned all es ((n, r) ∷ front)
turned_more all back front es n p r t e m = record {
  rest = (n, p) ∷ t.rest;
  all_is = t.all_is ∙ ap (λ l. l ++ t.rest) e ∙ append_assoc es (last n p) t.rest;
  front_is = λ i. (n, (m ∙ ap (merge p) (ap whole t.front_is ∙ whole_merged t.rest)) i) ∷ t.front_is i;
}

-- ---- a front with nothing in it

pub nothing : (front : Entries) → length front ≤ 0 → front ≡ []
nothing [] h = refl
nothing (e ∷ front) h = absurd (omega (arith, h))

pub whole_alone : (front back : Entries) (b : Part) → Sound front back b → length front ≤ 0 → b ≡ whole (queue_entries front back b)
whole_alone front back b s h = s.merge_is ∙ sym (whole_merged back) ∙ ap (λ f. whole (queue_entries f back b)) (sym (nothing front h))

-- ---- those at the front go

dropped_followed : (i : ℕ) (p : Part) (es : Entries) → dropped_entries i (followed_entries p es) ≡ followed_entries p (dropped_entries i es)
dropped_followed i p [] = refl
dropped_followed i p (e ∷ es) = elim (nat_le e.0 i) as (λ b. cond b (dropped_entries i (followed_entries p es)) (followed_entries p (e ∷ es)) ≡ followed_entries p (cond b (dropped_entries i es) (e ∷ es))) [ true ↦ dropped_followed i p es | false ↦ refl ]

dropped_suffixes : (i : ℕ) (es : Entries) → dropped_entries i (suffixes es) ≡ suffixes (dropped_entries i es)
dropped_suffixes i [] = refl
dropped_suffixes i (e ∷ es) = elim (nat_le e.0 i) as (λ b. cond b (dropped_entries i (suffixes es)) (suffixes (e ∷ es)) ≡ suffixes (cond b (dropped_entries i es) (e ∷ es))) [ true ↦ dropped_suffixes i es | false ↦ refl ]

some_left : (i : ℕ) (es fs : Entries) → 0 < length (dropped_entries i es) → dropped_entries i (es ++ fs) ≡ dropped_entries i es ++ fs
some_left i [] fs h = absurd (omega (arith, h))
some_left i (e ∷ es) fs h =
    elim (nat_le e.0 i) as (λ b. 0 < length (cond b (dropped_entries i es) (e ∷ es)) → cond b (dropped_entries i (es ++ fs)) (e ∷ es ++ fs) ≡ cond b (dropped_entries i es) (e ∷ es) ++ fs) [ true ↦ λ l. some_left i es fs l | false ↦ λ l. refl ] h

none_left : (i : ℕ) (es fs : Entries) → dropped_entries i es ≡ [] → dropped_entries i (es ++ fs) ≡ dropped_entries i fs
none_left i [] fs h = refl
none_left i (e ∷ es) fs h =
    elim (nat_le e.0 i) as (λ b. cond b (dropped_entries i es) (e ∷ es) ≡ [] → cond b (dropped_entries i (es ++ fs)) (e ∷ es ++ fs) ≡ dropped_entries i fs) [ true ↦ λ l. none_left i es fs l | false ↦ λ l. cc ] h

sound_dropped : (i : ℕ) (front back : Entries) (p : Part) → Sound front back p → Sound (dropped_entries i front) back p
sound_dropped i front back p s = record { merge_is = s.merge_is; chained = s.chained; joins = all_dropped (λ (e : ℕ × Part). CanMerge e.1 p) i front s.joins }

pub still_sound : (late : Bool) (i : ℕ) (front back : Entries) (p : Part) → IsSound late front back p → IsSound late (dropped_entries i front) back p
still_sound true i front back p h = (ap (dropped_entries i) h.0, h.1)
still_sound false i front back p h = sound_dropped i front back p h

-- some of the front stay
pub seen_some : (i : ℕ) (front back : Entries) (p : Part) → 0 < length (dropped_entries i front) → queue_entries (dropped_entries i front) back p ≡ dropped_entries i (queue_entries front back p)
seen_some i front back p h =
    let long : length (followed_entries p (dropped_entries i front)) ≡ length (dropped_entries i front) = length-map (dropped_entries i front) (λ (e : ℕ × Part). (e.0, merge e.1 p)) in
    ap (λ l. l ++ suffixes back) (sym (dropped_followed i p front))
    ∙ sym (some_left i (followed_entries p front) (suffixes back) (subst (λ l. 0 < length l) (sym (dropped_followed i p front)) (omega (arith, h, long))))

-- none does
pub seen_none : (i : ℕ) (front back : Entries) (p : Part) → dropped_entries i front ≡ [] → suffixes (dropped_entries i back) ≡ dropped_entries i (queue_entries front back p)
seen_none i front back p h = sym (dropped_suffixes i back) ∙ sym (none_left i (followed_entries p front) (suffixes back) (dropped_followed i p front ∙ ap (followed_entries p) h))

-- the back is the front now
pub seen_turned_all : (new old es : Entries) (p : Part) → new ≡ es → old ≡ [] → p ≡ no_part → queue_entries new old p ≡ es
seen_turned_all new old es p n o e = (λ i. queue_entries (n i) (o i) (e i)) ∙ seen_turned es

pub sound_turned_all : (new old : Entries) (p : Part) → old ≡ [] → p ≡ no_part → Sound new old p
sound_turned_all new old p o e = subst₂ (Sound new) (sym o) (sym e) (sound_turned new)
