-- Entries as their numbers and their parts, side by side: as one more comes, and as some go.
use Rattle.std.proofs.Common.{◌≡◌, ℕ, zero, suc, ◌-◌, ◌≤◌, ◌<◌, ◌==◌, Bool, true, false, cond, nat_le, List, [], ◌∷◌, ◌++◌, length, drop, get_or, Some, None, refl, sym, ◌∙◌, ap, subst, arith}
use Rattle.std.proofs.Math.ListN.{set}
use Rattle.std.proofs.lemmas.Bool.{false≢true}
use Rattle.std.proofs.lemmas.Bool.Decides.{nat_tests}
use Rattle.std.specs.List.{slice_get, AllByRecursion}
use Rattle.saber_plan.specs.Parts.{Part, no_part, merge}
use Rattle.saber_plan.specs.Facts.Parts.{merge-empty_left, merge-empty_right}
use Rattle.saber_partial.specs.MergeFacts.{can_over}
use Rattle.saber_partial.specs.Ones.{AreKeyless, IsOne}
use Rattle.saber_partial.specs.Piles.{piled_part, CanPile}
use Rattle.saber_partial.specs.Tallies.{CanMerge}
use Rattle.saber_partial.proofs.OneParts.{keyless_behind, merge_is_one, one_not_none}
use Rattle.saber_sliding.specs.Entries.{Entries, dropped_entries, first_number, joined_entries, last_number, merged_part, suffixes, whole, CanFollow, Chained}
use Rattle.saber_sliding.specs.EntryFacts.{nothing_first}
use Rattle.saber_sliding.specs.Stacks.{entry_at, gone_by, parts_of, side_by_side, sums}

-- ---- as many numbers as parts

pub side_length : (ns : List ℕ) (ps : List Part) → length ns ≡ length ps → length (side_by_side ns ps) ≡ length ns
side_length [] ps e = refl
side_length (n ∷ ns) [] e = absurd (omega (arith, e))
side_length (n ∷ ns) (p ∷ ps) e = ap suc (side_length ns ps (omega (arith, e)))

pub side_parts : (ns : List ℕ) (ps : List Part) → length ns ≡ length ps → parts_of (side_by_side ns ps) ≡ ps
side_parts [] [] e = refl
side_parts [] (p ∷ ps) e = absurd (omega (arith, e))
side_parts (n ∷ ns) [] e = absurd (omega (arith, e))
side_parts (n ∷ ns) (p ∷ ps) e = ap (λ l. p ∷ l) (side_parts ns ps (omega (arith, e)))

pub side_entry : (ns : List ℕ) (ps : List Part) (i : ℕ) → length ns ≡ length ps → entry_at (side_by_side ns ps) i ≡ (get_or ns i 0, get_or ps i no_part)
side_entry [] [] i e = refl
side_entry [] (p ∷ ps) i e = absurd (omega (arith, e))
side_entry (n ∷ ns) [] i e = absurd (omega (arith, e))
side_entry (n ∷ ns) (p ∷ ps) zero e = refl
side_entry (n ∷ ns) (p ∷ ps) (suc i) e = side_entry ns ps i (omega (arith, e))

pub seen_length : (ns : List ℕ) (ps : List Part) (es : Entries) → length ns ≡ length ps → side_by_side ns ps ≡ es → length ns ≡ length es
seen_length ns ps es e h = sym (side_length ns ps e) ∙ ap (λ (l : Entries). length l) h

pub seen_entry : (ns : List ℕ) (ps : List Part) (es : Entries) (i : ℕ) → length ns ≡ length ps → side_by_side ns ps ≡ es → (get_or ns i 0, get_or ps i no_part) ≡ entry_at es i
seen_entry ns ps es i e h = sym (side_entry ns ps i e) ∙ ap (λ (l : Entries). entry_at l i) h

pub at_any : (ns : List ℕ) (i d : ℕ) → i < length ns → get_or ns i d ≡ get_or ns i 0
at_any [] i d h = absurd (omega (arith, h))
at_any (n ∷ ns) zero d h = refl
at_any (n ∷ ns) (suc i) d h = at_any ns i d (omega (arith, h))

pub some_left : (n : ℕ) → (n == 0) ≡ false → 1 ≤ n
some_left zero e = absurd (false≢true (sym e))
some_left (suc n) e = omega arith

-- ---- one more, and fewer

pub side_push : (ns : List ℕ) (ps : List Part) (n : ℕ) (p : Part) → length ns ≡ length ps → side_by_side (ns ++ n ∷ []) (ps ++ p ∷ []) ≡ side_by_side ns ps ++ (n, p) ∷ []
side_push [] [] n p e = refl
side_push [] (q ∷ ps) n p e = absurd (omega (arith, e))
side_push (m ∷ ns) [] n p e = absurd (omega (arith, e))
side_push (m ∷ ns) (q ∷ ps) n p e = ap (λ l. (m, q) ∷ l) (side_push ns ps n p (omega (arith, e)))

pub side_drop : (g : ℕ) (ns : List ℕ) (ps : List Part) → length ns ≡ length ps → side_by_side (drop g ns) (drop g ps) ≡ drop g (side_by_side ns ps)
side_drop zero ns ps e = refl
side_drop (suc g) [] ps e = refl
side_drop (suc g) (n ∷ ns) [] e = absurd (omega (arith, e))
side_drop (suc g) (n ∷ ns) (p ∷ ps) e = side_drop g ns ps (omega (arith, e))

dropped_by : (i n : ℕ) (p : Part) (ns : List ℕ) (ps : List Part) (b : Bool) → drop (gone_by i ns) (side_by_side ns ps) ≡ dropped_entries i (side_by_side ns ps)
    → drop (cond b (suc (gone_by i ns)) 0) ((n, p) ∷ side_by_side ns ps) ≡ cond b (dropped_entries i (side_by_side ns ps)) ((n, p) ∷ side_by_side ns ps)
dropped_by i n p ns ps true e = e
dropped_by i n p ns ps false e = refl

pub side_dropped : (i : ℕ) (ns : List ℕ) (ps : List Part) → length ns ≡ length ps → drop (gone_by i ns) (side_by_side ns ps) ≡ dropped_entries i (side_by_side ns ps)
side_dropped i [] ps e = refl
side_dropped i (n ∷ ns) [] e = absurd (omega (arith, e))
side_dropped i (n ∷ ns) (p ∷ ps) e = dropped_by i n p ns ps (nat_le n i) (side_dropped i ns ps (omega (arith, e)))

within_by : (i : ℕ) (ns : List ℕ) (b : Bool) → gone_by i ns ≤ length ns → cond b (suc (gone_by i ns)) 0 ≤ suc (length ns)
within_by i ns true h = omega (arith, h)
within_by i ns false h = omega arith

pub gone_within : (i : ℕ) (ns : List ℕ) → gone_by i ns ≤ length ns
gone_within i [] = omega arith
gone_within i (n ∷ ns) = within_by i ns (nat_le n i) (gone_within i ns)

pub gone_none : (i g : ℕ) (ns : List ℕ) → g < length ns → i < get_or ns g 0 → gone_by i (drop g ns) ≡ 0
gone_none i g [] h l = absurd (omega (arith, h))
gone_none i zero (n ∷ ns) h l = let stays : nat_le n i ≡ false = grind (arith, nat_tests) in ap (λ b. cond b (suc (gone_by i ns)) 0) stays
gone_none i (suc g) (n ∷ ns) h l = gone_none i g ns (omega (arith, h)) l

more_at : (i g : ℕ) (ns : List ℕ) → g < length ns → get_or ns g 0 ≤ i → gone_by i (drop g ns) ≡ suc (gone_by i (drop (suc g) ns))
more_at i g [] h l = absurd (omega (arith, h))
more_at i zero (n ∷ ns) h l = let goes : nat_le n i ≡ true = grind (arith, nat_tests) in ap (λ b. cond b (suc (gone_by i ns)) 0) goes
more_at i (suc g) (n ∷ ns) h l = more_at i g ns (omega (arith, h)) l

pub gone_more : (i g k : ℕ) (ns : List ℕ) → k ≡ suc g → g < length ns → get_or ns g 0 ≤ i → gone_by i (drop g ns) ≡ suc (gone_by i (drop k ns))
gone_more i g k ns e h l = more_at i g ns h l ∙ ap (λ n. suc (gone_by i (drop n ns))) (sym e)

pub gone_end : (i g : ℕ) (ns : List ℕ) → length ns ≤ g → gone_by i (drop g ns) ≡ 0
gone_end i zero [] h = refl
gone_end i (suc g) [] h = refl
gone_end i zero (n ∷ ns) h = absurd (omega (arith, h))
gone_end i (suc g) (n ∷ ns) h = gone_end i g ns (omega (arith, h))

-- ---- a part into the last one

pub side_joined : (ns : List ℕ) (ps : List Part) (i : ℕ) (p : Part) → length ns ≡ length ps → length ns ≡ suc i
    → side_by_side ns (set ps i (merge (get_or ps i no_part) p)) ≡ joined_entries p (side_by_side ns ps)
side_joined [] ps i p e h = absurd (omega (arith, h))
side_joined (n ∷ ns) [] i p e h = absurd (omega (arith, e))
side_joined (n ∷ []) (q ∷ []) zero p e h = refl
side_joined (n ∷ []) (q ∷ []) (suc i) p e h = absurd (omega (arith, h))
side_joined (n ∷ []) (q ∷ r ∷ ps) i p e h = absurd (omega (arith, e))
side_joined (n ∷ m ∷ ns) (q ∷ []) i p e h = absurd (omega (arith, e))
side_joined (n ∷ m ∷ ns) (q ∷ r ∷ ps) zero p e h = absurd (omega (arith, h))
side_joined (n ∷ m ∷ ns) (q ∷ r ∷ ps) (suc i) p e h = ap (λ l. (n, q) ∷ l) (side_joined (m ∷ ns) (r ∷ ps) i p (omega (arith, e)) (omega (arith, h)))

pub side_can : (ns : List ℕ) (ps : List Part) (i : ℕ) (p : Part) → length ns ≡ length ps → length ns ≡ suc i → CanFollow p (suffixes (side_by_side ns ps)) → CanMerge (get_or ps i no_part) p
side_can [] ps i p e h g = absurd (omega (arith, h))
side_can (n ∷ ns) [] i p e h g = absurd (omega (arith, e))
side_can (n ∷ []) (q ∷ []) zero p e h g = subst (λ m. CanMerge m p) (merge-empty_right q) g.0
side_can (n ∷ []) (q ∷ []) (suc i) p e h g = absurd (omega (arith, h))
side_can (n ∷ []) (q ∷ r ∷ ps) i p e h g = absurd (omega (arith, e))
side_can (n ∷ m ∷ ns) (q ∷ []) i p e h g = absurd (omega (arith, e))
side_can (n ∷ m ∷ ns) (q ∷ r ∷ ps) zero p e h g = absurd (omega (arith, h))
side_can (n ∷ m ∷ ns) (q ∷ r ∷ ps) (suc i) p e h g = side_can (m ∷ ns) (r ∷ ps) i p (omega (arith, e)) (omega (arith, h)) g.1

pub side_last : (ns : List ℕ) (ps : List Part) (i d : ℕ) → length ns ≡ length ps → length ns ≡ suc i → Some d ≡ slice_get ns i → last_number (side_by_side ns ps) ≡ Some d
side_last [] ps i d e h s = absurd (omega (arith, h))
side_last (n ∷ ns) [] i d e h s = absurd (omega (arith, e))
side_last (n ∷ []) (q ∷ []) zero d e h s = sym s
side_last (n ∷ []) (q ∷ []) (suc i) d e h s = absurd (omega (arith, h))
side_last (n ∷ []) (q ∷ r ∷ ps) i d e h s = absurd (omega (arith, e))
side_last (n ∷ m ∷ ns) (q ∷ []) i d e h s = absurd (omega (arith, e))
side_last (n ∷ m ∷ ns) (q ∷ r ∷ ps) zero d e h s = absurd (omega (arith, h))
side_last (n ∷ m ∷ ns) (q ∷ r ∷ ps) (suc i) d e h s = side_last (m ∷ ns) (r ∷ ps) i d (omega (arith, e)) (omega (arith, h)) s

pub length-joined : (p : Part) (es : Entries) → length (joined_entries p es) ≡ length es
length-joined p [] = refl
length-joined p (e ∷ []) = refl
length-joined p (e ∷ f ∷ es) = ap suc (length-joined p (f ∷ es))

-- ---- what may come behind each with those behind it, may come behind each alone

pub alike_behind : (p : Part) (es : Entries) → Chained es → CanFollow p (suffixes es) → AllByRecursion (λ (q : Part). CanMerge q p) (parts_of es)
alike_behind p [] g h = tt
alike_behind p (e ∷ es) g h = (can_over e.1 (merged_part es) p g.0 h.0, alike_behind p es g.1 h.1)

-- ---- the first of those behind others that are gone

pub drop_at : (es : Entries) (g : ℕ) → g < length es → drop g es ≡ entry_at es g ∷ drop (suc g) es
drop_at [] g h = absurd (omega (arith, h))
drop_at (e ∷ es) zero h = refl
drop_at (e ∷ es) (suc g) h = drop_at es g (omega (arith, h))

pub drop_past : (es : Entries) (g : ℕ) → length es ≤ g → drop g es ≡ []
drop_past [] zero h = refl
drop_past [] (suc g) h = refl
drop_past (e ∷ es) zero h = absurd (omega (arith, h))
drop_past (e ∷ es) (suc g) h = drop_past es g (omega (arith, h))

drop_more : (es : Entries) (g : ℕ) → drop (suc g) es ≡ drop 1 (drop g es)
drop_more [] zero = refl
drop_more [] (suc g) = refl
drop_more (e ∷ es) zero = refl
drop_more (e ∷ es) (suc g) = drop_more es g

pub drop_next : (es : Entries) (g k : ℕ) → k ≡ suc g → drop k es ≡ drop 1 (drop g es)
drop_next es g k e = ap (λ n. drop n es) e ∙ drop_more es g

-- ---- the first entry of those that are there

pub first_there : (es : Entries) (n : ℕ) → Some n ≡ first_number es → 1 ≤ length es
first_there [] n e = absurd (let f : Some n ≡ None = e in cc)
first_there (d ∷ es) n e = omega arith

same_number : (n m : ℕ) → Some n ≡ Some m → n ≡ m
same_number n m e = cc

goes_by : (i : ℕ) (e : ℕ × Part) (es : Entries) (b : Bool) → b ≡ true → dropped_entries i es ≡ cond b (dropped_entries i es) (e ∷ es)
goes_by i e es true h = refl
goes_by i e es false h = absurd (let f : false ≡ true = h in cc)

-- it goes with those that do
pub first_goes : (i n : ℕ) (es fs gs : Entries) → Some n ≡ first_number es → n ≤ i → gs ≡ drop 1 es → dropped_entries i es ≡ dropped_entries i fs → dropped_entries i gs ≡ dropped_entries i fs
first_goes i n [] fs gs e h g same = absurd (let f : Some n ≡ None = e in cc)
first_goes i n (d ∷ es) fs gs e h g same =
    let goes : nat_le n i ≡ true = grind (arith, nat_tests) in
    ap (dropped_entries i) g ∙ goes_by i d es (nat_le d.0 i) (ap (λ m. nat_le m i) (sym (same_number n d.0 e)) ∙ goes) ∙ same

stays_by : (i : ℕ) (e : ℕ × Part) (es : Entries) (b : Bool) → b ≡ false → e ∷ es ≡ cond b (dropped_entries i es) (e ∷ es)
stays_by i e es true h = absurd (let f : true ≡ false = h in cc)
stays_by i e es false h = refl

-- or all stay
pub first_stays : (i n : ℕ) (es fs : Entries) → Some n ≡ first_number es → i < n → dropped_entries i es ≡ dropped_entries i fs → es ≡ dropped_entries i fs
first_stays i n [] fs e h same = same
first_stays i n (d ∷ es) fs e h same =
    let stays : nat_le n i ≡ false = grind (arith, nat_tests) in
    stays_by i d es (nat_le d.0 i) (ap (λ m. nat_le m i) (sym (same_number n d.0 e)) ∙ stays) ∙ same

pub none_stays : (i : ℕ) (es fs : Entries) → None ≡ first_number es → dropped_entries i es ≡ dropped_entries i fs → es ≡ dropped_entries i fs
none_stays i es fs e same = let none = nothing_first es (sym e) in none ∙ ap (dropped_entries i) (sym none) ∙ same

pub shorter : (es fs : Entries) → 1 ≤ length es → fs ≡ drop 1 es → length fs < length es
shorter [] fs h e = absurd (omega (arith, h))
shorter (d ∷ es) fs h e = let same = ap (λ (l : Entries). length l) e in omega (arith, same)

-- ---- summing up

pub side_merged : (ns : List ℕ) (ps : List Part) → length ns ≡ length ps → merged_part (side_by_side ns ps) ≡ piled_part ps
side_merged [] [] e = refl
side_merged [] (p ∷ ps) e = absurd (omega (arith, e))
side_merged (n ∷ ns) [] e = absurd (omega (arith, e))
side_merged (n ∷ ns) (p ∷ ps) e = ap (merge p) (side_merged ns ps (omega (arith, e)))

pub side_chained : (ns : List ℕ) (ps : List Part) → length ns ≡ length ps → Chained (side_by_side ns ps) → CanPile ps
side_chained [] [] e h = tt
side_chained [] (p ∷ ps) e h = absurd (omega (arith, e))
side_chained (n ∷ ns) [] e h = absurd (omega (arith, e))
side_chained (n ∷ ns) (p ∷ ps) e h = (subst (CanMerge p) (side_merged ns ps (omega (arith, e))) h.0, side_chained ns ps (omega (arith, e)) h.1)

pub side_sums : (ns : List ℕ) (ps : List Part) → length ns ≡ length ps → side_by_side ns (sums ps) ≡ suffixes (side_by_side ns ps)
side_sums [] ps e = refl
side_sums (n ∷ ns) [] e = absurd (omega (arith, e))
side_sums (n ∷ ns) (p ∷ ps) e = λ i. (n, merge p (sym (side_merged ns ps (omega (arith, e))) i)) ∷ side_sums ns ps (omega (arith, e)) i

pub length-sums : (ps : List Part) → length (sums ps) ≡ length ps
length-sums [] = refl
length-sums (p ∷ ps) = ap suc (length-sums ps)

-- the first i parts by themselves, and the others with those behind them
abbrev pub sums_from : ℕ → List Part → List Part
sums_from zero ps = sums ps
sums_from (suc i) [] = []
sums_from (suc i) (p ∷ ps) = p ∷ sums_from i ps

pub length-sums_from : (i : ℕ) (ps : List Part) → length (sums_from i ps) ≡ length ps
length-sums_from zero ps = length-sums ps
length-sums_from (suc i) [] = refl
length-sums_from (suc i) (p ∷ ps) = ap suc (length-sums_from i ps)

sums_last : (n : ℕ) (ps : List Part) → length ps ≡ suc n → ps ≡ sums_from n ps
sums_last n [] e = absurd (omega (arith, e))
sums_last zero (p ∷ []) e = λ i. sym (merge-empty_right p) i ∷ []
sums_last zero (p ∷ q ∷ ps) e = absurd (omega (arith, e))
sums_last (suc n) (p ∷ ps) e = ap (λ l. p ∷ l) (sums_last n ps (omega (arith, e)))

-- the last has none behind it
pub sums_begin : (n : ℕ) (ps : List Part) → n ≡ length ps - 1 → ps ≡ sums_from n ps
sums_begin zero [] e = refl
sums_begin (suc n) [] e = refl
sums_begin n (p ∷ ps) e = sums_last n (p ∷ ps) (omega (arith, e))

sums_can : (j : ℕ) (ps : List Part) → suc j < length ps → CanPile ps → CanMerge (get_or (sums_from (suc j) ps) j no_part) (get_or (sums_from (suc j) ps) (suc j) no_part)
sums_can j [] h g = absurd (omega (arith, h))
sums_can zero (p ∷ []) h g = absurd (omega (arith, h))
sums_can zero (p ∷ q ∷ ps) h g = g.0
sums_can (suc j) (p ∷ ps) h g = sums_can j ps (omega (arith, h)) g.1

sums_more : (j : ℕ) (ps : List Part) → suc j < length ps
    → set (sums_from (suc j) ps) j (merge (get_or (sums_from (suc j) ps) j no_part) (get_or (sums_from (suc j) ps) (suc j) no_part)) ≡ sums_from j ps
sums_more j [] h = absurd (omega (arith, h))
sums_more zero (p ∷ []) h = absurd (omega (arith, h))
sums_more zero (p ∷ q ∷ ps) h = refl
sums_more (suc j) (p ∷ ps) h = ap (λ l. p ∷ l) (sums_more j ps (omega (arith, h)))

pub next_can : (j k m : ℕ) (all es : List Part) → k ≡ suc j → m ≡ suc j → suc j < length all → es ≡ sums_from k all → CanPile all → CanMerge (get_or es j no_part) (get_or es m no_part)
next_can j k m all es a b h e g =
    subst (λ n. CanMerge (get_or es j no_part) (get_or es n no_part)) (sym b)
    (subst (λ l. CanMerge (get_or l j no_part) (get_or l (suc j) no_part)) (sym (e ∙ ap (λ n. sums_from n all) a)) (sums_can j all h g))

pub next_more : (j k m : ℕ) (all es fs : List Part) → k ≡ suc j → m ≡ suc j → suc j < length all → es ≡ sums_from k all
    → fs ≡ set es j (merge (get_or es j no_part) (get_or es m no_part)) → fs ≡ sums_from j all
next_more j k m all es fs a b h e f =
    f ∙ ap (λ n. set es j (merge (get_or es j no_part) (get_or es n no_part))) b
    ∙ ap (λ l. set l j (merge (get_or l j no_part) (get_or l (suc j) no_part))) (e ∙ ap (λ n. sums_from n all) a) ∙ sums_more j all h

-- ---- the merge of all, in one part at most

pub piled_none : (ps : List Part) → length ps ≡ 0 → piled_part ps ≡ no_part
piled_none [] h = refl
piled_none (p ∷ ps) h = absurd (omega (arith, h))

pub piled_is : (ps : List Part) → length ps ≤ 1 → piled_part ps ≡ get_or ps 0 no_part
piled_is [] h = refl
piled_is (p ∷ []) h = merge-empty_right p
piled_is (p ∷ q ∷ ps) h = absurd (omega (arith, h))

pub none_alike : (ps : List Part) (p : Part) → length ps ≡ 0 → AllByRecursion (λ (q : Part). CanMerge q p) ps
none_alike [] p h = tt
none_alike (q ∷ ps) p h = absurd (omega (arith, h))

pub piled_first : (ps : List Part) (p : Part) → length ps ≡ 0 → piled_part (ps ++ p ∷ []) ≡ merge (piled_part ps) p
piled_first [] p h = merge-empty_right p ∙ sym (merge-empty_left p)
piled_first (q ∷ ps) p h = absurd (omega (arith, h))

pub piled_more : (ps : List Part) (p : Part) → 0 < length ps → length ps ≤ 1 → piled_part (set ps 0 (merge (get_or ps 0 no_part) p)) ≡ merge (piled_part ps) p
piled_more [] p h l = absurd (omega (arith, h))
piled_more (q ∷ []) p h l = merge-empty_right (merge q p) ∙ ap (λ m. merge m p) (sym (merge-empty_right q))
piled_more (q ∷ r ∷ ps) p h l = absurd (omega (arith, l))

pub piled_can : (ps : List Part) (p : Part) → length ps ≤ 1 → CanMerge (piled_part ps) p → CanMerge (get_or ps 0 no_part) p
piled_can ps p h g = subst (λ m. CanMerge m p) (piled_is ps h) g

-- ---- parts of one group

pub ones_piled : (p : Part) (ps : List Part) → IsOne p → AllByRecursion IsOne ps → IsOne (merge p (piled_part ps))
ones_piled p [] h g = subst IsOne (sym (merge-empty_right p)) h
ones_piled p (q ∷ ps) h g = merge_is_one p (merge q (piled_part ps)) h (ones_piled q ps g.0 g.1)

-- the first of them with those behind it
pub one_first : (ns : List ℕ) (ps : List Part) → length ns ≡ length ps → 1 ≤ length ns → AllByRecursion IsOne ps → IsOne (whole (suffixes (side_by_side ns ps)))
one_first [] ps e h g = absurd (omega (arith, h))
one_first (n ∷ ns) [] e h g = absurd (omega (arith, e))
one_first (n ∷ ns) (p ∷ ps) e h g = subst (λ m. IsOne (merge p m)) (sym (side_merged ns ps (omega (arith, e)))) (ones_piled p ps g.0 g.1)

-- what comes behind them has no key
pub keyless_follow : (es : Entries) (p : Part) → IsOne (whole es) → CanFollow p es → AreKeyless p
keyless_follow [] p h g = absurd (one_not_none no_part h refl)
keyless_follow (e ∷ es) p h g = keyless_behind e.1 p h g.0
