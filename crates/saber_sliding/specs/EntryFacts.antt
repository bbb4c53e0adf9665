-- Facts on what windows have of entries. Any proof may cite them.
use Rattle.std.proofs.Common.{◌≡◌, ℕ, ◌≤◌, ◌<◌, [], ◌∷◌, Bool, true, false, cond, nat_lt, nat_le, Some, None, inl, inr, refl, sym, ◌∙◌, ap, subst, arith}
use Rattle.std.specs.List.{AllByRecursion}
use Rattle.std.proofs.lemmas.Bool.{lt-ltb, le-ltb}
use Rattle.std.proofs.lemmas.Bool.Decides.{nat_tests}
use Rattle.saber_plan.specs.Parts.{Part, no_part, merge}
use Rattle.saber_plan.specs.Facts.Parts.{merge-empty_left}
use Rattle.saber_sliding.specs.Entries.{Entries, whole, followed_entries, pushed_entries, dropped_entries, first_number, last_number, part_at, Put}

-- ---- facts on each entry

pub all_map : (P Q : ℕ × Part → Type 0) (es : Entries) → ((e : ℕ × Part) → P e → Q e) → AllByRecursion P es → AllByRecursion Q es
all_map P Q [] f h = tt
all_map P Q (e ∷ es) f h = (f e h.0, all_map P Q es f h.1)

dropped_case : (P : ℕ × Part → Type 0) (i : ℕ) (b : Bool) (e : ℕ × Part) (es : Entries) → AllByRecursion P (dropped_entries i es)
    → AllByRecursion P (e ∷ es) → AllByRecursion P (cond b (dropped_entries i es) (e ∷ es))
dropped_case P i true e es rest h = rest
dropped_case P i false e es rest h = h

pub all_dropped : (P : ℕ × Part → Type 0) (i : ℕ) (es : Entries) → AllByRecursion P es → AllByRecursion P (dropped_entries i es)
all_dropped P i [] h = tt
all_dropped P i (e ∷ es) h = dropped_case P i (nat_le e.0 i) e es (all_dropped P i es h.1) h

pub all_pushed : (P Q : ℕ × Part → Type 0) (es : Entries) (n : ℕ) (p : Part) → ((e : ℕ × Part) → P e → Q (e.0, merge e.1 p))
    → Q (n, p) → AllByRecursion P es → AllByRecursion Q (pushed_entries es n p)
all_pushed P Q [] n p f g h = (g, tt)
all_pushed P Q (e ∷ es) n p f g h = (f e h.0, all_pushed P Q es n p f g h.1)

all_followed : (P Q : ℕ × Part → Type 0) (es : Entries) (p : Part) → ((e : ℕ × Part) → P e → Q (e.0, merge e.1 p)) → AllByRecursion P es → AllByRecursion Q (followed_entries p es)
all_followed P Q [] p f h = tt
all_followed P Q (e ∷ es) p f h = (f e h.0, all_followed P Q es p f h.1)

pub all_put : (P Q : ℕ × Part → Type 0) (es : Entries) (n : ℕ) (p : Part) (fs : Entries) → ((e : ℕ × Part) → P e → Q (e.0, merge e.1 p))
    → Q (n, p) → Put es n p fs → AllByRecursion P es → AllByRecursion Q fs
all_put P Q es n p fs f g (inl e) h = subst (AllByRecursion Q) (sym e) (all_pushed P Q es n p f g h)
all_put P Q es n p fs f g (inr e) h = subst (AllByRecursion Q) (sym e.1) (all_followed P Q es p f h)

-- ---- what windows have

-- the first entries are of no window from i on
at_dropped : (i j n : ℕ) (p : Part) (es : Entries) (b : Bool) → nat_le n i ≡ b → i ≤ j → part_at (dropped_entries i es) j ≡ part_at es j
    → part_at (cond b (dropped_entries i es) ((n, p) ∷ es)) j ≡ cond (nat_lt j n) p (part_at es j)
at_dropped i j n p es true e h rest =
    let past : nat_lt j n ≡ false = grind (arith, nat_tests) in
    rest ∙ ap (λ b. cond b p (part_at es j)) (sym past)
at_dropped i j n p es false e h rest = refl

pub part_at-dropped : (i j : ℕ) (es : Entries) → i ≤ j → part_at (dropped_entries i es) j ≡ part_at es j
part_at-dropped i j [] h = refl
part_at-dropped i j (e ∷ es) h = at_dropped i j e.0 e.1 es (nat_le e.0 i) refl h (part_at-dropped i j es h)

whole_case : (i n : ℕ) (p : Part) (es : Entries) (b : Bool) → nat_le n i ≡ b → whole (dropped_entries i es) ≡ part_at es i
    → whole (cond b (dropped_entries i es) ((n, p) ∷ es)) ≡ cond (nat_lt i n) p (part_at es i)
whole_case i n p es true e rest =
    let past : nat_lt i n ≡ false = grind (arith, nat_tests) in
    rest ∙ ap (λ b. cond b p (part_at es i)) (sym past)
whole_case i n p es false e rest =
    let there : nat_lt i n ≡ true = grind (arith, nat_tests) in
    ap (λ b. cond b p (part_at es i)) (sym there)

-- once those of no window from i on are gone, the whole is what window i has
pub whole-dropped : (i : ℕ) (es : Entries) → whole (dropped_entries i es) ≡ part_at es i
whole-dropped i [] = refl
whole-dropped i (e ∷ es) = whole_case i e.0 e.1 es (nat_le e.0 i) refl (whole-dropped i es)

at_pushed : (b : Bool) (a p x y : Part) → x ≡ merge y p → cond b (merge a p) x ≡ merge (cond b a y) p
at_pushed true a p x y e = refl
at_pushed false a p x y e = e

-- a window that has the new entry has it behind what it had
pub part_at-pushed : (es : Entries) (n : ℕ) (p : Part) (i : ℕ) → i < n → part_at (pushed_entries es n p) i ≡ merge (part_at es i) p
part_at-pushed [] n p i h = ap (λ b. cond b p no_part) (lt-ltb i n h) ∙ sym (merge-empty_left p)
part_at-pushed (e ∷ es) n p i h = at_pushed (nat_lt i e.0) e.1 p (part_at (pushed_entries es n p) i) (part_at es i) (part_at-pushed es n p i h)

-- and so has one that has the last entry, where it goes into that
part_at-followed : (es : Entries) (n : ℕ) (p : Part) (i : ℕ) → last_number es ≡ Some n → i < n → part_at (followed_entries p es) i ≡ merge (part_at es i) p
part_at-followed [] n p i e h = absurd (let f : None ≡ Some n = e in cc)
part_at-followed (d ∷ []) n p i e h =
    let last : d.0 ≡ n = cc in
    let there : nat_lt i d.0 ≡ true = lt-ltb i d.0 (subst (λ k. i < k) (sym last) h) in
    ap (λ b. cond b (merge d.1 p) no_part) there ∙ ap (λ b. merge (cond b d.1 no_part) p) (sym there)
part_at-followed (d ∷ f ∷ es) n p i e h = at_pushed (nat_lt i d.0) d.1 p (part_at (followed_entries p (f ∷ es)) i) (part_at (f ∷ es) i) (part_at-followed (f ∷ es) n p i e h)

pub part_at-put : (es : Entries) (n : ℕ) (p : Part) (fs : Entries) (i : ℕ) → Put es n p fs → i < n → part_at fs i ≡ merge (part_at es i) p
part_at-put es n p fs i (inl e) h = ap (λ l. part_at l i) e ∙ part_at-pushed es n p i h
part_at-put es n p fs i (inr e) h = ap (λ l. part_at l i) e.1 ∙ part_at-followed es n p i e.0 h

-- a window behind all of them has none
pub part_at-behind : (es : Entries) (i : ℕ) → AllByRecursion (λ (e : ℕ × Part). e.0 ≤ i) es → part_at es i ≡ no_part
part_at-behind [] i h = refl
part_at-behind (e ∷ es) i h = ap (λ b. cond b e.1 (part_at es i)) (le-ltb i e.0 h.0) ∙ part_at-behind es i h.1

pub nothing_first : (es : Entries) → first_number es ≡ None → es ≡ []
nothing_first [] e = refl
nothing_first (d ∷ es) e = absurd (some_none d.0 e) where
  some_none : (n : ℕ) → Some n ≡ None → ⊥
  some_none n e = cc
