-- What a tree map has counted, after one more and one less.
use Rattle.std.proofs.Common.{◌≡◌, ℕ, suc, ◌+◌, ◌-◌, ◌<◌, List, [], ◌∷◌, Bool, true, false, cond, nat_lt, Option, Some, None, option_map, unwrap_or, ℤ, Bor, refl, sym, ◌∙◌, ap, arith}
use Rattle.std.proofs.lemmas.Bool.{lt-ltb}
use Rattle.std.specs.BTreeMap.{is_at, insert_entry}
use Rattle.std.specs.Map.{lookup, set_value}
use Rattle.std.specs.FinMap.{get, insert, get-insert, get_tied}
use Rattle.saber_plan.specs.Answers.{Answers, key_cmp, same_line}
use Rattle.saber_plan.specs.Facts.Maps.{equal_if}
use Rattle.saber_plan.specs.Facts.Parts.{total, exact}
use Rattle.saber_plan.specs.Facts.Trees.{written, inserted, looked_up}
use Rattle.saber_changes.specs.Counts.{Counts, counts_of, tally, times, one_less, one_more}

abbrev pub Kept : Type 0
Kept = List (Bor (List ℤ) × ℕ)

abbrev pub finds : Kept → List ℤ → Option ℕ
finds es k = lookup (is_at (λ a. key_cmp k a.now)) es

-- ---- what is found

here : (k : List ℤ) (es : Kept) (o : Option ℕ) → finds es k ≡ o → get (counts_of es) k ≡ o
here k es o e = sym (looked_up key_cmp (λ a. a.now) (λ n. n) total exact k es) ∙ ap (option_map (λ n. n)) e ∙ whole o
  where
    whole : (o : Option ℕ) → option_map (λ n. n) o ≡ o
    whole None = refl
    whole (Some n) = refl

pub some_here : (k : List ℤ) (es : Kept) (n : ℕ) → finds es k ≡ Some n → tally (counts_of es) k ≡ n
some_here k es n e = ap (λ o. unwrap_or o 0) (here k es (Some n) e)

pub none_here : (k : List ℤ) (es : Kept) → finds es k ≡ None → tally (counts_of es) k ≡ 0
none_here k es e = ap (λ o. unwrap_or o 0) (here k es None e)

-- ---- a number at a line

put_case : (b : Bool) (w : ℕ) (o : Option ℕ) → unwrap_or (cond b (Some w) o) 0 ≡ cond b w (unwrap_or o 0)
put_case true w o = refl
put_case false w o = refl

tally_put : (m : Counts) (k : List ℤ) (w : ℕ) (q : List ℤ) → tally (insert m k w) q ≡ cond (same_line q k) w (tally m q)
tally_put m k w q = ap (λ o. unwrap_or o 0) (get-insert total m k w q) ∙ put_case (same_line q k) w (get m q)

tied : (m : Counts) (q k : List ℤ) → same_line q k ≡ true → tally m k ≡ tally m q
tied m q k e = ap (λ o. unwrap_or o 0) (get_tied total m q k (equal_if _ e))

changed : (f : ℕ → ℕ) (b : Bool) (w t : ℕ) → (b ≡ true → w ≡ f t) → cond b w t ≡ cond b (f t) t
changed f true w t h = h refl
changed f false w t h = refl

put_as : (f : ℕ → ℕ) (m : Counts) (k : List ℤ) (w : ℕ) → w ≡ f (tally m k) → (q : List ℤ) → tally (insert m k w) q ≡ cond (same_line q k) (f (tally m q)) (tally m q)
put_as f m k w e q = tally_put m k w q ∙ changed f (same_line q k) w (tally m q) (λ t. e ∙ ap f (tied m q k t))

both_same : (b : Bool) (n : ℕ) → cond b n n ≡ n
both_same true n = refl
both_same false n = refl

-- ---- in a tree map

after_write : (k : List ℤ) (es fs : Kept) (w n : ℕ) → finds es k ≡ Some n → fs ≡ set_value (is_at (λ a. key_cmp k a.now)) es w → counts_of fs ≡ insert (counts_of es) k w
after_write k es fs w n e f = ap counts_of f ∙ written key_cmp (λ a. a.now) (λ n. n) total exact k w n es e

pub more_written : (k : List ℤ) (es fs : Kept) (n : ℕ) → finds es k ≡ Some n → fs ≡ set_value (is_at (λ a. key_cmp k a.now)) es (n + 1) → (q : List ℤ) → tally (counts_of fs) q ≡ one_more (tally (counts_of es)) k q
more_written k es fs n e f q =
    let is = some_here k es n e in
    ap (λ m. tally m q) (after_write k es fs (n + 1) n e f) ∙ put_as suc (counts_of es) k (n + 1) (omega (arith, is)) q

pub less_written : (k : List ℤ) (es fs : Kept) (n : ℕ) → finds es k ≡ Some n → fs ≡ set_value (is_at (λ a. key_cmp k a.now)) es (n - 1) → (q : List ℤ) → tally (counts_of fs) q ≡ one_less (tally (counts_of es)) k q
less_written k es fs n e f q =
    let is = some_here k es n e in
    ap (λ m. tally m q) (after_write k es fs (n - 1) n e f) ∙ put_as (λ t. t - 1) (counts_of es) k (n - 1) (ap (λ t. t - 1) (sym is)) q

pub same_written : (k : List ℤ) (es fs : Kept) (n : ℕ) → finds es k ≡ Some n → fs ≡ set_value (is_at (λ a. key_cmp k a.now)) es n → (q : List ℤ) → tally (counts_of fs) q ≡ tally (counts_of es) q
same_written k es fs n e f q =
    ap (λ m. tally m q) (after_write k es fs n n e f) ∙ put_as (λ t. t) (counts_of es) k n (sym (some_here k es n e)) q ∙ both_same (same_line q k) (tally (counts_of es) q)

pub first_put : (b : Bor (List ℤ)) (es fs gs : Kept) → finds es b.now ≡ None → fs ≡ es → gs ≡ insert_entry (λ x y. key_cmp x.now y.now) fs b 1 → (q : List ℤ) → tally (counts_of gs) q ≡ one_more (tally (counts_of es)) b.now q
first_put b es fs gs e f g q =
    let is = none_here b.now es e in
    ap (λ m. tally m q) (ap counts_of g ∙ inserted key_cmp (λ a. a.now) (λ n. n) total exact b 1 fs ∙ ap (λ l. insert (counts_of l) b.now 1) f) ∙ put_as suc (counts_of es) b.now 1 (omega (arith, is)) q

-- ---- whether there is one

pub is_left : (k : List ℤ) (es : Kept) (n : ℕ) → finds es k ≡ Some n → 0 < n → true ≡ nat_lt 0 (tally (counts_of es) k)
is_left k es n e h = sym (ap (nat_lt 0) (some_here k es n e) ∙ lt-ltb 0 n h)

pub is_gone : (k : List ℤ) (es : Kept) (t : ℕ) → tally (counts_of es) k ≡ t → t ≡ 0 → false ≡ nat_lt 0 (tally (counts_of es) k)
is_gone k es t e h = sym (ap (nat_lt 0) (e ∙ h))

-- ---- all lines, from one on

more_case : (b : Bool) (n t : ℕ) → cond b (suc n) n + t ≡ n + cond b (suc t) t
more_case true n t = omega arith
more_case false n t = refl

-- one line is counted, and the rest is left
pub counted_on : (m : List ℤ → ℕ) (new : List ℤ → ℕ) (l : List ℤ) (ls : Answers) (all : ℕ) (k : List ℤ) → new k ≡ one_more m l k → m k + times k (l ∷ ls) ≡ all → new k + times k ls ≡ all
counted_on m new l ls all k e h = ap (λ n. n + times k ls) e ∙ more_case (same_line k l) (m k) (times k ls) ∙ h

pub none_counted : (k : List ℤ) (es : Kept) → es ≡ [] → tally (counts_of es) k ≡ 0
none_counted k es e = none_here k es (ap (λ l. finds l k) e)
