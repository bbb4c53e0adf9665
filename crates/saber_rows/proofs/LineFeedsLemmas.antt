-- Lines from their front.
use Rattle.std.proofs.Common.{◌≡◌, ℕ, suc, ◌+◌, ◌<◌, ◌≤◌, List, [], ◌∷◌, ◌++◌, length, take, drop, get_or, true, false, cond, ◌==◌, refl, ◌∙◌, ap, drop-cons, add-one}
use Rattle.std.proofs.Math.Seq.{take-suc}
use Rattle.std.proofs.lemmas.List.{take_all, drop_all}
use Rattle.saber_plan.specs.Rows.{Line, lines_of, onto_line}
use Rattle.saber_rows.specs.LineFeeds.{onto_lines, HasNoFeed, IsLine}

onto_lines-append : (xs : List ℕ) (b : ℕ) (ls : List Line) → onto_lines (xs ++ b ∷ []) ls ≡ onto_lines xs (onto_line b ls)
onto_lines-append [] b ls = refl
onto_lines-append (x ∷ xs) b ls = ap (onto_line x) (onto_lines-append xs b ls)

onto_lines-empty : (xs : List ℕ) (ls : List Line) → onto_lines xs (record { content = []; whole = true } ∷ ls) ≡ record { content = xs; whole = true } ∷ ls
onto_lines-empty [] ls = refl
onto_lines-empty (x ∷ xs) ls = ap (onto_line x) (onto_lines-empty xs ls)

pub no_feed : (b : ℕ) (bs : List ℕ) → (b == 10) ≡ false → lines_of (b ∷ bs) ≡ onto_line b (lines_of bs)
unfolding lines_of
no_feed b bs e = ap (λ c. cond c (record { content = []; whole = true } ∷ lines_of bs) (onto_line b (lines_of bs))) e

a_feed : (b : ℕ) (bs : List ℕ) → (b == 10) ≡ true → lines_of (b ∷ bs) ≡ record { content = []; whole = true } ∷ lines_of bs
unfolding lines_of
a_feed b bs e = ap (λ c. cond c (record { content = []; whole = true } ∷ lines_of bs) (onto_line b (lines_of bs))) e

-- the first i bytes have no line feed
abbrev pub Scanned : List ℕ → ℕ → Type 0
Scanned held i = (z : List ℕ) → lines_of (held ++ z) ≡ onto_lines (take i held) (lines_of (drop i held ++ z))

pub scanned_none : (held : List ℕ) → Scanned held 0
scanned_none held z = refl

pub scanned_more : (held : List ℕ) (i : ℕ) → i < length held → (get_or held i 0 == 10) ≡ false → Scanned held i → Scanned held (i + 1)
scanned_more held i h e s z = s z ∙ rw (add-one, drop-cons held i 0 h, no_feed _ (drop (suc i) held ++ z) e, take-suc held i 0 h, onto_lines-append) refl

pub scanned_line : (held : List ℕ) (i : ℕ) → i < length held → (get_or held i 0 == 10) ≡ true → Scanned held i → IsLine held i
scanned_line held i h e s z = s z ∙ rw (add-one, drop-cons held i 0 h, a_feed _ (drop (suc i) held ++ z) e, onto_lines-empty) refl

pub scanned_all : (held : List ℕ) (i : ℕ) → length held ≤ i → Scanned held i → HasNoFeed held
scanned_all held i h s z = s z ∙ rw (take_all i held h, drop_all i held h) refl

pub ruleset feed_steps = (scanned_none, scanned_more, scanned_line, scanned_all)
