-- What an item that is one number of a group is worth, over its row and over two joined.
use Rattle.std.proofs.Common.{◌≡◌, ℕ, zero, suc, ◌+◌, ◌-◌, ◌≤◌, ◌<◌, List, [], ◌∷◌, length, take, drop, get_or, nat_abs, ℤ, pos, ◌+ℤ◌, refl, sym, ◌∙◌, ap, ap₂, subst₂, arith}
use Rattle.std.proofs.lemmas.List.{get_or_at, get_or_past, get_or_append_left, get_or-append-add, get_or-drop, get_or-take, length-take-le}
use Rattle.saber_plan.specs.declared.expressions.Product.{Product}
use Rattle.saber_plan.specs.declared.plans.Fold.{Fold}
use Rattle.saber_plan.specs.declared.plans.Fold.TheVariants.{Sum}
use Rattle.saber_plan.specs.Answers.{step}
use Rattle.saber_plan.specs.Checked.{lone}
use Rattle.saber_plan.specs.Values.{value}
use Rattle.saber_partial.specs.declared.layout.Layout.{Layout}
use Rattle.saber_partial.specs.Gathering.{stepped_numbers, FitsStep}
use Rattle.saber_partial.specs.Tallies.{CanJoin}
use Rattle.saber_partial.specs.Flat.{entry_in, IsLayout, IsRow}
use Rattle.saber_partial.specs.Printing.{joined_row}
use Rattle.saber_partial.proofs.Folded.{steps_fit}
use Rattle.saber_partial.proofs.Lone.{lone_value}
use Rattle.saber_partial.proofs.RowNumbers.{as_long, behind_few, behind_long, both_is_row, count_there}

-- what is one number is worth it
pub worth : (e : List Product) (k : ℕ) (zs : List ℤ) → e ≡ lone k → get_or zs k (pos 0) ≡ value e zs []
worth e k zs h = sym (ap (λ x. value x zs []) h ∙ lone_value k zs)

get_or-stepped : (fs : List Fold) (xs ys : List ℤ) (i : ℕ) → i < length xs → length xs ≤ length fs → length xs ≡ length ys
    → get_or (stepped_numbers fs xs ys) i (pos 0) ≡ step (get_or fs i Sum) (get_or xs i (pos 0)) (get_or ys i (pos 0))
get_or-stepped fs [] ys i h k e = absurd (omega (arith, h))
get_or-stepped [] (x ∷ xs) ys i h k e = absurd (omega (arith, k))
get_or-stepped (f ∷ fs) (x ∷ xs) [] i h k e = absurd (omega (arith, e))
get_or-stepped (f ∷ fs) (x ∷ xs) (y ∷ ys) zero h k e = refl
get_or-stepped (f ∷ fs) (x ∷ xs) (y ∷ ys) (suc i) h k e = get_or-stepped fs xs ys i (omega (arith, h)) (omega (arith, k)) (omega (arith, e))

module _ (l : Layout) (xs ys : List ℤ) (k : IsLayout l) (r : IsRow l xs) (s : IsRow l ys) (c : CanJoin (entry_in l xs).1 (entry_in l ys).1) where
  abbrev count : ℤ
  count = get_or xs l.keys (pos 0) +ℤ get_or ys l.keys (pos 0)

  abbrev behind : List ℤ
  behind = stepped_numbers l.folds (drop (l.keys + 1) xs) (drop (l.keys + 1) ys)

  front : length (take l.keys xs) ≡ l.keys
  front = let a = count_there l xs k r in length-take-le l.keys xs (omega (arith, a))

  pub past_both : (i : ℕ) → length xs ≤ i → pos 0 ≡ get_or (joined_row l xs ys) i (pos 0)
  past_both i h =
      let a = (both_is_row l xs ys k r s c).long in
      let b = r.long in
      sym (get_or_past (joined_row l xs ys) i (pos 0) (omega (arith, a, b, h)))

  pub key_of_both : (i : ℕ) → i < l.keys → get_or xs i (pos 0) ≡ get_or (joined_row l xs ys) i (pos 0)
  key_of_both i h = let a = front in sym (get_or_append_left (take l.keys xs) (count ∷ behind) (pos 0) i (omega (arith, a, h)) ∙ get_or-take l.keys xs i (pos 0) h)

  pub count_of_both : count ≡ get_or (joined_row l xs ys) l.keys (pos 0)
  count_of_both = sym (get_or_at (take l.keys xs) count behind (pos 0) l.keys front)

  module _ (i : ℕ) (h : l.keys < i) (j : i < length xs) where
    abbrev at : ℕ
    at = i - l.keys - 1

    there : l.keys + 1 + at ≡ i
    there = omega (arith, h)

    low : at < length (drop (l.keys + 1) xs)
    low = let a = behind_long l xs k r in let b = r.long in omega (arith, a, b, h, j)

    mine : get_or (drop (l.keys + 1) xs) at (pos 0) ≡ get_or xs i (pos 0)
    mine = get_or-drop (l.keys + 1) xs at (pos 0) ∙ ap (λ n. get_or xs n (pos 0)) there

    theirs : get_or (drop (l.keys + 1) ys) at (pos 0) ≡ get_or ys i (pos 0)
    theirs = get_or-drop (l.keys + 1) ys at (pos 0) ∙ ap (λ n. get_or ys n (pos 0)) there

    pub value_of_both : step (get_or l.folds at Sum) (get_or xs i (pos 0)) (get_or ys i (pos 0)) ≡ get_or (joined_row l xs ys) i (pos 0)
    value_of_both =
        let a = front in
        let place : i ≡ length (take l.keys xs) + suc at = omega (arith, a, h) in
        ap₂ (step (get_or l.folds at Sum)) (sym mine) (sym theirs)
        ∙ sym (ap (λ n. get_or (joined_row l xs ys) n (pos 0)) place ∙ get_or-append-add (take l.keys xs) (count ∷ behind) (suc at) (pos 0)
        ∙ get_or-stepped l.folds (drop (l.keys + 1) xs) (drop (l.keys + 1) ys) at low (behind_few l xs k r) (as_long l xs ys k r s c))

    pub step_of_both : FitsStep (get_or l.folds at Sum) (get_or xs i (pos 0)) (get_or ys i (pos 0))
    step_of_both = subst₂ (FitsStep (get_or l.folds at Sum)) mine theirs
        (steps_fit (nat_abs (get_or xs l.keys (pos 0))) (nat_abs (get_or ys l.keys (pos 0))) l.folds (drop (l.keys + 1) xs) (drop (l.keys + 1) ys)
        c.counts (behind_few l xs k r) (as_long l xs ys k r s c) r.tally.small s.tally.small at low)
