-- What is said of all in a queue, for the first of them and for the others.
use Rattle.std.proofs.Common.{◌≡◌, List, [], ◌∷◌, length, sym, ◌∙◌, ap, subst, arith}
use Rattle.std.specs.Prelude.{Vec}
use Rattle.std.specs.Vec.{with_items}
use Rattle.std.specs.declared.alloc.Global.{Global}
use Rattle.std.proofs.lemmas.List.{with_items_is}
use Rattle.std.specs.List.{AllByRecursion, AllZip}

-- where somebody is left, as many are behind
pub less_long : {A B : Type 0} (x : A) (xs all : List A) (y : B) (ys every : List B) → all ≡ x ∷ xs → every ≡ y ∷ ys → length all ≡ length every → length xs ≡ length ys
less_long x xs all y ys every e f l =
    let both : length (x ∷ xs) ≡ length (y ∷ ys) = ap length (sym e) ∙ l ∙ ap length f in
    omega (arith, both)

-- ---- where a list is lent, as long as it was

pub written : {A : Type 0} (old : Vec A Global) (lent new : List A) → lent ≡ old.items → length new ≡ length lent → (with_items old new).items ≡ new
written old lent new is long =
    let full = old.ok.0 in
    let same : length lent ≡ length old.items = ap length is in
    let fits : length new ≡ old.len = omega (arith, full, same, long) in
    with_items_is old new fits

-- ---- what is said of a list, and of the same list lent

pub lent_all : {A : Type 0} (P : A → Type 0) (lent list : List A) → lent ≡ list → AllByRecursion P list → AllByRecursion P lent
lent_all P lent list is h = subst (AllByRecursion P) (sym is) h

pub owned_all : {A : Type 0} (P : A → Type 0) (lent list : List A) → lent ≡ list → AllByRecursion P lent → AllByRecursion P list
owned_all P lent list is h = subst (AllByRecursion P) is h

pub owned_zip : {A B : Type 0} (R : A → B → Type 0) (lent list : List A) (ys : List B) → lent ≡ list → AllZip R lent ys → AllZip R list ys
owned_zip R lent list ys is h = subst (λ xs. AllZip R xs ys) is h
