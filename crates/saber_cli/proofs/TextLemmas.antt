-- The beginning of a file, from what was read of it and what its source has left.
use Rattle.std.proofs.Common.{◌≡◌, ℕ, ◌≤◌, List, [], ◌++◌, length, take, Option, Some, None, IfSome, refl, sym, ◌∙◌, ap, subst, arith, append_assoc}
use Rattle.std.proofs.lemmas.List.{take_all, take-append-le, append-nil}
use Rattle.saber_io.specs.Outside.{left_before}
use Rattle.saber_cli.specs.Texts.{read_limit}

-- bytes that were taken, and then others
pub given_more : (a b : List ℕ) (rest : Option (List ℕ)) → left_before a (left_before b rest) ≡ left_before (a ++ b) rest
given_more a b None = refl
given_more a b (Some r) = ap Some (sym (append_assoc a b r))

abbrev IsFront : List ℕ → Option (List ℕ) → Type 0
IsFront text left = IfSome left (λ whole. text ≡ take read_limit whole)

full : (text : List ℕ) (rest : Option (List ℕ)) → length text ≡ 65537 → IsFront text (left_before text rest)
full text None h = tt
full text (Some r) h = sym (take-append-le 65537 text r (omega arith) ∙ take_all 65537 text (omega arith))

-- as many bytes as are wanted
pub front-full : (left rest : Option (List ℕ)) (text : List ℕ) → left ≡ left_before text rest → length text ≡ 65537 → IsFront text left
front-full left rest text e h = subst (IsFront text) (sym e) (full text rest h)

ended : (text : List ℕ) (rest : Option (List ℕ)) → length text ≤ 65537 → IfSome rest (λ r. r ≡ []) → IsFront text (left_before text rest)
ended text None h k = tt
ended text (Some r) h k = sym (ap (λ t. take 65537 (text ++ t)) k ∙ ap (take 65537) (append-nil text) ∙ take_all 65537 text h)

-- all bytes
pub front-ended : (left rest : Option (List ℕ)) (text : List ℕ) → left ≡ left_before text rest → length text ≤ 65537 → IfSome rest (λ r. r ≡ []) → IsFront text left
front-ended left rest text e h k = subst (IsFront text) (sym e) (ended text rest h k)
