-- Spelled tokens, joined.
use Rattle.std.proofs.Common.{◌≡◌, ℕ, ◌+◌, ◌<◌, ◌≤◌, List, [], ◌∷◌, ◌++◌, map, length, drop, get_or, refl, sym, ◌∙◌, ap, add-one, append_assoc}
use Rattle.std.proofs.lemmas.List.{drop_all}
use Rattle.std.proofs.Math.Seq.{drop-cons}
use Rattle.saber_query.specs.declared.token.Token.{Token}
use Rattle.saber_query.specs.declared.tree.Unit.{Unit as Unit_tree}
use Rattle.saber_query.specs.declared.tree.Conj.{Conj}
use Rattle.saber_query.specs.Trees.{Test, Both, Tests, test_of, both_of, ands_of, ors_of, both_by, tests_by}
use Rattle.saber_query.specs.Words.{test_words, both_words, tests_words, ands_words, ors_words}
use Rattle.saber_query.specs.Spelling.{spell, spaced_text}
use Rattle.saber_show.proofs.Shapes.{not_shape, enclosed_shape, compare_shape}

pub spaced_append : (ts us : List Token) → spaced_text (ts ++ us) ≡ spaced_text ts ++ spaced_text us
spaced_append [] us = refl
spaced_append (t ∷ ts) us = ap (λ z. 32 ∷ z) (ap (λ z. spell t ++ z) (spaced_append ts us) ∙ sym (append_assoc (spell t) (spaced_text ts) (spaced_text us)))

pub ruleset joining = (spaced_append, append_assoc)

pub ruleset walking = (spaced_append, append_assoc, not_shape, enclosed_shape, compare_shape)

-- some words are written, and then others
pub joined : (old mid new : List ℕ) (w u : List Token) → mid ≡ old ++ spaced_text w → new ≡ mid ++ spaced_text u → new ≡ old ++ spaced_text (w ++ u)
joined old mid new w u e e' = e' ∙ ap (λ z. z ++ spaced_text u) e ∙ append_assoc old (spaced_text w) (spaced_text u) ∙ ap (λ z. old ++ z) (sym (spaced_append w u))

-- what is written, and the words of the parts from j on, are the words of all
abbrev pub Still : {X : Type 0} → (List X → List Token) → List X → ℕ → List ℕ → List ℕ → Type 0
Still words xs j old now = now ++ spaced_text (words (drop j xs)) ≡ old ++ spaced_text (words xs)

-- the part at j is written, as one word and its own words
pub part_written : {X : Type 0} (words : List X → List Token) (xs : List X) (j : ℕ) (x : X) (w u : List Token) (old now mid new : List ℕ) → j < length xs → x ≡ get_or xs j x → ((ys : List X) → words (x ∷ ys) ≡ w ++ (u ++ words ys)) →
    Still words xs j old now → mid ≡ now ++ spaced_text w → new ≡ mid ++ spaced_text u → Still words xs (j + 1) old new
part_written words xs j x w u old now mid new h e law still e' e'' =
    let ys = drop (j + 1) xs in
    let d : drop j xs ≡ x ∷ ys = rw (drop-cons xs j x h, ← e, add-one j) refl in
    ap (λ z. z ++ spaced_text (words ys)) (joined now mid new w u e' e'')
    ∙ append_assoc now (spaced_text (w ++ u)) (spaced_text (words ys))
    ∙ ap (λ z. now ++ z) (sym (spaced_append (w ++ u) (words ys)) ∙ ap spaced_text (append_assoc w u (words ys) ∙ sym (law ys) ∙ ap words (sym d)))
    ∙ still

append_nil : (xs : List ℕ) → xs ++ [] ≡ xs
append_nil [] = refl
append_nil (x ∷ xs) = ap (λ z. x ∷ z) (append_nil xs)

-- all parts are written
pub all_written : {X : Type 0} (words : List X → List Token) (xs : List X) (j : ℕ) (old now : List ℕ) → words [] ≡ [] → length xs ≤ j → Still words xs j old now → now ≡ old ++ spaced_text (words xs)
all_written words xs j old now n h still = sym (append_nil now) ∙ ap (λ z. now ++ spaced_text z) (sym n ∙ ap words (sym (drop_all j xs h))) ∙ still

-- the words of the units, or the conjunctions, behind the first
abbrev pub units : List Unit_tree → List Token
units us = ands_words (ands_of (map test_of us))

abbrev pub conjs : List Conj → List Token
conjs bs = ors_words (ors_of (map both_of bs))

pub conj_written : (b : Both) (t : Test) (us vs : List Unit_tree) (j : ℕ) (old mid new : List ℕ) → b ≡ both_by t (map test_of us) → vs ≡ us → mid ≡ old ++ spaced_text (test_words t) → length vs ≤ j → Still units vs j mid new → new ≡ old ++ spaced_text (both_words b)
conj_written b t us vs j old mid new e f m h still =
    joined old mid new (test_words t) (units vs) m (all_written units vs j mid new refl h still)
    ∙ ap (λ z. old ++ spaced_text z) (ap (λ z. test_words t ++ units z) f ∙ sym (ap both_words e))

pub pred_written : (p : Tests) (b : Both) (us vs : List Conj) (j : ℕ) (old mid new : List ℕ) → p ≡ tests_by b (map both_of us) → vs ≡ us → mid ≡ old ++ spaced_text (both_words b) → length vs ≤ j → Still conjs vs j mid new → new ≡ old ++ spaced_text (tests_words p)
pred_written p b us vs j old mid new e f m h still =
    joined old mid new (both_words b) (conjs vs) m (all_written conjs vs j mid new refl h still)
    ∙ ap (λ z. old ++ spaced_text z) (ap (λ z. both_words b ++ conjs z) f ∙ append_assoc (test_words b.first) (ands_words b.ands) (conjs us) ∙ sym (ap tests_words e))
