-- Facts on what windows print. Any proof may cite them.
use Rattle.std.proofs.Common.{◌≡◌, ℕ, ◌+◌, ◌-◌, ◌≤◌, ◌<◌, List, [], ◌∷◌, ◌++◌, flat_map, map, ℤ, pos, Option, Some, None, refl, sym, ◌∙◌, ap, subst, append-nil, append_assoc, arith}
use Rattle.std.proofs.lemmas.List.Concat.{flat_map-append}
use Rattle.saber_plan.specs.Trees.{Tree}
use Rattle.saber_plan.specs.Windows.{from}
use Rattle.saber_plan.specs.Answers.{Answers, Change as Changing, Entry, line, alike, by_change, answer_lines}
use Rattle.saber_plan.specs.Facts.Numbers.{flat_nil, flat_step, flat_none, from_more}
use Rattle.saber_plan.specs.Parts.{Part, answers_in, part_answers, part_lines}
use Rattle.saber_changes.specs.declared.cancel.Change.{Change}
use Rattle.saber_changes.specs.declared.walk.Walk.{Walk}
use Rattle.saber_changes.specs.Counts.{change_of}
use Rattle.saber_changes.specs.Walks.{changes_from, Walks}
use Rattle.saber_changes.specs.declared.output.Output.{Output}
use Rattle.saber_changes.specs.declared.output.Output.TheVariants.{Each, Delta}
use Rattle.saber_changes.specs.Outputs.{change_in, way_by, printed_at, printed_from, IsBefore, IsUpTo, StandsIn, Passed}

of_answers : (f : List ℤ → List ℕ) (es : List Entry) → flat_map (λ e. f e.1) es ≡ flat_map f (map (λ e. e.1) es)
of_answers f [] = refl
of_answers f (e ∷ es) = ap (λ l. f e.1 ++ l) (of_answers f es)

-- the lines of a part are those of its answers
pub lines_are : (q : Tree) (i : ℕ) (p : Part) → part_lines q i p ≡ answer_lines i (part_answers q p)
lines_are q i p = of_answers (λ zs. line (pos i ∷ zs)) (answers_in q p)

pub printed_lines : (q : Tree) (part : ℕ → Part) (a b : ℕ) → flat_map (λ i. part_lines q i (part i)) (from a (b - a)) ≡ printed_from None (λ i. part_answers q (part i)) a b
printed_lines q part a b = λ j. flat_map (λ i. lines_are q i (part i) j) (from a (b - a))

module _ (g : ℕ → List ℕ) where
  flat_one : (n : ℕ) → g n ≡ flat_map g (from n (n + 1 - n))
  flat_one n = flat_step g n n (omega arith) [] (g n) (flat_nil g n) refl

  flat_more : (a n b : ℕ) → a ≤ n → n ≤ b → flat_map g (from a (n - a)) ++ flat_map g (from n (b - n)) ≡ flat_map g (from a (b - a))
  flat_more a n b up more = sym (ap (flat_map g) (from_more a n b up more) ∙ flat_map-append g (from a (n - a)) (from n (b - n)))

pub passed_nil : (at : ℕ → Answers) (o : Output) (n : ℕ) (out : List ℕ) → StandsIn at o → Passed at o o n n out out
passed_nil at o n out stands = record {
  text = sym (ap (λ l. out ++ l) (sym (flat_nil (printed_at (change_in o) at) n)) ∙ append-nil out);
  same = refl;
  stands = stands;
}

-- windows go on where others have come to
pub passed_on : (at : ℕ → Answers) (old mid new : Output) (a n b : ℕ) (before between after : List ℕ) → a ≤ n → n ≤ b
    → Passed at old mid a n before between → Passed at mid new n b between after → Passed at old new a b before after
passed_on at old mid new a n b before between after up more p r =
    let c = change_in old in
    record {
      text = r.text ∙ (λ j. p.text j ++ printed_from (p.same j) at n b) ∙ append_assoc before (printed_from c at a n) (printed_from c at n b)
          ∙ ap (λ l. before ++ l) (flat_more (printed_at c at) a n b up more);
      same = r.same ∙ p.same;
      stands = r.stands;
    }

-- lines that another has written
pub passed_text : (at : ℕ → Answers) (o : Output) (n b : ℕ) (before after : List ℕ) → change_in o ≡ None → StandsIn at o → after ≡ before ++ printed_from None at n b → Passed at o o n b before after
passed_text at o n b before after each stands e = record {
  text = e ∙ ap (λ c. before ++ printed_from c at n b) (sym each);
  same = refl;
  stands = stands;
}

-- one window that prints its lines
pub passed_lines : (at : ℕ → Answers) (q : Tree) (n : ℕ) (p : Part) (before after : List ℕ) → after ≡ before ++ part_lines q n p → at n ≡ part_answers q p → Passed at Each Each n (n + 1) before after
passed_lines at q n p before after e is = record {
  text = e ∙ ap (λ l. before ++ l) (lines_are q n p ∙ ap (answer_lines n) (sym is) ∙ flat_one (printed_at None at) n);
  same = refl;
  stands = tt;
}

-- windows without answers, that print none
pub passed_none : (at : ℕ → Answers) (n b : ℕ) (out : List ℕ) → ((i : ℕ) → n ≤ i → i < b → at i ≡ []) → Passed at Each Each n b out out
passed_none at n b out none = record {
  text = sym (ap (λ l. out ++ l) (flat_none (printed_at None at) n (b - n) (λ i p l. ap (answer_lines i) (none i p (omega (arith, p, l))))) ∙ append-nil out);
  same = refl;
  stands = tt;
}

-- what a walk has passed
pub passed_walk : (at : ℕ → Answers) (change : Change) (old new : Walk) (n b : ℕ) (before after : List ℕ) → old.next ≡ n → Walks change at old new b before after
    → Passed at (Delta change old) (Delta change new) n b before after
passed_walk at change old new n b before after here w = record {
  text = w.text ∙ ap (λ k. before ++ changes_from change at k b) here;
  same = refl;
  stands = w.stands;
}

pub up_to : (o : Output) (n k : ℕ) → n ≤ k → IsBefore o n → IsUpTo o k
up_to Each n k up here = tt
up_to (Delta change walk) n k up here = subst (λ m. m ≤ k) (sym here) up

-- no walk has to be where lines are printed
pub each_before : (o : Output) (n : ℕ) → change_in o ≡ None → IsBefore o n
each_before Each n e = tt
each_before (Delta change walk) n e = absurd (some_none change e) where
  some_none : (c : Change) → Some c ≡ None → ⊥
  some_none c e = cc

pub each_way : (c : Option Change) → way_by c ≡ alike → c ≡ None
each_way None e = refl
each_way (Some change) e = absurd (changes_not (change_of change) e) where
  changes_not : (f : Changing) → by_change f ≡ alike → ⊥
  changes_not f e = cc
