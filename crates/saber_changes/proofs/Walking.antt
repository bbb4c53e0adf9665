-- A walk passes windows without answers, and then one more.
use Rattle.std.proofs.Common.{◌≡◌, ℕ, zero, suc, ◌+◌, ◌≤◌, ◌<◌, List, [], ◌++◌, refl, sym, ◌∙◌, ap, append-nil, append_assoc, arith}
use Rattle.saber_plan.specs.Answers.{Answers, before_window, answer_lines}
use Rattle.saber_plan.specs.Facts.Numbers.{flat_nil, flat_step, flat_skip}
use Rattle.saber_changes.specs.declared.cancel.Change.{Change}
use Rattle.saber_changes.specs.declared.cancel.Change.TheVariants.{Gained, Lost}
use Rattle.saber_changes.specs.declared.walk.Walk.{Walk}
use Rattle.saber_changes.specs.Counts.{change_of}
use Rattle.saber_changes.specs.Walks.{Stands, NoneFrom, change_at, changes_from, Walks}

nothing_changes : (change : Change) → change_of change [] [] ≡ []
nothing_changes Gained = refl
nothing_changes Lost = refl

module _ (change : Change) (at : ℕ → Answers) where
  -- before a window behind others without answers stands the empty list
  none_before : (a b : ℕ) → a < b → NoneFrom at a b → before_window at b ≡ []
  none_before a zero h none = absurd (omega (arith, h))
  none_before a (suc b) h none = none b (omega (arith, h)) (omega arith)

  skipped : (a b i : ℕ) → NoneFrom at a b → a < i → i < b → change_at change at i ≡ []
  skipped a b i none low high = ap (answer_lines i) ((λ j. change_of change (none_before a i low (λ k l h. none k l (omega (arith, h, high))) j) (none i (omega (arith, low)) high j)) ∙ nothing_changes change)

  -- the first of them loses what stood before it
  pub reached : (old new : Walk) (to : ℕ) (before after : List ℕ) → old.next < to → new.last ≡ [] → new.next ≡ to
      → after ≡ before ++ answer_lines old.next (change_of change old.last []) → Stands at old → NoneFrom at old.next to → Walks change at old new to before after
  reached old new to before after h last next written stands none =
      let a = old.next in
      let g = change_at change at in
      let first : answer_lines a (change_of change old.last []) ≡ g a = λ j. answer_lines a (change_of change (stands j) (sym (none a (omega arith) h) j)) in
      record {
        text = written ∙ ap (λ l. before ++ l) (flat_skip g a (a + 1) to (omega arith) (omega (arith, h)) (λ i l r. skipped a to i none (omega (arith, l)) r) _
            (flat_step g a a (omega arith) [] _ (flat_nil g a) first));
        stands = last ∙ sym (ap (before_window at) next ∙ none_before a to h none);
      }

  -- where there are none, it stands as before
  pub stood : (old : Walk) (to : ℕ) (before : List ℕ) → old.next ≡ to → Stands at old → Walks change at old old to before before
  stood old to before e stands = record {
    text = sym (ap (λ l. before ++ l) (ap (λ b. changes_from change at old.next b) (sym e) ∙ sym (flat_nil (change_at change at) old.next)) ∙ append-nil before);
    stands = stands;
  }

  -- and one window more
  pub passed : (old mid new : Walk) (to : ℕ) (before between after : List ℕ) → old.next ≤ to → mid.next ≡ to → new.next ≡ to + 1 → at to ≡ new.last
      → Walks change at old mid to before between → after ≡ between ++ answer_lines to (change_of change mid.last new.last) → Walks change at old new (to + 1) before after
  passed old mid new to before between after low m n is w written =
      let a = old.next in
      let g = change_at change at in
      let here : answer_lines to (change_of change mid.last new.last) ≡ g to = λ j. answer_lines to (change_of change ((w.stands ∙ ap (before_window at) m) j) (sym is j)) in
      record {
        text = written ∙ ap (λ l. l ++ answer_lines to (change_of change mid.last new.last)) w.text ∙ append_assoc before (changes_from change at a to) _
            ∙ ap (λ l. before ++ l) (flat_step g a to low (changes_from change at a to) _ refl here);
        stands = sym is ∙ sym (ap (before_window at) (n ∙ one_up to));
      }
    where
      one_up : (n : ℕ) → n + 1 ≡ suc n
      one_up n = omega arith
