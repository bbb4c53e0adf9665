-- The entries below a number, and walks that go on.
use Rattle.std.proofs.Common.{◌≡◌, ℕ, ◌-◌, ◌≤◌, List, ◌++◌, filter, flat_map, nat_lt, not, sym, ◌∙◌, ap, append-nil, append_assoc, nat_cmp, arith}
use Rattle.std.proofs.lemmas.Bool.Decides.{nat_tests}
use Rattle.std.proofs.lemmas.List.Concat.{flat_map-append}
use Rattle.std.specs.Ordering.{is_le}
use Rattle.saber_plan.specs.Windows.{from}
use Rattle.saber_plan.specs.Answers.{Answers}
use Rattle.saber_plan.specs.Facts.Numbers.{flat_nil, from_more}
use Rattle.saber_changes.specs.declared.cancel.Change.{Change}
use Rattle.saber_changes.specs.declared.walk.Walk.{Walk}
use Rattle.saber_changes.specs.Walks.{Stands, change_at, changes_from, Walks}
use Rattle.saber_parts.specs.Stored.{closed_of}

test_is : (c k : ℕ) → not (is_le (nat_cmp c k)) ≡ nat_lt k c
test_is c k = grind (arith, nat_tests)

-- what a range below a number has
pub range_below : {P : Type 0} (c : ℕ) (es : List (ℕ × P)) → filter (λ e. not (is_le (nat_cmp c e.0))) es ≡ closed_of c es
range_below c es = ap (λ f. filter f es) (λ i e. test_is c e.0 i)

module _ (change : Change) (at : ℕ → Answers) where
  -- a walk that hasn't gone on
  pub walks_none : (w : Walk) (out : List ℕ) → Stands at w → Walks change at w w w.next out out
  walks_none w out s = record { text = sym (ap (λ l. out ++ l) (sym (flat_nil (change_at change at) w.next)) ∙ append-nil out); stands = s }

  -- and one that has, and goes on
  pub walks_on : (old mid new : Walk) (to : ℕ) (before between after : List ℕ) → old.next ≤ mid.next → mid.next ≤ to
      → Walks change at old mid mid.next before between → Walks change at mid new to between after → Walks change at old new to before after
  walks_on old mid new to before between after a b v w = record {
    text = w.text ∙ ap (λ l. l ++ changes_from change at mid.next to) v.text ∙ append_assoc before _ _
        ∙ ap (λ l. before ++ l) (sym (ap (flat_map (change_at change at)) (from_more old.next mid.next to a b) ∙ flat_map-append (change_at change at) (from old.next (mid.next - old.next)) (from mid.next (to - mid.next))));
    stands = w.stands;
  }
