use Rattle.std.proofs.Common.{List, [], ℤ, ℕ, sym, subst}
use Rattle.arrayvec.specs.ArrayVec.{ArrayVec}
use Rattle.saber_places.specs.Numbering.{lists_in, numbers_in, IsNumbered}
use Rattle.saber_places.proofs.Numbering.{numbered_none}
use Rattle.saber_places.proofs.numbered.Numbered.new.Goals as goal

pub invariant_of-result : goal.invariant_of-result
invariant_of-result c =
    subst (λ (vs : List (ArrayVec ℤ)). IsNumbered (lists_in vs) (numbers_in c.new-2.result.entries)) (sym c.new.ensures.items)
    (subst (λ (es : List (ArrayVec ℤ × ℕ)). IsNumbered [] (numbers_in es)) (sym c.new-2.ensures.empty) numbered_none)
