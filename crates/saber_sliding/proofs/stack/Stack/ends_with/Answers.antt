use Rattle.std.proofs.Common.{◌≡◌, ℕ, List, ◌-◌, suc, length, Some, ◌∙◌, ap, subst, arith}
use Rattle.std.proofs.lemmas.Bool.{eqb-true}
use Rattle.std.specs.List.{slice_get}
use Rattle.saber_sliding.specs.Entries.{last_number, Entries}
use Rattle.saber_sliding.proofs.Stacked.{side_last}
use Rattle.saber_sliding.proofs.stack.Stack.ends_with.Goals as goal

pub returns-in-Some : goal.returns-in-Some
returns-in-Some c same =
    let s = c.self.inside in
    let ns = s.numbers.items in
    let last = c.in-Some.last.now in
    let value = subst (λ (l : List ℕ). Some last ≡ slice_get l (length l - 1)) c.deref.ensures.value c.in-Some.ensures.value in
    let some = c.in-Some.ensures.item in
    let len = ap (length {A = ℕ}) c.deref.ensures.value in
    let long : length ns ≡ suc (length ns - 1) = omega (arith, some, len) in
    subst (λ (es : Entries). last_number es ≡ Some c.args.number) c.self.view_is
    (side_last ns s.parts (length ns - 1) last c.self.invariant long value ∙ ap (λ (n : ℕ). Some n) (eqb-true last c.args.number same))
