use Rattle.std.proofs.Common.{sym, ◌∙◌, subst, arith}
use Rattle.saber_partial.specs.Ones.{IsOne}
use Rattle.saber_sliding.specs.Entries.{suffixes, whole, Entries}
use Rattle.saber_sliding.proofs.Stacked.{one_first, some_left}
use Rattle.saber_sliding.proofs.stack.Stack.is_empty.Goals as goal

pub returns-clause-some : goal.returns-clause-some
returns-clause-some c none =
    let s = c.self.inside in
    let long = s.numbers.ok.0 in
    let some = some_left s.numbers.len (sym c.is_empty.ensures ∙ none) in
    subst (λ (es : Entries). IsOne (whole (suffixes es))) c.self.view_is (one_first s.numbers.items s.parts c.self.invariant (omega (arith, long, some)) c.are_ones.ensures)
