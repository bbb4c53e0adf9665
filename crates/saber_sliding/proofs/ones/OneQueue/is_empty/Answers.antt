use Rattle.std.proofs.Common.{sym, ◌∙◌, ap, subst}
use Rattle.saber_partial.specs.Ones.{IsOne}
use Rattle.saber_partial.specs.Piles.{piled_part}
use Rattle.saber_sliding.specs.Entries.{whole, Queue}
use Rattle.saber_sliding.proofs.Settled.{whole_front}
use Rattle.saber_sliding.proofs.Stacked.{ones_piled}
use Rattle.saber_sliding.proofs.ones.OneQueue.is_empty.Goals as goal

pub returns-in-Some-clause-some : goal.returns-in-Some-clause-some
returns-in-Some-clause-some c none =
    let s = c.self.inside in
    let b = piled_part s.all in
    let first = c.in-Some.ensures.is in
    subst IsOne (sym (whole_front s.front s.back b first.0) ∙ ap (λ (q : Queue). whole q.entries) c.self.view_is)
    (ones_piled (whole s.front) s.all (subst IsOne first.1 first.2) c.are_ones.ensures)
