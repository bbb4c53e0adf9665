use Rattle.std.proofs.Common.{◌∙◌, ap, sym}
use Rattle.saber_crew.proofs.leader.Leader.offer.Goals.{in-Put, in-Full}
use Rattle.saber_crew.proofs.leader.Leader.offer.Goals as goal

pub returns-clause-put : goal.returns-clause-put
returns-clause-put g c put =
    elim c.match-fill.branch [
      | in-Put w ↦ let f = w.in-Put.ensures.told in (f.0, sym (ap (λ z. z.seat.lead) c.self.view_is) ∙ f.2, ap (λ v. v.lead) f.5)
      | in-Full w ↦ absurd (let e = w.result-is in let p = put in cc)
    ]
