use Rattle.std.proofs.Common.{◌∙◌, sym, subst, refl, false, arith}
use mathlib.Core.Logic.{dite}
use native.Mathlib.Decide.{ℕ_discrete}
use Rattle.saber_ring.specs.Closing.{IsLast}
use Rattle.saber_ring.specs.Words.{view}
use Rattle.saber_workers.specs.Lasts.{IsClaimed}
use Rattle.saber_workers.proofs.Works.{then_works}
use Rattle.saber_workers.proofs.Lasts.{claimed_more, not_held}
use Rattle.saber_workers.proofs.bench.Bench.claim_all.Goals as goal

pub loop-t-preserved : goal.loop-t-preserved
loop-t-preserved g c =
    let e = c.work_on-held.ensures in let i = c.loop-t.invariant in let v = view c.args.seat.now in let w = view c.loop-t.seat in let u = view c.work_on-held.new.seat in let lead = i.1.lead in
    let none = not_held w.lead c.work_on-held.result.waits (subst IsLast (sym lead) c.requires.last) e.others in (
      (e.ready, (e.done none).0),
      then_works v w u i.1 e.goes,
      λ t lt. dite (ℕ_discrete t c.loop-t.t) (λ same. subst (λ z. IsClaimed z v.lead u.own) (sym same) (λ l is out few. e.last refl l (lead ∙ is) out few))
          (λ ne. claimed_more t v.lead w u false e.grows (i.2 t (omega arith))),
    )
