use Rattle.std.proofs.Common.{subst}
use Rattle.saber_dispatch.specs.Cutting.{LooksBack, KeepsLasts}
use Rattle.saber_dispatch.proofs.BlockLists.{noted}
use Rattle.saber_dispatch.proofs.BlockCuts.{on_ok, times_of}
use Rattle.saber_dispatch.proofs.cutter.note.Goals as goal

pub note-requires-clause-times : goal.note-requires-clause-times
note-requires-clause-times c = let (q, n, xs, t, b, k, fit, few) = c.requires in times_of q c.args.rows.now fit.rows

pub returns-in-Some : goal.returns-in-Some
returns-in-Some c = on_ok c.note.result _ _ c.note.ensures (λ h q n xs t b whole k fit few.
    let l : KeepsLasts q n xs t c.in-Some.lasts = subst (LooksBack q n xs t) c.in-Some.is k in
    noted q n xs t c.args.before.now b whole c.args.rows.now fit few c.in-Some.lasts c.note.new.self l h.0 h.1 h.2)
