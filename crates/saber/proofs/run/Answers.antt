use Rattle.std.proofs.Common.{◌∙◌, ap, refl, subst, map, List, ℕ, Bor}
use Rattle.saber_top.specs.Says.{SaysTop}
use Rattle.saber.specs.Endings.{Refuses, lacked, was_called}
use Rattle.saber.proofs.run.Goals as goal

pub returns-in-Ok : goal.returns-in-Ok
returns-in-Ok g c =
    let e = c.top-status.result in
    let f = g.F.Files in let k = g.K.Sink in let n = g.N.Sink in let u = g.U.Outs in let out = g.U.Out.Sink in
    let same = ap (map (λ (w : Bor (List ℕ)). w.now)) c.deref.ensures.value ∙ c.in-Ok.ensures.words in
    was_called e refl (subst (λ words. SaysTop f.told f.faults k.written k.faults k.writes n.written n.faults n.writes u.asked u.faults out.written out.faults out.writes words c.args.files.now c.top-status.new.files c.args.outs.now c.top-status.new.outs c.args.sink c.args.notes.now
    c.top-status.new.notes e) same c.top-status.ensures)

pub returns-in-Err : goal.returns-in-Err
returns-in-Err g c =
    lacked (subst (λ fault. Refuses g.N.Sink.written g.N.Sink.faults g.N.Sink.writes fault c.refused.result c.args.notes.now c.refused.new.notes) c.in-Err.ensures.lacks c.refused.ensures) refl refl
