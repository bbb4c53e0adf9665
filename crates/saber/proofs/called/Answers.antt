use Rattle.std.proofs.Common.{subst, sym, map}
use Rattle.std.specs.Prelude.{IfOk, string_bytes}
use Rattle.saber.specs.Endings.{IsOfTop}
use Rattle.saber.proofs.called.Goals as goal

pub returns-in-Ok-clause-top : goal.returns-in-Ok-clause-top
returns-in-Ok-clause-top g c =
    let f = g.F.Files in let k = g.K.Sink in let n = g.N.Sink in let u = g.U.Outs in let out = g.U.Out.Sink in
    subst (λ h. IfOk h (λ texts. IsOfTop f.told f.faults k.written k.faults k.writes n.written n.faults n.writes u.asked u.faults out.written out.faults out.writes (map string_bytes texts.items) c.args.files.now c.run.new.files c.args.outs.now c.run.new.outs c.args.sink c.args.notes.now c.run.new.notes c.run.result)) (sym c.in-Ok.is)
    (subst (λ ws. IsOfTop f.told f.faults k.written k.faults k.writes n.written n.faults n.writes u.asked u.faults out.written out.faults out.writes (map string_bytes ws) c.args.files.now c.run.new.files c.args.outs.now c.run.new.outs c.args.sink c.args.notes.now c.run.new.notes c.run.result) c.deref.ensures.value c.run.ensures)
