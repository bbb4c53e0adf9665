use Rattle.std.proofs.Common.{◌+◌, IfSome, subst, arith}
use Rattle.saber_plan.specs.Tasks.{task_start}
use Rattle.saber_fragment.specs.Stores.{Follows}
use Rattle.saber_assembly.specs.Stages.{stage_view, IsPieceAt}
use Rattle.saber_plan.specs.Stages.{After}
use Rattle.saber_assembly.proofs.Stepping.{stepped}
use Rattle.saber_assembly.specs.WorkLaws.{follows}
use Rattle.saber_laws.proofs.TaskCutLaws.{cuts_rise}
use Rattle.saber_assembly.proofs.stage.Stage.absorb.Goals as goal

pub returns-in-Some-clause-keeps : goal.returns-in-Some-clause-keeps
returns-in-Some-clause-keeps g c n r start t kept e =
    let q = g.O.Operator.plan c.args.operator.now in
    let p = c.in-Some.piece in
    let of = g.O.Operator.is_of c.args.operator.now p in
    let old = stage_view g.O.Operator.contents g.K.Sink.written g.K.Sink.faults g.K.Sink.writes c.args.self.now in
    let new = stage_view g.O.Operator.contents g.K.Sink.written g.K.Sink.faults g.K.Sink.writes c.absorb_piece.new.self in
    let x = task_start n r old.k in let y = task_start n r (old.k + 1) in
    let piece : IsPieceAt n r old.k of = subst (λ o. IfSome o (λ p. IsPieceAt n r old.k (g.O.Operator.is_of c.args.operator.now p))) c.in-Some.is e in
    let next : Follows q old.kept (g.O.Operator.has_taken c.args.operator.now c.args.self.now.store) of r x y =
    follows q n r start old (g.O.Operator.has_taken c.args.operator.now c.args.self.now.store) of t (cuts_rise n r old.k (old.k + 1) (omega arith)) kept c.requires.running piece in
    stepped q n r start old new c.absorb_piece.result t
    (subst (After q n r start old) c.requires.running kept.after)
    (record {
      written = λ d. c.absorb_piece.ensures.written d r x y next;
      leaves = λ d. c.absorb_piece.ensures.left d r x y next;
      rises = c.absorb_piece.ensures.rises;
      stopped = c.absorb_piece.ensures.stopped;
      stays = c.absorb_piece.ensures.stays;
      runs = c.absorb_piece.ensures.runs;
      failed = λ f. c.absorb_piece.ensures.failed f r x y next;
      cause = c.absorb_piece.ensures.cause;
      memory = c.absorb_piece.ensures.memory;
      good = c.absorb_piece.ensures.good;
      count = c.absorb_piece.ensures.count;
      one = λ d. c.absorb_piece.ensures.one d r x y next;
      no_text = λ d. c.absorb_piece.ensures.no_text d r x y next;
      failed_one = c.absorb_piece.ensures.failed_one;
      no_write = c.absorb_piece.ensures.no_write;
    })
    (g.O.Operator.has_taken c.args.operator.now c.absorb_piece.new.self.store)
    (λ d. c.absorb_piece.ensures.taken d r x y next)
