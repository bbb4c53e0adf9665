use Rattle.std.proofs.Common.{Some, ap, ◌∙◌, subst}
use Rattle.std.proofs.Math.Path.{transport}
use Rattle.saber_plan.specs.Trees.{tree_of}
use Rattle.saber_pipe.specs.Order.{bytes_of, mark_of}
use Rattle.saber_pipe.specs.Receipts.{written_by, mark_by, Settled}
use Rattle.saber_pipe.specs.Relays.{taken_by, mark_in}
use Rattle.saber_chain.specs.Firsts.{RanFirst}
use Rattle.saber_chain.specs.Marks.{mark_after}
use Rattle.saber_chain.proofs.Both.{both_runs}
use Rattle.saber_chain.proofs.runs.fn.run_both.scope.Goals as goal

pub returns-in-Ok : goal.returns-in-Ok
returns-in-Ok g c =
    let left = g.S.Source.left in
    let faults = g.S.Source.faults in
    let job = c.captures.job in
    let ran = c.join-ended.result in
    let given = c.in-Ok.ensures.ok in
    let plan = ap (λ z. z.plan.value) given ∙ c.of.ensures in
    let sizes = ap (λ z. z.sizes.value) given ∙ c.of-2.ensures ∙ c.requires.same in
    let inputs = ap (λ z. z.inputs.value) given ∙ c.of-3.ensures in
    let first : RanFirst left faults (tree_of job.plan.now) c.captures.sizes.now job.inputs ran.ended.inputs ran.ended.end ran.ended.tasks (written_by ran.receipt) (mark_by ran.receipt) =
    transport (λ i. RanFirst left faults (tree_of (plan i)) (sizes i) (inputs i) ran.ended.inputs ran.ended.end ran.ended.tasks (written_by ran.receipt) (mark_by ran.receipt)) c.join-ended.ensures in
    let second = c.run_second-ran.result in
    let e = c.run_second-ran.ensures in
    let x = c.settle.ensures in
    let settled = subst (λ l. Settled (written_by ran.receipt) (Some (mark_after c.settle.result.first)) (bytes_of l) (mark_of l)) c.dismiss.ensures.feed.got_is x.settled in
    both_runs left faults g.K.Sink.written g.K.Sink.faults g.K.Sink.writes (tree_of job.plan.now) (tree_of c.captures.second.now) c.captures.sizes.now job.inputs ran.ended.inputs c.captures.sink second.ran.sink c.settle.result
    ran.ended.end second.ran.end ran.ended.tasks second.ran.tasks (written_by ran.receipt) (taken_by second.relay) (mark_by ran.receipt) (mark_in second.relay)
    first e.runs e.write e.write_good e.writes e.stopped x.stopped x.ends x.tasks x.given_back settled

pub returns-in-Err : goal.returns-in-Err
returns-in-Err g c =
    let left = g.S.Source.left in
    let faults = g.S.Source.faults in
    let job = c.captures.job in
    let ran = c.spawn_with-ended.result in
    let back = c.in-Err.ensures.err in
    let first : RanFirst left faults (tree_of job.plan.now) c.captures.sizes.now job.inputs ran.ended.inputs ran.ended.end ran.ended.tasks (written_by ran.receipt) (mark_by ran.receipt) =
    transport (λ i. RanFirst left faults (tree_of (back i).0.plan.now) ((ap (λ z. z.0.sizes.now) back ∙ c.requires.same) i) (back i).0.inputs ran.ended.inputs ran.ended.end ran.ended.tasks (written_by ran.receipt) (mark_by ran.receipt)) c.spawn_with-ended.ensures in
    let second = c.run_second-ran-in-Err.result in
    let e = c.run_second-ran-in-Err.ensures in
    let x = c.settle-in-Err.ensures in
    both_runs left faults g.K.Sink.written g.K.Sink.faults g.K.Sink.writes (tree_of job.plan.now) (tree_of c.captures.second.now) c.captures.sizes.now job.inputs ran.ended.inputs c.captures.sink second.ran.sink c.settle-in-Err.result
    ran.ended.end second.ran.end ran.ended.tasks second.ran.tasks (written_by ran.receipt) (taken_by second.relay) (mark_by ran.receipt) (mark_in second.relay)
    first e.runs e.write e.write_good e.writes e.stopped x.stopped x.ends x.tasks x.given_back x.settled
