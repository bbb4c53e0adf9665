use Rattle.std.proofs.Common.{◌≡◌, ℕ, [], sym, ◌∙◌, ap, subst}
use Rattle.std.proofs.Math.Path.{transport}
use Rattle.std.specs.Prelude.{None, IsSome}
use Rattle.saber_crew.specs.Runs.{RunsTo}
use Rattle.saber_crew.specs.declared.dispatch.Over.TheVariants as over_by
use Rattle.saber_assembly.specs.Stages.{stage_view}
use Rattle.saber_assembly.specs.Works.{IsTold, first_tasks, IsStageOf}
use Rattle.saber_plan.specs.Trees.{Tree, tree_of}
use Rattle.saber_plan.specs.Answers.{frame}
use Rattle.saber_plan.specs.Windows.{Fits}
use Rattle.saber_dispatch.specs.Feeding.{CutsNothingFed}
use Rattle.saber_dispatch.specs.Keeping.{CountsRows}
use Rattle.saber_plan.specs.declared.ends.RunEnd.TheVariants.{NoMemory}
use Rattle.saber_engine.specs.Endings.{end_of}
use Rattle.saber_engine.specs.Supplying.{first_told}
use Rattle.saber_engine.specs.FedSupplying.{FeedView, feed_seen, HasFed}
use Rattle.saber_engine.proofs.Starting.{begins}
use Rattle.saber_engine.proofs.FedResults.{FedDone, fed_none, fed_done, fed_nothing}
use Rattle.saber_laws.proofs.CheckedLaws.{checked_fit}
use Rattle.saber_engine.proofs.fed_plans.run_fed.Goals as goal

pub run-ran-requires-clause-begins : goal.run-ran-requires-clause-begins
run-ran-requires-clause-begins g c spans live =
    let plan = g.O.Operator.plan in
    let op = c.args.operator.now in
    let s = c.args.sizes.now in
    let wrote = g.K.Sink.written in
    let failed = g.K.Sink.faults in
    let writes = g.K.Sink.writes in
    let f = g.F.Feed in
    let v : FeedView = feed_seen f.taken f.waiting f.mark f.faults c.args.feed.now in
    let cutter = c.in-Ok.begun.cutter in
    let keeper = c.in-Ok.begun.keeper in
    let end = c.in-Ok.begun.end in
    let e = c.new-stage.ensures in
    let stage = c.new-stage.result in
    let b = c.requires.begins in
    let nothing : CutsNothingFed (plan op) s cutter = subst (λ z. CutsNothingFed z s cutter) (sym c.requires.plan) c.in-Ok.ensures.cuts in
    let counts : CountsRows keeper (plan op) [] = subst (λ z. CountsRows keeper z []) (sym c.requires.plan) c.in-Ok.ensures.counted in
    let fits : Fits (frame (plan op)) = subst (λ z. Fits (frame z)) (sym c.requires.plan) (checked_fit (tree_of c.args.plan.now) c.ring_size-ring.ensures.checked) in
    let is : HasFed plan s v.faults v cutter keeper None (first_told op s.task (wrote stage.sink) (failed stage.sink) (writes stage.sink) None) 0 = fed_none plan op s v (wrote stage.sink) (failed stage.sink) (writes stage.sink) cutter keeper nothing c.in-Ok.ensures.goes c.requires.fresh c.requires.sizes.task.0 c.in-Ok.ensures.kept counts in
    begins plan g.O.Operator.contents g.O.Operator.has_taken wrote failed writes op s.task None stage fits c.requires.sizes.task.0 c.args.sink e.sink e.none e.runs e.keeps (HasFed plan g.J.BeginsFed.sizes g.J.BeginsFed.faults v cutter keeper end)
    (transport (λ i. HasFed plan (sym b.0 i) (sym b.1 i) v cutter keeper (sym c.in-Ok.ensures.end i) (first_told op s.task (wrote stage.sink) (failed stage.sink) (writes stage.sink) None) 0) is)

pub returns-in-Ok-ran : goal.returns-in-Ok-ran
returns-in-Ok-ran g c =
    let plan = g.O.Operator.plan in
    let op = c.args.operator.now in
    let s = c.args.sizes.now in
    let q : Tree = tree_of c.args.plan.now in
    let wrote = g.K.Sink.written in
    let failed = g.K.Sink.faults in
    let writes = g.K.Sink.writes in
    let feed = g.F.Feed in
    let v : FeedView = feed_seen feed.taken feed.waiting feed.mark feed.faults c.run-ran.new.from in
    let before : ℕ = feed.faults c.args.feed.now in
    let w = wrote c.args.sink in
    let f = failed c.args.sink in
    let times = writes c.args.sink in
    let cutter = c.run-ran.new.supply.cutter in
    let keeper = c.run-ran.new.supply.keeper in
    let end = c.run-ran.new.supply.end in
    let stage = c.in-Ok-ran.stage in
    let fed = c.in-Ok-ran.fed in
    let e = c.new-stage.ensures in
    let b = c.requires.begins in
    let x = c.ended-in-Ok-ran.ensures in
    let ends = x.end ∙ ap (end_of stage.state fed.over) c.let_go-end.ensures in
    let r : RunsTo (IsTold plan) first_tasks (IsStageOf plan (stage_view g.O.Operator.contents wrote failed writes) g.O.Operator.has_taken) (HasFed plan s before v cutter keeper end) (IsSome end) (first_told op s.task w f times None) stage fed =
    transport (λ i. RunsTo (IsTold plan) first_tasks (IsStageOf plan (stage_view g.O.Operator.contents wrote failed writes) g.O.Operator.has_taken) (HasFed plan (b.0 i) (b.1 i) v cutter keeper end) (IsSome end) (first_told op s.task (wrote (e.sink i)) (failed (e.sink i)) (writes (e.sink i)) None) stage fed) c.in-Ok-ran.ensures.ended in
    let over = fed_done plan g.O.Operator.contents g.O.Operator.has_taken wrote failed writes op s c.requires.sizes.task.0 w f times v before cutter keeper end stage fed r in
    let d : FedDone q s v before w f times c.ended-in-Ok-ran.result.end c.ended-in-Ok-ran.result.tasks (wrote c.ended-in-Ok-ran.result.sink) (failed c.ended-in-Ok-ran.result.sink) (writes c.ended-in-Ok-ran.result.sink) =
    transport (λ i. FedDone (c.requires.plan i) s v before w f times (sym ends i) (sym x.tasks i) (wrote (sym x.sink i)) (failed (sym x.sink i)) (writes (sym x.sink i))) over in
    record {
      gives = (d.out, d.written_is, d.gives);
      one_write = d.one_write;
      whole = d.whole;
      all = d.all;
      cut = d.cut;
      read = d.read;
      write = d.write;
      read_good = d.read_good;
      write_good = d.write_good;
      reads = d.reads;
      writes = d.writes;
      stopped = c.ended-in-Ok-ran.ensures.may;
    }

pub returns-in_default : goal.returns-in_default
returns-in_default g c =
    let s = c.args.sizes.now in
    let q : Tree = tree_of c.args.plan.now in
    let wrote = g.K.Sink.written in
    let failed = g.K.Sink.faults in
    let writes = g.K.Sink.writes in
    let feed = g.F.Feed in
    let v : FeedView = feed_seen feed.taken feed.waiting feed.mark feed.faults c.args.feed.now in
    let w = wrote c.args.sink in
    let f = failed c.args.sink in
    let times = writes c.args.sink in
    let e = c.new-stage.ensures in
    let x = c.ended.ensures in
    let ends : c.ended.result.end ≡ NoMemory = x.end ∙ ap (λ z. end_of z over_by.NoMemory None) e.runs in
    let counts : c.ended.result.tasks ≡ 0 = x.tasks ∙ e.none in
    let sink : c.ended.result.sink ≡ c.args.sink = x.sink ∙ e.sink in
    let nothing = fed_nothing q (checked_fit q c.ring_size-ring.ensures.checked) s v w f times in
    let d : FedDone q s v v.faults w f times c.ended.result.end c.ended.result.tasks (wrote c.ended.result.sink) (failed c.ended.result.sink) (writes c.ended.result.sink) =
    transport (λ i. FedDone q s v v.faults w f times (sym ends i) (sym counts i) (wrote (sym sink i)) (failed (sym sink i)) (writes (sym sink i))) nothing in
    record {
      gives = (d.out, d.written_is, d.gives);
      one_write = d.one_write;
      whole = d.whole;
      all = d.all;
      cut = d.cut;
      read = d.read;
      write = d.write;
      read_good = d.read_good;
      write_good = d.write_good;
      reads = d.reads;
      writes = d.writes;
      stopped = c.ended.ensures.may;
    }

pub returns-in-Err : goal.returns-in-Err
returns-in-Err g c =
    let s = c.args.sizes.now in
    let q : Tree = tree_of c.args.plan.now in
    let wrote = g.K.Sink.written in
    let failed = g.K.Sink.faults in
    let writes = g.K.Sink.writes in
    let feed = g.F.Feed in
    let seen_as : g.row.F.Denot → FeedView = feed_seen feed.taken feed.waiting feed.mark feed.faults in
    let v : FeedView = seen_as c.args.feed.now in
    let w = wrote c.args.sink in
    let f = failed c.args.sink in
    let times = writes c.args.sink in
    let e = c.new-stage.ensures in
    let same = c.in-Err.ensures.refused in
    let x = c.ended-in-Err.ensures in
    let ends : c.ended-in-Err.result.end ≡ NoMemory = x.end ∙ ap (λ z. end_of z.state over_by.NoMemory None) same.0 ∙ ap (λ z. end_of z over_by.NoMemory None) e.runs in
    let counts : c.ended-in-Err.result.tasks ≡ 0 = x.tasks ∙ ap (λ z. z.k) same.0 ∙ e.none in
    let sink : c.ended-in-Err.result.sink ≡ c.args.sink = x.sink ∙ ap (λ z. z.sink) same.0 ∙ e.sink in
    let nothing = fed_nothing q (checked_fit q c.ring_size-ring.ensures.checked) s v w f times in
    let d : FedDone q s (seen_as c.run-ran.new.from) v.faults w f times c.ended-in-Err.result.end c.ended-in-Err.result.tasks (wrote c.ended-in-Err.result.sink) (failed c.ended-in-Err.result.sink) (writes c.ended-in-Err.result.sink) =
    transport (λ i. FedDone q s (seen_as (sym same.2 i)) v.faults w f times (sym ends i) (sym counts i) (wrote (sym sink i)) (failed (sym sink i)) (writes (sym sink i))) nothing in
    record {
      gives = (d.out, d.written_is, d.gives);
      one_write = d.one_write;
      whole = d.whole;
      all = d.all;
      cut = d.cut;
      read = d.read;
      write = d.write;
      read_good = d.read_good;
      write_good = d.write_good;
      reads = d.reads;
      writes = d.writes;
      stopped = c.ended-in-Err.ensures.may;
    }
