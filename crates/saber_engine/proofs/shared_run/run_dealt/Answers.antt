use Rattle.std.proofs.Common.{◌≡◌, length, sym, ◌∙◌, arith}
use Rattle.std.proofs.Math.Path.{transport}
use Rattle.std.specs.Prelude.{None}
use Rattle.std.specs.List.{AllZip}
use Rattle.saber_crew.specs.declared.dispatch.Over.TheVariants as over_by
use Rattle.saber_plan.specs.Sizes.{limits_of}
use Rattle.saber_dispatch.specs.Ending.{without_end}
use Rattle.saber_dispatch.specs.Sources.{each_input}
use Rattle.saber_engine.specs.Jobs.{tree_in, sink_in, Stands, EndsAs}
use Rattle.saber_engine.specs.Runs.{RunsPlan}
use Rattle.saber_engine.proofs.EachBegins.{begins_all, zip_long, three_long}
use Rattle.saber_engine.proofs.EachEnds.{all_run, runs_long, each_can, all_ran, each_refused}
use Rattle.saber_engine.proofs.LastTakes.{tells_all, takes_long}
use Rattle.saber_engine.proofs.Results.{suits}
use Rattle.saber_engine.proofs.Serves.{still_fit}
use Rattle.saber_engine.proofs.shared_run.run_dealt.Goals as goal

pub begin_all-members-requires : goal.begin_all-members-requires
begin_all-members-requires g c =
    let long = zip_long (λ op job. g.O.Operator.plan op ≡ tree_in job) c.args.operators.now.list.items c.args.jobs.items c.requires.plans in
    record { many = sym long; none = (c.requires.none.0, c.requires.none.1); room = omega (arith, long, c.requires.room.0) }

pub run-ran-requires-clause-begins : goal.run-ran-requires-clause-begins
run-ran-requires-clause-begins g c spans live =
    let s = c.args.sizes.now in
    let left = each_input g.S.Source.left c.args.inputs.now in
    let faults = each_input g.S.Source.faults c.args.inputs.now in
    let (columns, may) = c.requires.share in
    let b = c.requires.begins in
    begins_all g.O.Operator.plan g.O.Operator.contents g.O.Operator.has_taken g.K.Sink.written g.K.Sink.faults g.K.Sink.writes tree_in sink_in (without_end s) (still_fit s c.requires.sizes) columns left faults
    c.args.begun.dealt.cutter c.args.begun.dealt.end c.requires.goes_on c.requires.goes (λ q one. suits q (limits_of s) g.S.Source.left c.args.inputs.now (c.requires.inputs ∙ sym one))
    c.args.operators.now.list.items c.args.jobs.items c.args.begun.dealt.keepers.items c.begin_all-members.result.items c.requires.some c.requires.plans may c.requires.cuts c.requires.keepers c.begin_all-members.ensures.stand
    c.sizes_for-threads.result.task g.J.Begins.sizes g.J.Begins.lefts g.J.Begins.faults c.sizes_for-threads.ensures.task b.0 b.1 b.2

pub take_last-members-requires : goal.take_last-members-requires
take_last-members-requires g c =
    let plan = g.O.Operator.plan in
    let contents = g.O.Operator.contents in
    let has_taken = g.O.Operator.has_taken in
    let wrote = g.K.Sink.written in
    let failed = g.K.Sink.faults in
    let writes = g.K.Sink.writes in
    let s = c.args.sizes.now in
    let had = each_input g.S.Source.left c.args.inputs.now in
    let has = each_input g.S.Source.left c.run-ran.new.from in
    let before = each_input g.S.Source.faults c.args.inputs.now in
    let now = each_input g.S.Source.faults c.run-ran.new.from in
    let dealt = c.run-ran.new.supply in
    let fed = c.in-Ok.fed in
    let news = c.in-Ok.members in
    let olds = c.begin_all-members.result.items in
    let ops = c.args.operators.now.list.items in
    let jobs = c.args.jobs.items in
    let n = c.sizes_for-threads.result.task in
    let b = c.requires.begins in
    let runs = all_run plan contents has_taken wrote failed writes s had has before now dealt.cutter dealt.end fed ops olds news dealt.keepers.items n g.J.Begins.sizes g.J.Begins.lefts g.J.Begins.faults c.sizes_for-threads.ensures.task b.0 b.1 b.2 c.in-Ok.ensures.ended in
    record {
      many = runs_long plan contents has_taken wrote failed writes s had has before now dealt.cutter dealt.end fed (λ op job m. Stands plan contents has_taken wrote failed writes op (sink_in job) m) ops jobs olds news.items c.begin_all-members.ensures.stand runs;
      can = (
        s,
        tells_all plan tree_in s ops jobs c.args.counts.now c.requires.plans c.requires.counts,
        each_can plan contents has_taken wrote failed writes s had has before now dealt.cutter dealt.end fed (λ op job m. Stands plan contents has_taken wrote failed writes op (sink_in job) m) c.last_block-last.result c.last_block-last.ensures ops jobs olds news.items c.begin_all-members.ensures.stand runs,
      );
    }

pub end_all-requires : goal.end_all-requires
end_all-requires g c =
    let plan = g.O.Operator.plan in
    let contents = g.O.Operator.contents in
    let has_taken = g.O.Operator.has_taken in
    let wrote = g.K.Sink.written in
    let failed = g.K.Sink.faults in
    let writes = g.K.Sink.writes in
    let s = c.args.sizes.now in
    let had = each_input g.S.Source.left c.args.inputs.now in
    let has = each_input g.S.Source.left c.run-ran.new.from in
    let before = each_input g.S.Source.faults c.args.inputs.now in
    let now = each_input g.S.Source.faults c.run-ran.new.from in
    let dealt = c.run-ran.new.supply in
    let fed = c.in-Ok.fed in
    let news = c.in-Ok.members in
    let olds = c.begin_all-members.result.items in
    let ops = c.args.operators.now.list.items in
    let jobs = c.args.jobs.items in
    let n = c.sizes_for-threads.result.task in
    let b = c.requires.begins in
    let runs = all_run plan contents has_taken wrote failed writes s had has before now dealt.cutter dealt.end fed ops olds news dealt.keepers.items n g.J.Begins.sizes g.J.Begins.lefts g.J.Begins.faults c.sizes_for-threads.ensures.task b.0 b.1 b.2 c.in-Ok.ensures.ended in
    let same = runs_long plan contents has_taken wrote failed writes s had has before now dealt.cutter dealt.end fed (λ op job m. Stands plan contents has_taken wrote failed writes op (sink_in job) m) ops jobs olds news.items c.begin_all-members.ensures.stand runs in
    let takes = c.take_last-members.ensures.takes s (tells_all plan tree_in s ops jobs c.args.counts.now c.requires.plans c.requires.counts) in
    let stay = takes_long plan contents has_taken wrote failed writes c.last_block-last.result s ops news.items c.take_last-members.result.items takes in
    let long = zip_long (λ op job. plan op ≡ tree_in job) ops jobs c.requires.plans in
    record { none = (c.requires.none.2, c.requires.none.3); room = omega (arith, same, stay, long, c.requires.room.1) }

pub end_all-requires-in-Err-clause-room : goal.end_all-requires-in-Err-clause-room
end_all-requires-in-Err-clause-room g c =
    let olds = c.begin_all-members.result.items in
    let back = c.in-Err.ensures.refused in
    let same : length c.in-Err.members.items ≡ length olds = λ i. length (back.0 i).items in
    let long = three_long (λ op job m. Stands g.O.Operator.plan g.O.Operator.contents g.O.Operator.has_taken g.K.Sink.written g.K.Sink.faults g.K.Sink.writes op (sink_in job) m) c.args.operators.now.list.items c.args.jobs.items olds c.begin_all-members.ensures.stand in
    omega (arith, same, long, c.requires.room.1)

pub returns-in-Ok : goal.returns-in-Ok
returns-in-Ok g c =
    let plan = g.O.Operator.plan in
    let contents = g.O.Operator.contents in
    let has_taken = g.O.Operator.has_taken in
    let wrote = g.K.Sink.written in
    let failed = g.K.Sink.faults in
    let writes = g.K.Sink.writes in
    let s = c.args.sizes.now in
    let had = each_input g.S.Source.left c.args.inputs.now in
    let has = each_input g.S.Source.left c.run-ran.new.from in
    let before = each_input g.S.Source.faults c.args.inputs.now in
    let now = each_input g.S.Source.faults c.run-ran.new.from in
    let dealt = c.run-ran.new.supply in
    let fed = c.in-Ok.fed in
    let news = c.in-Ok.members in
    let olds = c.begin_all-members.result.items in
    let ops = c.args.operators.now.list.items in
    let jobs = c.args.jobs.items in
    let n = c.sizes_for-threads.result.task in
    let (columns, may) = c.requires.share in
    let b = c.requires.begins in
    let runs = all_run plan contents has_taken wrote failed writes s had has before now dealt.cutter dealt.end fed ops olds news dealt.keepers.items n g.J.Begins.sizes g.J.Begins.lefts g.J.Begins.faults c.sizes_for-threads.ensures.task b.0 b.1 b.2 c.in-Ok.ensures.ended in
    let takes = c.take_last-members.ensures.takes s (tells_all plan tree_in s ops jobs c.args.counts.now c.requires.plans c.requires.counts) in
    all_ran plan contents has_taken wrote failed writes g.S.Source.left g.S.Source.faults tree_in sink_in s columns c.args.inputs.now c.run-ran.new.from c.requires.inputs dealt.cutter dealt.end fed c.last_block-last.result c.last_block-last.ensures
    ops jobs olds news.items c.take_last-members.result.items c.end_all.result.items c.requires.plans may c.begin_all-members.ensures.stand runs takes c.let_go-over.result c.let_go-over.ensures c.end_all.ensures.ends

pub returns-in-Err : goal.returns-in-Err
returns-in-Err g c =
    let (columns, may) = c.requires.share in
    let same = c.in-Err.ensures.refused in
    let ends : AllZip (EndsAs over_by.NoMemory None) c.begin_all-members.result.items c.end_all-in-Err.result.items = transport (λ i. AllZip (EndsAs over_by.NoMemory None) (same.0 i).items c.end_all-in-Err.result.items) c.end_all-in-Err.ensures.ends in
    let all = each_refused g.O.Operator.plan g.O.Operator.contents g.O.Operator.has_taken g.K.Sink.written g.K.Sink.faults g.K.Sink.writes g.S.Source.left g.S.Source.faults tree_in sink_in c.args.sizes.now columns
    c.args.inputs.now c.requires.inputs c.args.operators.now.list.items c.args.jobs.items c.begin_all-members.result.items c.end_all-in-Err.result.items may c.begin_all-members.ensures.stand ends in
    transport (λ i. AllZip (λ job ran. RunsPlan g.S.Source.left g.S.Source.faults g.K.Sink.written g.K.Sink.faults g.K.Sink.writes (tree_in job) c.args.sizes.now c.args.inputs.now (sym same.2 i) (sink_in job) ran) c.args.jobs.items c.end_all-in-Err.result.items) all
