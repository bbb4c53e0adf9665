use Rattle.std.proofs.Common.{◌≡◌, ◌≤◌, ◌*◌, length, map, sym, subst, arith}
use Rattle.std.proofs.lemmas.Nat.{mul-le}
use Rattle.std.specs.List.{AllZip}
use Rattle.saber_plan.specs.Trees.{tree_of}
use Rattle.saber_top.specs.Made.{IsJobOf}
use Rattle.saber_top.specs.Queries.{first_columns}
use Rattle.saber_top.specs.Shared.{parts_in}
use Rattle.saber_top.proofs.MadeLemmas.{lacks_behind, lacks_first}
use Rattle.saber_top.proofs.PartLemmas.{jobs_alike, jobs_checked, jobs_many, jobs_of_one, jobs_some, parts_run, RunsJob, took, zip_long}
use Rattle.saber_top.proofs.left.run_source.Goals as goal

-- what is asked of the jobs
pub engines-requires-clause-some : goal.engines-requires-clause-some
engines-requires-clause-some g c κs within =
    let written = g.U.Out.Sink.written in
    let failed = g.U.Out.Sink.faults in
    let made = g.U.Out.Sink.writes in
    let plans = c.args.plans.now in
    let jobs = c.from.result.items in
    let z : AllZip (IsJobOf written failed made) plans jobs = subst (AllZip (IsJobOf written failed made) plans) (sym c.from.ensures.0) c.in-Ok-job_each.ensures.jobs in
    jobs_some written failed made plans jobs z c.requires.some

pub engines-requires-clause-checked : goal.engines-requires-clause-checked
engines-requires-clause-checked g c κs within =
    let written = g.U.Out.Sink.written in
    let failed = g.U.Out.Sink.faults in
    let made = g.U.Out.Sink.writes in
    let plans = c.args.plans.now in
    let jobs = c.from.result.items in
    let z : AllZip (IsJobOf written failed made) plans jobs = subst (AllZip (IsJobOf written failed made) plans) (sym c.from.ensures.0) c.in-Ok-job_each.ensures.jobs in
    jobs_checked written failed made plans jobs z c.requires.checked

pub engines-requires-clause-one : goal.engines-requires-clause-one
engines-requires-clause-one g c κs within =
    let written = g.U.Out.Sink.written in
    let failed = g.U.Out.Sink.faults in
    let made = g.U.Out.Sink.writes in
    let plans = c.args.plans.now in
    let jobs = c.from.result.items in
    let z : AllZip (IsJobOf written failed made) plans jobs = subst (AllZip (IsJobOf written failed made) plans) (sym c.from.ensures.0) c.in-Ok-job_each.ensures.jobs in
    let columns = first_columns (map tree_of plans) in
    jobs_of_one written failed made columns plans jobs z c.requires.share

pub engines-requires-clause-alike : goal.engines-requires-clause-alike
engines-requires-clause-alike g c κs within =
    let written = g.U.Out.Sink.written in
    let failed = g.U.Out.Sink.faults in
    let made = g.U.Out.Sink.writes in
    let plans = c.args.plans.now in
    let jobs = c.from.result.items in
    let z : AllZip (IsJobOf written failed made) plans jobs = subst (AllZip (IsJobOf written failed made) plans) (sym c.from.ensures.0) c.in-Ok-job_each.ensures.jobs in
    let columns = first_columns (map tree_of plans) in
    (columns, jobs_alike written failed made columns plans jobs z c.requires.share)

pub engines-requires-clause-threads : goal.engines-requires-clause-threads
engines-requires-clause-threads g c κs within =
    let written = g.U.Out.Sink.written in
    let failed = g.U.Out.Sink.faults in
    let made = g.U.Out.Sink.writes in
    let plans = c.args.plans.now in
    let jobs = c.from.result.items in
    let z : AllZip (IsJobOf written failed made) plans jobs = subst (AllZip (IsJobOf written failed made) plans) (sym c.from.ensures.0) c.in-Ok-job_each.ensures.jobs in
    let many : length jobs ≡ length plans = jobs_many written failed made plans jobs z in
    let few : length jobs * c.args.sizes.now.threads ≤ 8 * 8 = mul-le (length jobs) c.args.sizes.now.threads 8 8 (omega (arith, many, c.requires.few)) c.requires.threads in
    few

pub returns-in-Ok-engines-clause-parts : goal.returns-in-Ok-engines-clause-parts
returns-in-Ok-engines-clause-parts g c =
    let written = g.U.Out.Sink.written in
    let failed = g.U.Out.Sink.faults in
    let made = g.U.Out.Sink.writes in
    let plans = c.args.plans.now in
    let z : AllZip (IsJobOf written failed made) plans c.from.result.items = subst (AllZip (IsJobOf written failed made) plans) (sym c.from.ensures.0) c.in-Ok-job_each.ensures.jobs in
    parts_run g.S.Source.left g.S.Source.faults written failed made c.args.sizes.now c.args.inputs.now c.engines.new.inputs plans c.from.result.items c.in-Ok-engines.rans.items (parts_in c.part_all.result) z c.in-Ok-engines.ensures.each c.part_all.ensures.parts

pub returns-in-Ok-engines-clause-takes : goal.returns-in-Ok-engines-clause-takes
returns-in-Ok-engines-clause-takes g c =
    let written = g.U.Out.Sink.written in
    let failed = g.U.Out.Sink.faults in
    let made = g.U.Out.Sink.writes in
    let plans = c.args.plans.now in
    let z : AllZip (IsJobOf written failed made) plans c.from.result.items = subst (AllZip (IsJobOf written failed made) plans) (sym c.from.ensures.0) c.in-Ok-job_each.ensures.jobs in
    took g.S.Source.left g.S.Source.faults written failed made c.args.sizes.now c.args.inputs.now c.engines.new.inputs c.from.result.items c.in-Ok-engines.rans.items c.in-Ok-engines.ensures.each (jobs_some written failed made plans c.from.result.items z c.requires.some)

-- ---- memory lacks for the parts, or before a row is read

pub returns-in-Err-clause-early : goal.returns-in-Err-clause-early
returns-in-Err-clause-early g c = lacks_first 0 _ _

pub returns-in-Err-engines-clause-early : goal.returns-in-Err-engines-clause-early
returns-in-Err-engines-clause-early g c = lacks_behind 0 _ _ _ c.in-Ok-job_each.ensures.made

-- there is room for the parts
pub part_all-requires-clause-room : goal.part_all-requires-clause-room
part_all-requires-clause-room g c =
    let written = g.U.Out.Sink.written in
    let failed = g.U.Out.Sink.faults in
    let made = g.U.Out.Sink.writes in
    let plans = c.args.plans.now in
    let z : AllZip (IsJobOf written failed made) plans c.from.result.items = subst (AllZip (IsJobOf written failed made) plans) (sym c.from.ensures.0) c.in-Ok-job_each.ensures.jobs in
    let many : length c.from.result.items ≡ length plans = jobs_many written failed made plans c.from.result.items z in
    let each : length c.in-Ok-engines.rans.items ≡ length c.from.result.items = zip_long (RunsJob g.S.Source.left g.S.Source.faults written failed made c.args.sizes.now c.args.inputs.now c.engines.new.inputs) c.from.result.items c.in-Ok-engines.rans.items c.in-Ok-engines.ensures.each in
    omega (arith, many, each, c.in-Ok.ensures.capacity)
