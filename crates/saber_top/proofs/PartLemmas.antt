-- From the runs of several plans over one input to the parts that tell them.
use Rattle.std.proofs.Common.{◌≡◌, ◌≢◌, ℕ, suc, List, [], ◌∷◌, ◌++◌, length, map, Option, Some, None, IfSome, refl, sym, ◌∙◌, ap, subst, arith}
use Rattle.std.specs.List.{AllByRecursion, AllZip}
use Rattle.saber_plan.specs.Outputs.{Rose, appended_text, raised_by}
use Rattle.saber_io.specs.Outs.{HoldsNothing}
use Rattle.saber_io.specs.declared.pours.Plain.{Plain}
use Rattle.saber_plan.specs.declared.plans.Plan.{Plan}
use Rattle.saber_plan.specs.declared.rows.Side.TheVariants as sides
use Rattle.saber_plan.specs.declared.sizes.Sizes.{Sizes}
use Rattle.saber_plan.specs.Runs.{GivesOver, writes_over}
use Rattle.saber_plan.specs.Checked.{IsChecked, columns_on}
use Rattle.saber_plan.specs.Trees.{Tree, tree_of}
use Rattle.saber_dispatch.specs.declared.inputs.Inputs.{Inputs}
use Rattle.saber_engine.specs.declared.ends.Ran.{Ran}
use Rattle.saber_engine.specs.declared.jobs.Job.{Job}
use Rattle.saber_engine.specs.Jobs.{tree_in, sink_in}
use Rattle.saber_engine.specs.Gives.{LeavesWhole}
use Rattle.saber_engine.specs.Runs.{RunsPlan}
use Rattle.saber_engine.specs.Sources.{each_input, told_by, GaveAll}
use Rattle.saber_top.specs.declared.parts.Part.{Part}
use Rattle.saber_top.specs.Made.{IsJobOf}
use Rattle.saber_top.specs.Queries.{HasStream}
use Rattle.saber_top.specs.Shared.{Holds, IsPartOf, RunsPart, TellsEnd}

-- lists of which each goes with one of the other are as long
pub zip_long : {A B : Type 0} (R : A → B → Type 0) (xs : List A) (ys : List B) → AllZip R xs ys → length ys ≡ length xs
zip_long R [] [] z = refl
zip_long R [] (y ∷ ys) z = absurd z
zip_long R (x ∷ xs) [] z = absurd z
zip_long R (x ∷ xs) (y ∷ ys) z = ap suc (zip_long R xs ys z.1)

-- ---- what is asked of jobs

module _ {T : Type 0} (written : T → Option (List ℕ)) (failed made : T → ℕ) where
  pub jobs_checked : (plans : List Plan) (jobs : List (Job (Plain T))) → AllZip (IsJobOf written failed made) plans jobs → AllByRecursion (λ plan. IsChecked (tree_of plan)) plans → AllByRecursion (λ job. IsChecked (tree_in job)) jobs
  jobs_checked [] [] z h = tt
  jobs_checked [] (job ∷ jobs) z h = absurd z
  jobs_checked (plan ∷ plans) [] z h = absurd z
  jobs_checked (plan ∷ plans) (job ∷ jobs) z h = (subst IsChecked (sym z.0.plan_is) h.0, jobs_checked plans jobs z.1 h.1)

  pub jobs_of_one : (columns : ℕ) (plans : List Plan) (jobs : List (Job (Plain T))) → AllZip (IsJobOf written failed made) plans jobs → AllByRecursion (HasStream columns) (map tree_of plans) → AllByRecursion (λ job. length (tree_in job).streams ≡ 1) jobs
  jobs_of_one columns [] [] z h = tt
  jobs_of_one columns [] (job ∷ jobs) z h = absurd z
  jobs_of_one columns (plan ∷ plans) [] z h = absurd z
  jobs_of_one columns (plan ∷ plans) (job ∷ jobs) z h = (subst (λ (q : Tree). length q.streams ≡ 1) (sym z.0.plan_is) h.0.one, jobs_of_one columns plans jobs z.1 h.1)

  pub jobs_alike : (columns : ℕ) (plans : List Plan) (jobs : List (Job (Plain T))) → AllZip (IsJobOf written failed made) plans jobs → AllByRecursion (HasStream columns) (map tree_of plans) → AllByRecursion (λ job. columns_on (tree_in job).streams sides.Left ≡ columns) jobs
  jobs_alike columns [] [] z h = tt
  jobs_alike columns [] (job ∷ jobs) z h = absurd z
  jobs_alike columns (plan ∷ plans) [] z h = absurd z
  jobs_alike columns (plan ∷ plans) (job ∷ jobs) z h = (subst (λ (q : Tree). columns_on q.streams sides.Left ≡ columns) (sym z.0.plan_is) h.0.as_many, jobs_alike columns plans jobs z.1 h.1)

  pub jobs_many : (plans : List Plan) (jobs : List (Job (Plain T))) → AllZip (IsJobOf written failed made) plans jobs → length jobs ≡ length plans
  jobs_many [] [] z = refl
  jobs_many [] (job ∷ jobs) z = absurd z
  jobs_many (plan ∷ plans) [] z = absurd z
  jobs_many (plan ∷ plans) (job ∷ jobs) z = omega (arith, jobs_many plans jobs z.1)

  pub jobs_some : (plans : List Plan) (jobs : List (Job (Plain T))) → AllZip (IsJobOf written failed made) plans jobs → plans ≢ [] → jobs ≢ []
  jobs_some [] [] z n e = n refl
  jobs_some [] (job ∷ jobs) z n e = absurd z
  jobs_some (plan ∷ plans) [] z n e = absurd z
  jobs_some (plan ∷ plans) (job ∷ jobs) z n e = cc

-- ---- parts

-- what went out, into a file that had nothing
holds_so : (had has : Option (List ℕ)) (out : List ℕ) → HoldsNothing had → has ≡ appended_text had out → Holds has out
holds_so None has out h e = subst (λ x. Holds x out) (sym e) tt
holds_so (Some bytes) has out h e = subst (λ x. Holds x out) (sym e) (ap (λ x. x ++ out) h)

if_told : {A : Type 0} {P Q : A → Type 0} (o : Option A) → ((x : A) → P x → Q x) → IfSome o P → IfSome o Q
if_told None f h = tt
if_told (Some x) f h = f x h

module _ {S T : Type 0} (left : S → Option (List ℕ)) (faults : S → ℕ) (written : T → Option (List ℕ)) (failed made : T → ℕ) where
  -- a run of a job, and its part
  abbrev pub RunsJob : Sizes → Inputs S → Inputs S → Job (Plain T) → Ran (Plain T) → Type 0
  RunsJob s had has job ran = RunsPlan left faults (λ p. written p.sink) (λ p. failed p.sink) (λ p. made p.sink) (tree_in job) s had has (sink_in job) ran

  tells_so : (s : Sizes) (had has : Inputs S) (plan : Plan) (job : Job (Plain T)) (ran : Ran (Plain T)) (part : Part T) → IsJobOf written failed made plan job → RunsJob s had has job ran → IsPartOf s.ring ran part → TellsEnd failed s.ring ran.end part
  tells_so s had has plan job ran part j r p = record {
    outcome_is = p.outcome_is;
    status_is = p.status_is;
    write = λ e. subst (λ x. Rose 0 (failed x)) (sym p.out_is) (subst (λ n. Rose n (failed ran.sink.sink)) j.new.good (r.write e));
    write_good = λ n. ap failed p.out_is ∙ r.write_good n ∙ j.new.good;
  }

  part_runs : (s : Sizes) (had has : Inputs S) (plan : Plan) (job : Job (Plain T)) (ran : Ran (Plain T)) (part : Part T) → IsJobOf written failed made plan job → RunsJob s had has job ran → IsPartOf s.ring ran part → RunsPart left faults written failed made (tree_in job) s had has part
  part_runs s had has plan job ran part j r p = record {
    end = ran.end;
    out = r.gives.0;
    tells = tells_so s had has plan job ran part j r p;
    holds = subst (λ x. Holds (written x) r.gives.0) (sym p.out_is) (holds_so (written (sink_in job).sink) (written ran.sink.sink) r.gives.0 j.new.empty r.gives.1);
    gives = subst (λ n. IfSome (told_by left had) (λ all. GivesOver (tree_in job) s all ran.end n r.gives.0)) (sym p.tasks_are) r.gives.2;
    one_write = if_told (told_by left had) (λ all e. ap made p.out_is ∙ e ∙ (λ i. raised_by (j.new.unwritten i) (writes_over (tree_in job) s all ran.end (sym p.tasks_are i)))) r.one_write;
    whole = subst (LeavesWhole (tree_in job) s (each_input left had) (each_input left has) ran.end) (sym p.tasks_are) r.whole;
    read = r.read;
    read_good = r.read_good;
  }

  -- so it is of all
  pub parts_run : (s : Sizes) (had has : Inputs S) (plans : List Plan) (jobs : List (Job (Plain T))) (rans : List (Ran (Plain T))) (parts : List (Part T)) → AllZip (IsJobOf written failed made) plans jobs → AllZip (RunsJob s had has) jobs rans → AllZip (IsPartOf s.ring) rans parts
      → AllZip (λ plan part. RunsPart left faults written failed made (tree_of plan) s had has part) plans parts
  parts_run s had has [] [] [] [] j r p = tt
  parts_run s had has [] [] [] (part ∷ parts) j r p = absurd p
  parts_run s had has [] [] (ran ∷ rans) parts j r p = absurd r
  parts_run s had has [] (job ∷ jobs) rans parts j r p = absurd j
  parts_run s had has (plan ∷ plans) [] rans parts j r p = absurd j
  parts_run s had has (plan ∷ plans) (job ∷ jobs) [] parts j r p = absurd r
  parts_run s had has (plan ∷ plans) (job ∷ jobs) (ran ∷ rans) [] j r p = absurd p
  parts_run s had has (plan ∷ plans) (job ∷ jobs) (ran ∷ rans) (part ∷ parts) j r p =
      (subst (λ q. RunsPart left faults written failed made q s had has part) j.0.plan_is (part_runs s had has plan job ran part j.0 r.0 p.0), parts_run s had has plans jobs rans parts j.1 r.1 p.1)

  -- the input is as many sources as before
  pub took : (s : Sizes) (had has : Inputs S) (jobs : List (Job (Plain T))) (rans : List (Ran (Plain T))) → AllZip (RunsJob s had has) jobs rans → jobs ≢ [] → (taken : List (List ℕ)) × GaveAll (each_input left had) taken (each_input left has)
  took s had has [] rans r n = absurd (n refl)
  took s had has (job ∷ jobs) [] r n = absurd r
  took s had has (job ∷ jobs) (ran ∷ rans) r n = r.0.takes
