-- The stage behind a run, by the input of all blocks.
use Rattle.std.proofs.Common.{◌≡◌, ℕ, suc, Bool, true, false, ◌+◌, ◌≤◌, List, ◌++◌, refl, sym, ◌∙◌, ap, arith}
use Rattle.std.proofs.Math.Path.{transport}
use Rattle.std.specs.Prelude.{Option}
use Rattle.saber_plan.specs.declared.rows.Row.{Row}
use Rattle.saber_plan.specs.Outputs.{raised_by, appended_text}
use Rattle.saber_plan.specs.Inputs.{Input}
use Rattle.saber_plan.specs.Trees.{Tree}
use Rattle.saber_plan.specs.Answers.{text}
use Rattle.saber_plan.specs.Tasks.{Kept, upto, kept_behind}
use Rattle.saber_laws.proofs.TaskCutLaws.{first_of_first}
use Rattle.saber_laws.proofs.WriteLaws.{first_with_text}
use Rattle.saber_ring.specs.Shows.{extra}
use Rattle.saber_assembly.specs.declared.stage.Stage.{Stage}
use Rattle.saber_plan.specs.declared.stages.StageState.{StageState}
use Rattle.saber_plan.specs.declared.stages.StageState.TheVariants.{Running, SinkFailed, NoMemory}
use Rattle.saber_assembly.specs.declared.work.RunData.{RunData}
use Rattle.saber_assembly.specs.Stages.{stage_view}
use Rattle.saber_plan.specs.Stages.{StageView, Start, After}
use Rattle.saber_assembly.specs.Works.{IsTold, input_of, start_of, first_tasks, IsStageOf}
use Rattle.saber_crew.specs.declared.dispatch.Dispatched.{Dispatched}
use Rattle.saber_crew.specs.declared.dispatch.Over.TheVariants.{AllGiven}
use Rattle.saber_crew.specs.Runs.{RunsTo}
use Rattle.saber_engine.specs.Supplying.{first_told}

-- a stage by the input of the first tasks is one by all of it
after_all : (q : Tree) (n : ℕ) (r : Input) (start : Start) (j : ℕ) (s : StageView) (state : StageState) → s.k ≤ j → (state ≡ SinkFailed → s.k + 1 ≤ j) → After q n (upto n r j) start s state → After q n r start s state
after_all q n r start j s Running le next a =
    let same = first_of_first n r j s.k le in (
      a.0 ∙ ap (λ z. appended_text start.written (text q z)) same,
      a.1 ∙ ap (kept_behind q) same,
      a.2,
      a.3 ∙ ap (raised_by start.writes) (first_with_text q n r j s.k le),
    )
after_all q n r start j s SinkFailed le next a =
    let same = first_of_first n r j s.k le in let more = first_of_first n r j (s.k + 1) (next refl) in let c = a.0.is_cut in (
      record {
        out = a.0.out;
        written_is = a.0.written_is;
        is_cut = record {
          more = c.more;
          rest = c.rest;
          out_is = c.out_is ∙ ap (λ z. text q z ++ c.more) same;
          next_is = sym (ap (text q) more) ∙ c.next_is ∙ ap (λ z. text q z ++ (c.more ++ c.rest)) same;
        };
      },
      a.1,
      a.2,
      a.3 ∙ ap (λ m. raised_by start.writes (suc m)) (first_with_text q n r j s.k le),
    )
after_all q n r start j s NoMemory le next a = (a.0 ∙ ap (λ z. appended_text start.written (text q z)) (first_of_first n r j s.k le), a.1, a.2 ∙ ap (raised_by start.writes) (first_with_text q n r j s.k le))

apart : Running ≡ SinkFailed → ⊥
apart e = cc

module _ {O S K : Type 0} (plan : O → Tree) (contents : S → Kept) (taken : O → S → Input → Type 0) (wrote : K → Option (List ℕ)) (failed writes : K → ℕ) (op : O) (n : ℕ) (w : Option (List ℕ)) (f times : ℕ) (rows : Option (List Row)) (given : RunData O → ℕ → Type 0) (over : Type 0) (s : Stage S K) (fed : Dispatched)
    (r : RunsTo (IsTold plan) first_tasks (IsStageOf plan (stage_view contents wrote failed writes) taken) given over (first_told op n w f times rows) s fed) where
  pub op_is : r.told.operator ≡ op
  op_is = ap (λ (z : RunData O). z.operator) r.base_is

  size_is : r.told.size ≡ n
  size_is = ap (λ (z : RunData O). z.size) r.base_is

  start_is : start_of r.told ≡ record { written = w; faults = f; writes = times }
  start_is = ap (λ (z : RunData O). start_of z) r.base_is

  few_in : (x : Bool) → s.k ≤ r.k + extra x
  few_in false = let k = r.stage_is.behind in omega arith
  few_in true = let k = r.stage_is.behind in omega arith

  next_in : (x : Bool) → r.stopped ≡ x → s.state ≡ SinkFailed → s.k + 1 ≤ r.k + extra x
  next_in false e h = absurd (apart (sym (r.stage_is.runs e) ∙ h))
  next_in true e h = let k = r.stage_is.behind in omega arith

  -- where the stage stands
  pub after : After (plan op) n (input_of r.told) (record { written = w; faults = f; writes = times }) (stage_view contents wrote failed writes s) s.state
  after =
      let v = stage_view contents wrote failed writes s in let j : ℕ = r.k + extra r.stopped in
      transport (λ i. After (plan (op_is i)) (size_is i) (input_of r.told) (start_is i) v s.state) (after_all (plan r.told.operator) r.told.size (input_of r.told) (start_of r.told) j v s.state (few_in r.stopped) (next_in r.stopped refl) r.stage_is.keeps.after)

  pub few : s.k ≤ r.count
  few = let k = few_in r.stopped in omega (arith, k, r.within, r.few)

  pub few_next : s.state ≡ SinkFailed → s.k + 1 ≤ r.count
  few_next h = let k = next_in r.stopped refl h in omega (arith, k, r.within, r.few)

  goes_on : s.state ≡ Running → (x : Bool) → r.stopped ≡ x → x ≡ false
  goes_on h false e = refl
  goes_on h true e = absurd (r.stage_is.stops e h)

  -- all is behind a stage that runs, where all was given
  pub all_behind : s.state ≡ Running → fed.over ≡ AllGiven → (s.k ≡ r.count) × over
  all_behind h e = let all = r.all e in (r.stage_is.behind ∙ (r.runs (goes_on h r.stopped refl)).0 ∙ all.0, all.1)
