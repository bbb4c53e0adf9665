-- A run before its first block.
use Rattle.std.proofs.Common.{◌≡◌, ℕ, ◌*◌, true, false, ◌≤◌, List, [], take, refl, sym, ◌∙◌, ap, subst, arith}
use Rattle.std.specs.Prelude.{Option, Some, None, IfSome}
use Rattle.std.specs.Int.{div_ceil}
use Rattle.saber_plan.specs.declared.rows.Row.{Row}
use Rattle.saber_plan.specs.Sizes.{limits_of}
use Rattle.saber_plan.specs.declared.sizes.Sizes.{Sizes}
use Rattle.saber_plan.specs.Inputs.{Input, going_on}
use Rattle.saber_plan.specs.Trees.{Tree}
use Rattle.saber_plan.specs.Answers.{frame}
use Rattle.saber_plan.specs.Windows.{Fits, no_rows, Ordered}
use Rattle.saber_plan.specs.GivenRows.{RowsFit}
use Rattle.saber_plan.specs.Tasks.{Kept}
use Rattle.saber_laws.proofs.TaskCutLaws.{no_tasks_no_rows}
use Rattle.saber_assembly.specs.declared.stage.Stage.{Stage}
use Rattle.saber_plan.specs.declared.stages.StageState.TheVariants.{Running}
use Rattle.saber_assembly.specs.declared.work.RunData.{RunData}
use Rattle.saber_assembly.specs.Stages.{stage_view}
use Rattle.saber_plan.specs.Stages.{Tasks, Keeps}
use Rattle.saber_assembly.specs.Works.{IsTold, IsStageOf}
use Rattle.saber_workers.specs.Queries.{Suits}
use Rattle.saber_crew.specs.Runs.{BeginsRun}
use Rattle.saber_dispatch.specs.declared.ends.End.TheVariants.{ReadFault}
use Rattle.saber_dispatch.specs.declared.cutter.Cutter.{Cutter}
use Rattle.saber_dispatch.specs.declared.keeper.Keeper.{Keeper}
use Rattle.saber_dispatch.specs.Sources.{Lefts}
use Rattle.saber_dispatch.specs.Readings as readings
use Rattle.saber_dispatch.specs.Keeping.{CountsRows}
use Rattle.saber_dispatch.specs.Cutting.{Cuts, CutsNothing, fresh, end_of}
use Rattle.saber_engine.specs.Sources.{rows_left}
use Rattle.saber_engine.specs.Supplying.{HasGiven, first_told}
use Rattle.saber_engine.proofs.Counts.{none_same}
use Rattle.saber_engine.proofs.Passed.{kept_none}
use Rattle.saber_plan.specs.Facts.Counts.{tasks_have_rows}

none_some : {A : Type 0} (x : A) → ◌≡◌ {A = Option A} None (Some x) → ⊥
none_some x e = cc

not_both : false ≡ true → ⊥
not_both e = cc

fits_none : (q : Tree) → RowsFit q no_rows []
unfolding Ordered
fits_none q = record { rows = tt; ordered = tt; left = omega arith; right = omega arith }

-- no rows are the first ones of no task
none_first : (n : ℕ) (o : Option (List Row)) → IfSome o (λ rows. [] ≡ take (0 * n) rows)
none_first n None = tt
none_first n (Some rows) = let none : 0 * n ≡ 0 = omega arith in sym (ap (λ m. take m rows) none)

-- no block was given
pub given_none : {O : Type 0} (plan : O → Tree) (op : O) (s : Sizes) (had : Lefts) (before : List ℕ) (w : Option (List ℕ)) (f times : ℕ) (c : Cutter) (k : Keeper) → CutsNothing (plan op) s c → end_of c ≡ None → readings.Suits (fresh (plan op) (limits_of s)) had → k.kept ≡ None → CountsRows k (plan op) [] → HasGiven plan s had had before before c k None (first_told op s.task w f times (rows_left plan s had op)) 0
given_none plan op s had before w f times c k nothing open_still suits kept counts =
    let cuts : Cuts (plan op) s had had c (going_on []) = nothing had suits in
    let few : div_ceil 0 s.task ≤ 0 = tasks_have_rows s.task 0 cuts.sizes.task.0 in
    record {
      cuts = cuts;
      size = refl;
      all = refl;
      count = let n = cuts.count in omega (arith, few, n);
      kept = λ _. kept_none k kept;
      placed = λ _. counts;
      ended = λ e i. absurd (none_some e i);
      sound = λ _ side i. none_some (ReadFault side) (sym open_still ∙ i);
      counted = record { fell = none_same before; good = λ _. refl; cause = λ side i. absurd (none_some (ReadFault side) i) };
    }

module _ {O S K : Type 0} (plan : O → Tree) (contents : S → Kept) (taken : O → S → Input → Type 0) (wrote : K → Option (List ℕ)) (failed writes : K → ℕ) (op : O) (n : ℕ) (rows : Option (List Row)) (stage : Stage S K) where
  abbrev told : RunData O
  told = first_told op n (wrote stage.sink) (failed stage.sink) (writes stage.sink) rows

  -- a run begins with a new stage
  pub begins : Fits (frame (plan op)) → 1 ≤ n → (sink : K) → stage.sink ≡ sink → stage.k ≡ 0 → stage.state ≡ Running
      → ((m : ℕ) (r : Input) → Tasks (plan op) m r → Keeps (plan op) m r (record { written = wrote sink; faults = failed sink; writes = writes sink }) (taken op stage.store) (stage_view contents wrote failed writes stage))
      → (given : RunData O → ℕ → Type 0) → given told 0
      → BeginsRun (IsTold plan) (IsStageOf plan (stage_view contents wrote failed writes) taken) (Suits op) given stage (Some told)
  begins fits some sink sink_is no_task running keeps given is =
      let t : Tasks (plan op) n (going_on []) = record { windows = fits; fits = fits_none (plan op); size = some } in (
        record { tasks = t; whole = no_tasks_no_rows n (going_on []); of_input = none_first n rows },
        record {
          behind = no_task;
          keeps = subst (λ k. Keeps (plan op) n (going_on []) (record { written = wrote k; faults = failed k; writes = writes k }) (taken op stage.store) (stage_view contents wrote failed writes stage)) (sym sink_is) (keeps n (going_on []) t);
          runs = λ _. running;
          stops = λ e. absurd (not_both e);
        },
        refl,
        is,
      )
