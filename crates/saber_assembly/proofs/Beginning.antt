-- A stage before its first task.
use Rattle.std.proofs.Common.{◌≡◌, ℕ, [], sym, ◌∙◌, ap, subst}
use Rattle.saber_plan.specs.Outputs.{raised_by, appended_text, appended-none}
use Rattle.saber_plan.specs.Inputs.{Input, going_on}
use Rattle.saber_plan.specs.Trees.{Tree}
use Rattle.saber_plan.specs.Answers.{text}
use Rattle.saber_plan.specs.Tasks.{upto, kept_behind, nothing_kept}
use Rattle.saber_plan.specs.Runs.{tasks_with_text}
use Rattle.saber_plan.specs.Stages.{StageView, Start, Tasks, After, Keeps}
use Rattle.saber_plan.specs.declared.stages.StageState.TheVariants.{Running}
use Rattle.saber_laws.proofs.StepLaws.{no_rows_give_nothing}
use Rattle.saber_laws.proofs.TaskCutLaws.{no_tasks_no_rows}
use Rattle.saber_laws.proofs.WriteLaws.{no_tasks_no_text}

pub begins : (q : Tree) (n : ℕ) (r : Input) (start : Start) (taken : Input → Type 0) (s : StageView) → Tasks q n r → s.written ≡ start.written → s.faults ≡ start.faults → s.writes ≡ start.writes → s.kept ≡ nothing_kept → s.k ≡ 0 → s.state ≡ Running → taken (going_on []) → Keeps q n r start taken s
begins q n r start taken s t written faults writes kept k run had =
    let no_rows : upto n r s.k ≡ going_on [] = ap (upto n r) k ∙ no_tasks_no_rows n r in
    let nothing = no_rows_give_nothing q t.windows in
    let a : After q n r start s Running = (
      written ∙ appended-none start.written ∙ ap (appended_text start.written) (sym (ap (text q) no_rows ∙ nothing.text)),
      kept ∙ sym (ap (kept_behind q) no_rows ∙ nothing.kept),
      faults,
      writes ∙ ap (raised_by start.writes) (sym (ap (tasks_with_text q n r) k ∙ no_tasks_no_text q n r)),
    ) in
    record {
      after = subst (After q n r start s) (sym run) a;
      taken_is = λ _. subst taken (sym no_rows) had;
    }
