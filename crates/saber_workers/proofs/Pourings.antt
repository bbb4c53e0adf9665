-- A stage whose sink let go of what it held back.
use Rattle.std.proofs.Common.{◌≡◌, ℕ, ◌+◌, Bool, true, false, sym, ◌∙◌}
use Rattle.std.proofs.Math.Path.{transport}
use Rattle.saber_plan.specs.Inputs.{Input}
use Rattle.saber_plan.specs.Trees.{Tree}
use Rattle.saber_assembly.specs.declared.stage.Stage.{Stage}
use Rattle.saber_assembly.specs.declared.work.RunData.{RunData}
use Rattle.saber_plan.specs.Stages.{StageView, Keeps}
use Rattle.saber_assembly.specs.Works.{input_of, start_of, IsStageOf}
use Rattle.saber_workers.specs.Labors.{GoesOn}

module _ {O S K : Type 0} (plan : O → Tree) (view : Stage S K → StageView) (taken : O → S → Input → Type 0) (told : RunData O) (old new : Stage S K)
    (store : new.store ≡ old.store) (tasks : new.k ≡ old.k) (state : new.state ≡ old.state) (alike : view new ≡ view old) where
  -- it stands as before
  stands : (t : RunData O) (k : ℕ) (stopped : Bool) → IsStageOf plan view taken t k stopped old → IsStageOf plan view taken t k stopped new
  stands t k stopped is = record {
    behind = tasks ∙ is.behind;
    keeps = transport (λ i. Keeps (plan t.operator) t.size (input_of t) (start_of t) (taken t.operator (sym store i)) (sym alike i)) is.keeps;
    runs = λ e. state ∙ is.runs e;
    stops = λ e f. is.stops e (sym state ∙ f);
  }

  -- so it goes on as it would have
  pub poured : (k : ℕ) (goes : Bool) → GoesOn (IsStageOf plan view taken) told k old goes → GoesOn (IsStageOf plan view taken) told k new goes
  poured k true is = stands told (k + 1) false is
  poured k false is = stands told k true is
