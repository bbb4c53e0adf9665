-- The ordered assembly's step, by the input filled so far.
use Rattle.std.proofs.Common.{◌≡◌, ◌≢◌, ℕ, false, List, refl, sym, ◌∙◌, ap, subst}
use Rattle.std.specs.Prelude.{Option, Some, None, IfSome, IfNone}
use Rattle.saber_plan.specs.Outputs.{raised_by, appended_text}
use Rattle.saber_plan.specs.Runs.{tasks_with_text}
use Rattle.saber_plan.specs.Inputs.{Input}
use Rattle.saber_plan.specs.Trees.{Tree}
use Rattle.saber_plan.specs.Answers.{text}
use Rattle.saber_plan.specs.Tasks.{Kept, upto}
use Rattle.saber_core.specs.Works.{IsPieceOrMark}
use Rattle.saber_assembly.specs.declared.stage.Stage.{Stage}
use Rattle.saber_plan.specs.declared.stages.StageState.TheVariants.{Running, SinkFailed, NoMemory}
use Rattle.saber_assembly.specs.declared.stage.Absorbed.{Absorbed}
use Rattle.saber_assembly.specs.declared.stage.Absorbed.TheVariants.{Stopped}
use Rattle.saber_fragment.specs.Stores.{CanTakeIn}
use Rattle.saber_assembly.specs.declared.work.RunData.{RunData}
use Rattle.saber_assembly.specs.Stages.{stage_view, IsPieceAt}
use Rattle.saber_plan.specs.Stages.{Start, Tasks, After, Keeps}
use Rattle.saber_assembly.specs.Works.{input_of, first_tasks, start_of, IsPieceOf, IsStageOf}
use Rattle.saber_assembly.specs.WorkLaws.{keeps_on, takes_next}
use Rattle.saber_workers.specs.Queries.{Suits}

apart : NoMemory ≡ Running → ⊥
apart e = cc

unlike : NoMemory ≡ SinkFailed → ⊥
unlike e = cc

module _ {O P S K : Type 0} (plan : O → Tree) (is_of : O → P → Input → ℕ → ℕ → Type 0) (contents : S → Kept) (taken : O → S → Input → Type 0) (written : K → Option (List ℕ)) (faults writes : K → ℕ)
    (op : O) (told : RunData O) (k : ℕ) (old new : Stage S K) (suits : Suits op told) (is : IsStageOf plan (stage_view contents written faults writes) taken (first_tasks told k) k false old) where
  abbrev KeepsAt : O → ℕ → Input → Start → Stage S K → Type 0
  KeepsAt z n r start s = Keeps (plan z) n r start (taken z s.store) (stage_view contents written faults writes s)

  -- what the assembly says of its stage afterwards
  abbrev pub SaysAfter : Option P → Type 0
  SaysAfter piece = (n : ℕ) (r : Input) (start : Start) → Tasks (plan op) n r → KeepsAt op n r start old → IfSome piece (λ p. IsPieceAt n r old.k (is_of op p)) → KeepsAt op n r start new

  -- the store can take the piece in
  pub can_absorb : (piece : Option P) → IsPieceOrMark (IsPieceOf plan is_of) told k piece → IfSome piece (λ p. CanTakeIn (plan op) (contents old.store) (taken op old.store) (is_of op p))
  can_absorb None piece = piece
  can_absorb (Some p) piece = subst (λ z. CanTakeIn (plan z) (contents old.store) (taken z old.store) (is_of z p)) suits (takes_next plan contents taken written faults writes is_of told k old p is piece)

  with_piece : (p : P) → IsPieceOf plan is_of told k p → SaysAfter (Some p) → KeepsAt told.operator told.size (input_of told) (start_of told) new
  with_piece p piece says =
      let n : ℕ = told.size in let r : Input = input_of told in
      let own : IsPieceAt n r k (is_of op p) = subst (λ z. IsPieceAt n r k (is_of z p)) suits piece.piece in
      let here : IsPieceAt n r old.k (is_of op p) = subst (λ j. IsPieceAt n r j (is_of op p)) (sym is.behind) own in
      subst (λ z. KeepsAt z n r (start_of told) new) (sym suits)
      (says n r (start_of told) (subst (λ z. Tasks (plan z) n r) suits piece.tasks) (subst (λ z. KeepsAt z n r (start_of told) old) suits (keeps_on plan contents taken written faults writes told k old is)) here)

  with_mark : new.state ≡ NoMemory → written new.sink ≡ written old.sink → faults new.sink ≡ faults old.sink → writes new.sink ≡ writes old.sink → new.k ≡ old.k → KeepsAt told.operator told.size (input_of told) (start_of told) new
  with_mark lacks same alike none stays =
      let q = plan told.operator in let n : ℕ = told.size in let r : Input = input_of told in
      let was : After q n r (start_of told) (stage_view contents written faults writes old) Running = subst (After q n r (start_of told) (stage_view contents written faults writes old)) (is.runs refl) (keeps_on plan contents taken written faults writes told k old is).after in
      record {
        after = subst (After q n r (start_of told) (stage_view contents written faults writes new)) (sym lacks) (same ∙ was.0 ∙ ap (λ j. appended_text told.written (text q (upto n r j))) (sym stays), alike ∙ was.2, none ∙ was.3 ∙ ap (λ j. raised_by told.writes (tasks_with_text q n r j)) (sym stays));
        taken_is = λ run. absurd (apart (sym lacks ∙ run));
      }

  pub keeps_after : (piece : Option P) (result : Absorbed) → IsPieceOrMark (IsPieceOf plan is_of) told k piece → SaysAfter piece → IfNone piece ((result ≡ Stopped) × (new.state ≡ NoMemory)) → (new.state ≡ NoMemory → written new.sink ≡ written old.sink) → (new.state ≢ SinkFailed → faults new.sink ≡ faults old.sink) → (new.state ≡ NoMemory → writes new.sink ≡ writes old.sink) → (result ≡ Stopped → new.k ≡ old.k)
      → KeepsAt told.operator told.size (input_of told) (start_of told) new
  keeps_after None result piece says none memory good no_write stays = with_mark none.1 (memory none.1) (good (λ f. unlike (sym none.1 ∙ f))) (no_write none.1) (stays none.0)
  keeps_after (Some p) result piece says none memory good no_write stays = with_piece p piece says
