-- What a run over row files comes to.
use Rattle.std.specs.Prelude.{Bool, ◌≡◌, ℕ, List, [], Option, Some, None, IfSome}
use Rattle.saber_io.specs.Outside.{FilesView}
use Rattle.saber_plan.specs.Rows.{Read}
use Rattle.saber_plan.specs.Trees.{Tree}
use Rattle.saber_plan.specs.Tasks.{run_input}
use Rattle.saber_plan.specs.declared.sizes.Sizes.{Sizes}
use Rattle.saber_plan.specs.Sizes.{FileLimits, limits_of}
use Rattle.saber_plan.specs.Runs.{Assembles, reach_of}
use Rattle.saber_plan.specs.Files.{input_of}
use Rattle.saber_notes.specs.declared.outcome.Outcome.{Outcome}
use Rattle.saber_cli.specs.Outcomes.{IsNoEnd}
use Rattle.saber_cli.specs.Due.{contents_of}
use Rattle.saber_cli.specs.Endings.{end_of, EndsSo}

-- over these rows, in tasks of n on a ring, whose end closes the windows that are begun where that is asked for
pub record Answered (q : Tree) (n ring : ℕ) (flush : Bool) (read : Read) (o : Outcome) (tasks : ℕ) (out : List ℕ) : Type 0 where
  pub ends : EndsSo q n ring flush read o
  pub puts : Assembles q n (run_input q flush read) (reach_of (end_of o)) tasks out

-- the same of a run of these sizes over files with these bytes
abbrev pub AnsweredOver : Tree → Sizes → List (List ℕ) → Outcome → ℕ → List ℕ → Type 0
AnsweredOver q s all o tasks out = Answered q s.task s.ring s.flush (input_of q (limits_of s) all) o tasks out

-- Over files with these bytes, within these limits; or one of them isn't there.
abbrev pub AnsweredIn : Tree → ℕ → ℕ → FileLimits → Bool → Option (List (List ℕ)) → Outcome → ℕ → List ℕ → Type 0
AnsweredIn q n ring limits flush None o tasks out = IsNoEnd o × (tasks ≡ 0) × (out ≡ [])
AnsweredIn q n ring limits flush (Some all) o tasks out = Answered q n ring flush (input_of q limits all) o tasks out

-- of these names, where files tell
abbrev pub AnsweredTold : Tree → Sizes → List (List ℕ) → Option FilesView → Outcome → ℕ → List ℕ → Type 0
AnsweredTold q s names told o tasks out =
    IfSome told (λ t. AnsweredIn q s.task s.ring (limits_of s) s.flush (contents_of t.contents names) o tasks out)
