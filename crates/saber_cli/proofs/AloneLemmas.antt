-- A run that is told as the command `run`, whoever made it.
use Rattle.std.proofs.Common.{◌≡◌, ℕ, List, Some, refl, sym, subst}
use Rattle.saber_plan.specs.Sizes.{limits_of}
use Rattle.saber_plan.specs.Trees.{Tree}
use Rattle.saber_plan.specs.declared.ends.RunEnd.{RunEnd}
use Rattle.saber_plan.specs.Files.{input_of}
use Rattle.saber_plan.specs.Runs as run_defs
use Rattle.saber_words.specs.Commands.{AskedRun, run}
use Rattle.saber_cli.specs.Answered.{AnsweredIn}
use Rattle.saber_cli.specs.Due.{Contents, HasRun, IsLike, row_names, contents_of}
use Rattle.saber_cli.specs.Endings.{ended_as}
use Rattle.saber_cli.specs.Gives.{Gives}
use Rattle.saber_cli.proofs.AnsweredLemmas.{told_answered, run_kinds}
use Rattle.saber_cli.proofs.RunLemmas.{gives_answer}

-- what a run of a command's plan gives over its row files, with this end and so many tasks, is what the command gives
pub runs_tell : (files : Contents) (r : AskedRun) (q : Tree) (all : List (List ℕ)) (e : RunEnd) (tasks : ℕ) (out : List ℕ)
    → HasRun files r q → IsLike r q → contents_of files (row_names r) ≡ Some all
    → run_defs.Gives q r.sizes.task r.sizes.ring r.sizes.flush (input_of q (limits_of r.sizes) all) e tasks out → Gives files (run r) (ended_as r.sizes.ring e) tasks out
runs_tell files r q all e tasks out has like there g =
    let o = ended_as r.sizes.ring e in
    gives_answer files r q o tasks out has like (run_kinds r.sizes.ring e)
    (subst (λ c. AnsweredIn q r.sizes.task r.sizes.ring (limits_of r.sizes) r.sizes.flush c o tasks out) (sym there) (told_answered q r.sizes.task r.sizes.ring (limits_of r.sizes) r.sizes.flush (Some all) e o tasks out refl g))
