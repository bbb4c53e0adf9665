-- How often a call writes to its sink.
use Rattle.std.specs.Prelude.{◌≡◌, ℕ, List, Option, IfSome}
use Rattle.saber_io.specs.Outside.{FilesView}
use Rattle.saber_plan.specs.Sizes.{limits_of}
use Rattle.saber_plan.specs.declared.sizes.Sizes.{Sizes}
use Rattle.saber_plan.specs.Trees.{Tree}
use Rattle.saber_plan.specs.Outputs.{raised_by}
use Rattle.saber_plan.specs.Files.{input_of}
use Rattle.saber_plan.specs.Tasks.{run_input}
use Rattle.saber_plan.specs.Runs.{writes_of, writes_over}
use Rattle.saber_words.specs.Commands.{Asked, run, chain, AskedRun}
use Rattle.saber_notes.specs.declared.outcome.Outcome.{Outcome}
use Rattle.saber_notes.specs.declared.outcome.Outcome.TheVariants.{Done, WriteFault}
use Rattle.saber_cli.specs.Due.{Contents, HasRun, contents_of, row_names}
use Rattle.saber_cli.specs.Endings.{end_of}

-- Of a run over row files with these bytes there was one write for each task of those assembled that has text, and one more where it failed.
abbrev pub WritesOver : Tree → Sizes → List (List ℕ) → Outcome → ℕ → ℕ → ℕ → Type 0
WritesOver q s all o tasks had has = has ≡ raised_by had (writes_over q s all (end_of o) tasks)

-- the same over the row files with these names, where files tell
abbrev pub WritesRows : Tree → Sizes → List (List ℕ) → Option FilesView → Outcome → ℕ → ℕ → ℕ → Type 0
WritesRows q s names told o tasks had has = IfSome told (λ t. IfSome (contents_of t.contents names) (λ all. WritesOver q s all o tasks had has))

-- how many writes such a run makes whose query has this plan
abbrev pub run_writes : AskedRun → Tree → List (List ℕ) → Outcome → ℕ → ℕ
run_writes r q all o tasks = writes_of q r.sizes.task (run_input q r.sizes.flush (input_of q (limits_of r.sizes) all)) (end_of o) tasks

-- the same of a run that words ask for, over files with these contents
abbrev pub WritesIn : Contents → AskedRun → Outcome → ℕ → ℕ → ℕ → Type 0
WritesIn files r o tasks had has =
    (q : Tree) → HasRun files r q → IfSome (contents_of files (row_names r)) (λ all. has ≡ raised_by had (run_writes r q all o tasks))

-- a text that goes out, whole or up to where the sink failed, does in one write
abbrev pub text_writes : Outcome → ℕ
text_writes Done = 1
text_writes WriteFault = 1
text_writes _ = 0

-- of each command but a chain, of a run where files tell: of a chain see Chained
abbrev pub WritesTold : Asked → Option FilesView → Outcome → ℕ → ℕ → ℕ → Type 0
WritesTold (run r) told o tasks had has = IfSome told (λ t. WritesIn t.contents r o tasks had has)
WritesTold (chain a) told o tasks had has = Unit {0}
WritesTold c told o tasks had has = has ≡ raised_by had (text_writes o)
