-- What a command leaves of its files.
use Rattle.std.specs.Prelude.{◌≡◌, ℕ, suc, length, Option, Some, IfSome}
use Rattle.saber_io.specs.Outside.{FilesView}
use Rattle.saber_plan.specs.Trees.{Tree}
use Rattle.saber_words.specs.Commands.{Asked, run, chain}
use Rattle.saber_notes.specs.declared.outcome.Outcome.{Outcome}
use Rattle.saber_cli.specs.Due.{Contents, HasRun, IsLike, names_of, IsPlanned}
use Rattle.saber_cli.specs.Chained.{AsksChainRows}
use Rattle.saber_cli.specs.Leaves.{Leaves, Matches}

-- how many queries it has, whose files are opened first
abbrev pub query_count : Asked → ℕ
query_count (chain a) = 2
query_count _ = 1

-- The file behind the first n of a command is asked for: a row file where the query has a plan, with a file for each of its streams; of a chain the second
-- query's behind a first one with a plan, and the row files where both chain.
abbrev pub AsksFile : Contents → Asked → ℕ → Type 0
AsksFile files (run r) n = (q : Tree) × HasRun files r q × IsLike r q
AsksFile files (chain a) (suc (suc n)) = AsksChainRows files a
AsksFile files (chain a) n = (p : Tree) × IsPlanned files a.first p
AsksFile files c n = ⊥

-- where files tell, they still do, and the files of the command were used so
abbrev pub LeavesTold : Asked → Outcome → Option FilesView → Option FilesView → Type 0
LeavesTold c o old new =
    IfSome old (λ t. (u : FilesView) × (new ≡ Some u) × Leaves (query_count c) (names_of c) (AsksFile t.contents c) (Matches (query_count c) (length (names_of c)) o) t u)
