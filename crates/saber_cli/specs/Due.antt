-- What is due for some words and the contents of files, with no fault and memory enough.
use Rattle.std.specs.Prelude.{Bool, ◌≡◌, ◌≢◌, ◌⊎◌, ℕ, List, [], ◌∷◌, ◌++◌, length, Option, Some, None, option_map, option_and_then, option_to_list}
use Rattle.saber_plan.specs.Rows.{Read}
use Rattle.saber_plan.specs.Trees.{Tree}
use Rattle.saber_plan.specs.Sizes.{limits_of}
use Rattle.saber_io.specs.Outside.{content_in}
use Rattle.saber_query.specs.declared.fault.Cause.{Cause}
use Rattle.saber_query.specs.Trees.{query_of}
use Rattle.saber_query.specs.Words.{words}
use Rattle.saber_query.specs.Spelling.{spelled_text}
use Rattle.saber_check.specs.Texts.{HasPlan, HasFault}
use Rattle.saber_words.specs.Chain.{AskedChain}
use Rattle.saber_words.specs.declared.commands.RowNames.{RowNames}
use Rattle.saber_words.specs.Commands.{Asked, run, check, demo, chain, AskedRun, command_of}
use Rattle.saber_plan.specs.Files.{input_of}
use Rattle.saber_cli.specs.Demo.{summary_of_run, tasks_of_run}

-- each file's name and what it has
abbrev pub Contents : Type 0
Contents = List (List ℕ × List ℕ)

-- the names of the row files of a run, in the order in which they are opened
abbrev pub row_names : AskedRun → List (List ℕ)
row_names r = r.left ∷ option_to_list r.right

-- those that a command has
abbrev pub rows_named : RowNames → List (List ℕ)
rows_named n = n.left.now ∷ option_to_list (option_map (λ name. name.now) n.right)

-- the run of the first query of a chain, over its row files
abbrev pub first_run : AskedChain → AskedRun
first_run a = record { query = a.first; left = a.left; right = a.right; sizes = a.sizes }

-- all files of a command, in that order
abbrev pub names_of : Asked → List (List ℕ)
names_of (run r) = r.query ∷ row_names r
names_of (check c) = c.query ∷ []
names_of (demo d) = []
names_of (chain a) = a.first ∷ a.second ∷ row_names (first_run a)

-- what the files with these names have, if each is there
abbrev pub contents_of : Contents → List (List ℕ) → Option (List (List ℕ))
contents_of files [] = Some []
contents_of files (n ∷ ns) = option_and_then (λ bytes. option_map (λ more. bytes ∷ more) (contents_of files ns)) (content_in files n)

pub data Due : Type 0 where
  -- the words are no command
  usage : Due
  -- a file that is opened isn't there
  missing : Due
  -- the query's text has this fault
  faulty : ℕ → Cause → Due
  -- the query names so many streams, and the command so many row files
  unlike : ℕ → ℕ → Due
  -- a query was checked, and this is its text
  shows : List ℕ → Due
  -- a run over generated rows is summed up: this is its summary, and it has so many tasks
  tells : List ℕ → ℕ → Due
  -- the plan is run over these rows, in tasks of so many, on a ring of so many cells, and whether their end closes the windows that are begun
  runs : Tree → ℕ → ℕ → Bool → Read → Due

-- the file with this name has a query with this plan
pub record IsPlanned (files : Contents) (name : List ℕ) (q : Tree) : Type 0 where
  pub text : List ℕ
  pub there : content_in files name ≡ Some text
  pub plan : HasPlan text q

-- so has that of a run's query
abbrev pub HasRun : Contents → AskedRun → Tree → Type 0
HasRun files asked q = IsPlanned files asked.query q

-- each stream of FROM has its row file
abbrev pub IsLike : AskedRun → Tree → Type 0
IsLike asked q = length q.streams ≡ length (row_names asked)

-- the file with this name has a query with this fault
abbrev pub IsFaulty : Contents → List ℕ → ℕ → Cause → Type 0
IsFaulty files query byte cause = (text : List ℕ) × (content_in files query ≡ Some text) × HasFault text byte cause

-- the text means a query that has a plan, and this is the query's own text, with a line feed
abbrev pub Shows : List ℕ → List ℕ → Type 0
Shows text out = (q : Tree) × (plan : HasPlan text q) × (out ≡ spelled_text (words (query_of plan.query.select)) ++ 10 ∷ [])

-- What is due for a command that is no chain; of a chain see Chained.
abbrev pub IsDueFor : Contents → Asked → Due → Type 0
IsDueFor files c usage = ⊥
IsDueFor files (run r) missing = (content_in files r.query ≡ None) ⊎ ((q : Tree) × HasRun files r q × IsLike r q × (contents_of files (row_names r) ≡ None))
IsDueFor files (run r) (faulty byte cause) = IsFaulty files r.query byte cause
IsDueFor files (run r) (unlike streams given) = (q : Tree) × HasRun files r q × (length q.streams ≡ streams) × (length (row_names r) ≡ given) × (streams ≢ given)
IsDueFor files (run r) (runs q n ring flush read) = (all : List (List ℕ)) × HasRun files r q × IsLike r q ×
    (contents_of files (row_names r) ≡ Some all) × (n ≡ r.sizes.task) × (ring ≡ r.sizes.ring) × (flush ≡ r.sizes.flush) × (read ≡ input_of q (limits_of r.sizes) all)
IsDueFor files (check c) missing = content_in files c.query ≡ None
IsDueFor files (check c) (faulty byte cause) = IsFaulty files c.query byte cause
IsDueFor files (check c) (shows out) = (text : List ℕ) × (content_in files c.query ≡ Some text) × Shows text out
IsDueFor files (demo d) (tells out count) = (out ≡ summary_of_run d.seed d.rows) × (count ≡ tasks_of_run d)
IsDueFor files c d = ⊥

-- the words are no chain
abbrev pub AreNoChain : List (List ℕ) → Type 0
AreNoChain ws = (a : AskedChain) → command_of ws ≢ Some (chain a)

-- what is due for some words
pub data IsDue (ws : List (List ℕ)) (files : Contents) (d : Due) : Type 0 where
  no_command : command_of ws ≡ None → d ≡ usage → IsDue ws files d
  by_command : (c : Asked) → command_of ws ≡ Some c → IsDueFor files c d → IsDue ws files d

-- ---- facts of the command that some words are

-- whichever it is
abbrev pub IfCommand : List (List ℕ) → (Asked → Type 0) → Type 0
IfCommand ws P = (c : Asked) → command_of ws ≡ Some c → P c

-- if it is of this kind
abbrev pub IfAsked : {X : Type 0} → (X → Asked) → List (List ℕ) → (X → Type 0) → Type 0
IfAsked {X} kind ws P = (x : X) → command_of ws ≡ Some (kind x) → P x
