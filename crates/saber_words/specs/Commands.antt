-- Which words are a command, and what a command asks for.
use Rattle.std.specs.Prelude.{◌==◌, ◌^◌, ℕ, not, List, [], ◌∷◌, Bool, true, false, Option, Some, None, if◌then◌else◌, codes, option_map, option_and_then, ⊤}
use Rattle.std.specs.Str.{bytes_eq}
use Rattle.clap.specs.Walk.{Row, Rule, Text, first_of}
use Rattle.saber_plan.specs.declared.sizes.Sizes.{Sizes}
use Rattle.saber_plan.specs.Sizes.{SizesFit}
use Rattle.saber_words.specs.Numbers.{Numeric, number_by, number_in, number_rule}
use Rattle.saber_words.specs.Flags.{flag_by, flag_rule}
use Rattle.saber_words.specs.Demo.{AskedDemo, HasDemoSizes, asked_demo, demo_with, positional_rule, rows, seed}
use Rattle.saber_words.specs.Chain.{AskedChain, HasChainSizes, asked_chain}
use Rattle.clap.specs.Kinds.{Kinds}
use Rattle.clap.specs.Simple.{App, Shape, new_rule, new_shape, subcommand_of}
use Rattle.clap.specs.Faults.{fault_of}
use Rattle.saber_words.specs.declared.commands.Run.{Run}
use Rattle.saber_words.specs.declared.commands.Command.{Command}
use Rattle.saber_words.specs.declared.commands.Command.TheVariants as command

-- ---- what may be asked for

-- a run of a query over its files, each by its name, in these sizes: the rows of a task, the cells of the ring, the threads beside the caller's; the lines
-- that a file may have, and by how much its timestamps may fall; and whether the end of the input closes the windows that are begun
pub record AskedRun : Type 0 where
  pub query : Text
  pub left : Text
  pub right : Option Text
  pub sizes : Sizes

-- a check of a query, by the name of its file
pub record AskedCheck : Type 0 where
  pub query : Text

-- what the words may ask for; a further command is one more case
pub data Asked : Type 0 where
  run : AskedRun → Asked
  check : AskedCheck → Asked
  demo : AskedDemo → Asked
  chain : AskedChain → Asked

-- what a command asks for
abbrev pub asked_run : Run → AskedRun
asked_run r = record { query = r.query.now; left = r.rows.left.now; right = option_map (λ name. name.now) r.rows.right; sizes = r.sizes }

abbrev pub asked_command : Command → Asked
asked_command (command.Run r) = run (asked_run r)
asked_command (command.Check c) = check (record { query = c.query.now })
asked_command (command.Demo d) = demo (asked_demo d)
asked_command (command.Chain a) = chain (asked_chain a)

-- ---- the table of commands (this project's rule)

-- a positional that has to be given
abbrev pub required_rule : Text → Rule
required_rule id = record (new_rule id) { required = true }

-- and one that may be left out
abbrev pub optional : Text → Rule
optional = new_rule

-- `--task N`: the rows of a task
abbrev pub task : Numeric
task = record { name = codes "task"; least = 1; most = 65536; usual = codes "1024" }

-- `--ring B`: the cells of the ring
abbrev pub ring : Numeric
ring = record { name = codes "ring"; least = 1; most = 1024; usual = codes "64" }

-- `--threads T`: the threads beside the caller's
abbrev pub threads : Numeric
threads = record { name = codes "threads"; least = 0; most = 64; usual = codes "2" }

-- `--max-lines M`: the lines that a file may have
abbrev pub max_lines : Numeric
max_lines = record { name = codes "max-lines"; least = 1; most = 2 ^ 40; usual = codes "1099511627776" }

-- `--slack S`: by how much a timestamp of a file may fall
abbrev pub slack : Numeric
slack = record { name = codes "slack"; least = 0; most = 2 ^ 40; usual = codes "0" }

-- run QUERY LEFT [RIGHT] [--task N] [--ring B] [--threads T] [--max-lines M] [--slack S] [--final]
abbrev pub run_shape : Shape
run_shape = record (new_shape (codes "run")) {
  rules = required_rule (codes "query") ∷ required_rule (codes "left") ∷ optional (codes "right")
      ∷ number_rule task ∷ number_rule ring ∷ number_rule threads ∷ number_rule max_lines ∷ number_rule slack
      ∷ flag_rule (codes "final") ∷ [];
}

-- check QUERY
abbrev pub check_shape : Shape
check_shape = record (new_shape (codes "check")) { rules = required_rule (codes "query") ∷ [] }

-- demo SEED ROWS [--task N] [--ring B] [--threads T]
abbrev pub demo_shape : Shape
demo_shape = record (new_shape (codes "demo")) {
  rules = positional_rule seed ∷ positional_rule rows ∷ number_rule task ∷ number_rule ring ∷ number_rule threads ∷ [];
}

-- chain QUERY1 QUERY2 LEFT [RIGHT] [--task N] [--ring B] [--threads T] [--max-lines M] [--slack S]
abbrev pub chain_shape : Shape
chain_shape = record (new_shape (codes "chain")) {
  rules = required_rule (codes "first") ∷ required_rule (codes "second") ∷ required_rule (codes "left") ∷ optional (codes "right")
      ∷ number_rule task ∷ number_rule ring ∷ number_rule threads ∷ number_rule max_lines ∷ number_rule slack ∷ [];
}

-- the program: it wants one of its subcommands, and has no flag or subcommand for help or version
abbrev pub saber_shape : Shape
saber_shape = record (new_shape (codes "saber")) {
  is_leaf = false;
  disable_help_flag = true;
  disable_help_subcommand = true;
  disable_version_flag = true;
  subcommand_required = true;
}

abbrev pub saber_app : App
saber_app = record { top = saber_shape; subs = run_shape ∷ check_shape ∷ demo_shape ∷ chain_shape ∷ [] }

-- ---- the sizes of a run

-- those that a command has are within the limits of a run
abbrev pub IsSized : Asked → Type 0
IsSized (run r) = SizesFit r.sizes
IsSized (check c) = ⊤
IsSized (demo d) = HasDemoSizes d
IsSized (chain a) = HasChainSizes a

-- ---- the words

-- the sizes of a run, if all numbers were found, and whether the end of the input closes the windows that are begun
abbrev pub sizes_with : Option ℕ → Option ℕ → Option ℕ → Option ℕ → Option ℕ → Bool → Option Sizes
sizes_with (Some task) (Some ring) (Some threads) (Some most) (Some slack) flush =
    Some (record { task = task; ring = ring; threads = threads; max_lines = most; slack = slack; flush = flush })
sizes_with _ _ _ _ _ flush = None

-- with this option for the threads
abbrev pub sizes_by : Numeric → List Row → Bool → Option Sizes
sizes_by crew rows = sizes_with (number_by task rows) (number_by ring rows) (number_by crew rows) (number_by max_lines rows) (number_by slack rows)

-- of a run over generated rows, of which there are fewer than a file may have lines
abbrev pub generated_by : List Row → Option Sizes
generated_by rows = sizes_with (number_by task rows) (number_by ring rows) (number_by threads rows) (Some (2 ^ 40)) (Some 0) false

-- a run over these files, in these sizes
abbrev pub run_over : Text → Text → Option Text → Sizes → Asked
run_over query left right sizes = run (record { query = query; left = left; right = right; sizes = sizes })

-- what `run` asks for, by the values of its positionals and its sizes
abbrev pub run_with : Option Text → Option Text → Option Text → Option Sizes → Option Asked
run_with (Some query) (Some left) right (Some sizes) = Some (run_over query left right sizes)
run_with _ _ right _ = None

abbrev pub run_by : List Row → Option Asked
run_by rows = run_with
    (first_of (codes "query") rows) (first_of (codes "left") rows) (first_of (codes "right") rows)
    (sizes_by threads rows (flag_by (codes "final") rows))

-- what `check` asks for
abbrev pub check_by : List Row → Option Asked
check_by rows = option_map (λ query. check (record { query = query })) (first_of (codes "query") rows)

-- what `demo` asks for
abbrev pub demo_by : List Row → Option Asked
demo_by found = option_map demo (demo_with (number_by seed found) (number_by rows found) (generated_by found))

-- a chain over these files, in these sizes
abbrev pub chain_over : Text → Text → Text → Option Text → Sizes → Asked
chain_over first second left right sizes = chain (record { first = first; second = second; left = left; right = right; sizes = sizes })

-- what `chain` asks for, by the values of its positionals and its sizes
abbrev pub chain_with : Option Text → Option Text → Option Text → Option Text → Option Sizes → Option Asked
chain_with (Some first) (Some second) (Some left) right (Some sizes) = Some (chain_over first second left right sizes)
chain_with _ _ _ right _ = None

abbrev pub chain_by : List Row → Option Asked
chain_by rows = chain_with
    (first_of (codes "first") rows) (first_of (codes "second") rows) (first_of (codes "left") rows) (first_of (codes "right") rows)
    (sizes_by threads rows false)

-- what a subcommand asks for, by its name and the values of its arguments
abbrev pub asked_by : Text × List Row → Option Asked
asked_by s = if bytes_eq s.0 (codes "run") then run_by s.1
    else (if bytes_eq s.0 (codes "check") then check_by s.1
    else (if bytes_eq s.0 (codes "demo") then demo_by s.1
    else (if bytes_eq s.0 (codes "chain") then chain_by s.1 else None)))

-- no fault is among these kinds
abbrev pub is_faultless : Kinds → Bool
is_faultless [] = true
is_faultless (kind ∷ kinds) = false

-- `clap` takes the words, of which the first is the name of the program: it finds no fault in them
unfoldable pub is_taken : List Text → Bool
is_taken words = is_faultless (fault_of saber_app words)

-- the command that the words are, if they are one: that of the subcommand that `clap` meets, where
-- it takes the words
unfoldable pub command_of : List Text → Option Asked
command_of words = if is_taken words then option_and_then asked_by (subcommand_of saber_app words) else None

-- ---- the same for file names alone

-- the word is a flag for `clap`, or its `--`: it begins with `-` (45), and is not `-` alone
abbrev pub is_flag : Text → Bool
is_flag (first ∷ second ∷ rest) = first == 45
is_flag _ = false

-- any other word may name a file
abbrev pub is_file_name : Text → Bool
is_file_name word = not (is_flag word)

-- the sizes where the words give no option: 1,024 rows a task, a ring of 64 cells, two threads, all lines that a file may have, timestamps that don't fall,
-- and an end of the input that closes nothing
abbrev pub usual_sizes : Sizes
usual_sizes = record { task = 1024; ring = 64; threads = 2; max_lines = 2 ^ 40; slack = 0; flush = false }

-- a run over these files whose words give no option
abbrev pub plain_run : Text → Text → Option Text → Asked
plain_run query left right = run_over query left right usual_sizes

-- `run` wants the query's file, a left file and maybe a right one
abbrev pub run_of : List Text → Option Asked
run_of (query ∷ left ∷ []) = Some (plain_run query left None)
run_of (query ∷ left ∷ right ∷ []) = Some (plain_run query left (Some right))
run_of _ = None

-- `check` wants the query's file alone
abbrev pub check_of : List Text → Option Asked
check_of (query ∷ []) = Some (check (record { query = query }))
check_of _ = None

-- a run over generated rows whose words give no option
abbrev pub plain_demo : ℕ → ℕ → Asked
plain_demo seed rows = demo (record { seed = seed; rows = rows; sizes = usual_sizes })

-- `demo` wants a seed and a number of rows, each a whole number in its range
abbrev pub plain_with : Option ℕ → Option ℕ → Option Asked
plain_with (Some seed) (Some rows) = Some (plain_demo seed rows)
plain_with _ _ = None

abbrev pub demo_of : List Text → Option Asked
demo_of (first ∷ second ∷ []) = plain_with (number_in seed first) (number_in rows second)
demo_of _ = None

-- a chain over these files whose words give no option
abbrev pub plain_chain : Text → Text → Text → Option Text → Asked
plain_chain first second left right = chain_over first second left right usual_sizes

-- `chain` wants the files of two queries, a left file and maybe a right one
abbrev pub chain_of : List Text → Option Asked
chain_of (first ∷ second ∷ left ∷ []) = Some (plain_chain first second left None)
chain_of (first ∷ second ∷ left ∷ right ∷ []) = Some (plain_chain first second left (Some right))
chain_of _ = None
