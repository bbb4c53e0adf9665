-- What `many` asks for, and which words are it.
use Rattle.std.specs.Prelude.{◌≤◌, ◌&&◌, nat_le, List, [], ◌∷◌, ◌++◌, map, flat_map, length, Bool, false, Option, Some, None, if◌then◌else◌, codes, option_and_then, option_to_list}
use Rattle.std.specs.Str.{bytes_eq}
use Rattle.clap.specs.Walk.{Row, Text, first_of}
use Rattle.clap.specs.Simple.{App, Shape, new_shape, subcommand_of}
use Rattle.clap.specs.Faults.{fault_of}
use Rattle.saber_plan.specs.declared.sizes.Sizes.{Sizes}
use Rattle.saber_plan.specs.Sizes.{SizesFit}
use Rattle.saber_words.specs.Numbers.{Numeric, number_rule}
use Rattle.saber_words.specs.Flags.{flag_by, flag_rule}
use Rattle.saber_words.specs.Commands.{sizes_by, required_rule, optional, task, ring, max_lines, slack, saber_shape, is_faultless, usual_sizes}
use Rattle.saber_words.specs.declared.commands.Many.{Many}

-- runs of one to eight queries over the rows of one file, each by its name, all in these sizes: the threads are those of each query
pub record AskedMany : Type 0 where
  pub left : Text
  pub queries : List Text
  pub sizes : Sizes

abbrev pub asked_many : Many → AskedMany
asked_many m = record {
  left = m.left.now;
  queries = map (λ query. query.now) m.queries.items;
  sizes = m.sizes;
}

-- 1 to 8 queries, and the sizes of a run with at most 8 threads for each query
pub record HasManySizes (m : AskedMany) : Type 0 where
  pub some_queries : 1 ≤ length m.queries
  pub few_queries : length m.queries ≤ 8
  pub few_threads : m.sizes.threads ≤ 8
  pub fit : SizesFit m.sizes

-- ---- the table of commands (this project's rule)

-- `--threads T`: the threads for each query
abbrev pub few_threads : Numeric
few_threads = record { name = codes "threads"; least = 0; most = 8; usual = codes "2" }

-- the queries behind the first one
abbrev pub others : List Text
others = codes "second" ∷ codes "third" ∷ codes "fourth" ∷ codes "fifth" ∷ codes "sixth" ∷ codes "seventh" ∷ codes "eighth" ∷ []

-- many LEFT QUERY.. [--task N] [--ring B] [--threads T] [--max-lines M] [--slack S] [--final]
abbrev pub many_shape : Shape
many_shape = record (new_shape (codes "many")) {
  rules = required_rule (codes "left") ∷ required_rule (codes "first") ∷ map optional others
      ++ (number_rule task ∷ number_rule ring ∷ number_rule few_threads ∷ number_rule max_lines ∷ number_rule slack
      ∷ flag_rule (codes "final") ∷ []);
}

-- the program with this command alone
abbrev pub many_app : App
many_app = record { top = saber_shape; subs = many_shape ∷ [] }

-- ---- the words

-- the queries that were named, in order
abbrev pub queries_in : List Text → List Row → List Text
queries_in ids rows = flat_map (λ id. option_to_list (first_of id rows)) ids

abbrev pub queries_by : List Row → List Text
queries_by = queries_in (codes "first" ∷ others)

-- what `many` asks for, by its file, its queries and its sizes
abbrev pub many_with : Option Text → List Text → Option Sizes → Option AskedMany
many_with (Some left) (query ∷ more) (Some sizes) = Some (record { left = left; queries = query ∷ more; sizes = sizes })
many_with _ _ _ = None

abbrev pub many_by : List Row → Option AskedMany
many_by rows = many_with (first_of (codes "left") rows) (queries_by rows) (sizes_by few_threads rows (flag_by (codes "final") rows))

abbrev pub many_in : Text × List Row → Option AskedMany
many_in s = if bytes_eq s.0 (codes "many") then many_by s.1 else None

-- the runs that the words ask for, if they are `many`: `clap` finds no fault in them
unfoldable pub many_of : List Text → Option AskedMany
many_of words = if is_faultless (fault_of many_app words) then option_and_then many_in (subcommand_of many_app words) else None

-- ---- the same for file names alone

-- these queries over this file, where the words give no option
abbrev pub plain_many : Text → List Text → AskedMany
plain_many left queries = record { left = left; queries = queries; sizes = usual_sizes }

-- `many` wants a left file and the files of one to eight queries
abbrev pub many_of_files : List Text → Option AskedMany
many_of_files [] = None
many_of_files (left ∷ queries) = if nat_le 1 (length queries) && nat_le (length queries) 8 then Some (plain_many left queries) else None

-- ---- the files that are written

-- of the query in the file of this name: that name with `.out` behind it
abbrev pub out_name : Text → Text
out_name query = query ++ codes ".out"
