-- What is kept of all key lists, as a map from these.
use Rattle.std.specs.Prelude.{◌≡◌, ℕ, ◌-◌, ◌≤◌, ◌==◌, List, [], map, filter, length, Bool, true, false, not, Option, Some, None, ℤ}
use Rattle.std.specs.Ordering.{nat_cmp}
use Rattle.std.specs.FinMap.{FinMap, get, len, empty, entries, from_entries}
use Rattle.saber_plan.specs.declared.rows.Row.{Row}
use Rattle.saber_plan.specs.Trees.{Tree}
use Rattle.saber_plan.specs.Inputs.{Input}
use Rattle.saber_plan.specs.Answers.{key_cmp, substream, past_in, begun_in, lines_from}
use Rattle.saber_plan.specs.Tasks.{full, numbered_list, Parts, ListParts, Kept}
use Rattle.saber_sliding.specs.Entries.{Entries, part_at}
use Rattle.saber_partition.specs.Streams.{Keeps}

-- what is kept of one: how many windows are closed and begun, and the parts of those between
pub record Own : Type 0 where
  pub next : ℕ
  pub begun : ℕ
  pub entries : Entries

abbrev pub nothing : Own
nothing = record { next = 0; begun = 0; entries = [] }

abbrev pub Lists : Type 0
Lists = FinMap key_cmp Own

-- of a key list that no row has, nothing is kept
abbrev pub KeptAt : Tree → List Row → Option Own → Type 0
KeptAt q us None = us ≡ []
KeptAt q us (Some o) = (1 ≤ length us) × Keeps q us o.next o.begun o.entries

-- of each key list of some rows what is to be kept of its rows
abbrev pub TakenAll : Tree → List Row → Lists → Type 0
TakenAll q xs m = (k : List ℤ) → KeptAt q (substream q k xs) (get m k)

-- where the input ended, nothing is kept
abbrev pub TakenBy : Bool → Tree → List Row → Lists → Type 0
TakenBy true q xs m = m ≡ empty
TakenBy false q xs m = TakenAll q xs m

abbrev pub TakenIn : Tree → Input → Lists → Type 0
TakenIn q r m = TakenBy r.ended q r.rows m

-- ---- the open parts

abbrev pub held_parts : Own → Parts
held_parts o = from_entries {R = nat_cmp} (numbered_list o.next (o.begun - o.next) (λ i. full (part_at o.entries i)))

abbrev pub held_lists : Lists → ListParts
held_lists m = from_entries (filter (λ e. not (len e.1 == 0)) (map (λ e. (e.0, held_parts e.1)) (entries m)))

abbrev pub kept_in : Lists → Kept
kept_in m = record { parts = empty; lists = held_lists m; answers = [] }

-- ---- the end

-- the lines of the windows that some rows begin and don't close
abbrev pub last_lines : Tree → List Row → List ℕ
last_lines q us = lines_from q us (past_in q us) (begun_in q us)
