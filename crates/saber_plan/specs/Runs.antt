-- What a run gives over inputs that tell their bytes.
use Rattle.std.specs.Prelude.{Bool, ◌≡◌, ◌≢◌, ◌≤◌, ℕ, suc, ◌+◌, List, ◌++◌, Some, None, filter, length, nat_lt}
use Rattle.saber_plan.specs.declared.sizes.Sizes.{Sizes}
use Rattle.saber_plan.specs.declared.ends.RunEnd.{RunEnd}
use Rattle.saber_plan.specs.declared.ends.RunEnd.TheVariants.{AllRead, Bad, ReadFault, TooWide, WriteFault, NoMemory}
use Rattle.saber_plan.specs.Rows.{Read, all_read, bad}
use Rattle.saber_plan.specs.Inputs.{Input}
use Rattle.saber_plan.specs.Trees.{Tree}
use Rattle.saber_plan.specs.Windows.{from}
use Rattle.saber_plan.specs.Answers.{text}
use Rattle.saber_plan.specs.Tasks.{upto, task_count, run_input}
use Rattle.saber_plan.specs.Needs.{need as blocks_needed, wide}
use Rattle.saber_plan.specs.Sizes.{limits_of}
use Rattle.saber_plan.specs.Files.{input_of}

-- an answer of the rows and the ring alone: no fault came, and memory was enough
abbrev pub IsClean : RunEnd → Type 0
IsClean AllRead = Unit {0}
IsClean (Bad side line cause) = Unit {0}
IsClean (TooWide task need) = Unit {0}
IsClean _ = ⊥

-- The end of the rows of an input in tasks of n, where no task is too wide for the ring; or the first that is, with what it needs.
-- A fault or want of memory may hide both.
abbrev pub EndsAs : Tree → ℕ → ℕ → Input → RunEnd → Read → Type 0
EndsAs q n ring r AllRead read = (read.end ≡ all_read) × (wide q n r ring ≡ None)
EndsAs q n ring r (Bad side line cause) read = (read.end ≡ bad side line cause) × (wide q n r ring ≡ None)
EndsAs q n ring r (TooWide task need) read = (wide q n r ring ≡ Some task) × (need ≡ blocks_needed q n r task)
EndsAs q n ring r _ read = Unit {0}

-- which tasks of an input are assembled
pub data Reach : Type 0 where
  all_tasks : Reach
  -- those before this one
  before_task : ℕ → Reach
  -- some first ones
  first_tasks : Reach
  -- some first ones, and the write of the next one's text failed
  cut_off : Reach

-- all, of the whole input or of the rows before a line that is refused; those before one that is too wide
abbrev pub reach_of : RunEnd → Reach
reach_of AllRead = all_tasks
reach_of (Bad side line cause) = all_tasks
reach_of (ReadFault side) = first_tasks
reach_of (TooWide task need) = before_task task
reach_of WriteFault = cut_off
reach_of NoMemory = first_tasks

-- the text of the first k tasks, and then a prefix of what the next task adds
pub record IsCut (q : Tree) (n : ℕ) (r : Input) (k : ℕ) (out : List ℕ) : Type 0 where
  pub more : List ℕ
  pub rest : List ℕ
  pub out_is : out ≡ text q (upto n r k) ++ more
  pub next_is : text q (upto n r (k + 1)) ≡ text q (upto n r k) ++ (more ++ rest)

-- what goes out over an input in tasks of n, of which so many are assembled
pub record Assembles (q : Tree) (n : ℕ) (r : Input) (reach : Reach) (tasks : ℕ) (out : List ℕ) : Type 0 where
  pub few : tasks ≤ task_count n r
  pub all : reach ≡ all_tasks → tasks ≡ task_count n r
  pub before : (t : ℕ) → reach ≡ before_task t → tasks ≡ t
  pub answers : reach ≢ cut_off → out ≡ text q (upto n r tasks)
  pub cut : reach ≡ cut_off → IsCut q n r tasks out

-- over an input, on a ring, where the input's end closes windows where that is asked for
pub record Gives (q : Tree) (n ring : ℕ) (flush : Bool) (read : Read) (e : RunEnd) (tasks : ℕ) (out : List ℕ) : Type 0 where
  pub ends : EndsAs q n ring (run_input q flush read) e read
  pub assembles : Assembles q n (run_input q flush read) (reach_of e) tasks out

-- what a run of these sizes gives over files with these bytes
abbrev pub GivesOver : Tree → Sizes → List (List ℕ) → RunEnd → ℕ → List ℕ → Type 0
GivesOver q s files e tasks out = Gives q s.task s.ring s.flush (input_of q (limits_of s) files) e tasks out

-- ---- writes

-- task t has text: that of the first t + 1 tasks is longer than that of the first t
abbrev pub has_text : Tree → ℕ → Input → ℕ → Bool
has_text q n r t = nat_lt (length (text q (upto n r t))) (length (text q (upto n r (t + 1))))

-- how many of the first k tasks of n rows have text
unfoldable pub tasks_with_text : Tree → ℕ → Input → ℕ → ℕ
tasks_with_text q n r k = length (filter (has_text q n r) (from 0 k))

-- how many writes a run makes that ended so: one for each task of those assembled that has text, and the one that failed
abbrev pub writes_of : Tree → ℕ → Input → RunEnd → ℕ → ℕ
writes_of q n r AllRead tasks = tasks_with_text q n r tasks
writes_of q n r WriteFault tasks = suc (tasks_with_text q n r tasks)
writes_of q n r _ tasks = tasks_with_text q n r tasks

-- of a run of these sizes over files with these bytes
abbrev pub writes_over : Tree → Sizes → List (List ℕ) → RunEnd → ℕ → ℕ
writes_over q s files e tasks = writes_of q s.task (run_input q s.flush (input_of q (limits_of s) files)) e tasks
