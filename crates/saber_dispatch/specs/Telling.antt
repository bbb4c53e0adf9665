-- Blocks over inputs that tell their bytes, and which task is too wide.
use Rattle.std.specs.Prelude.{◌≡◌, ℕ, List, map, Option, Some, None}
use Rattle.saber_plan.specs.Sizes.{limits_of}
use Rattle.saber_plan.specs.declared.sizes.Sizes.{Sizes}
use Rattle.saber_plan.specs.Rows.{Read, all_read, bad}
use Rattle.saber_plan.specs.Inputs.{Input}
use Rattle.saber_plan.specs.Trees.{Tree}
use Rattle.saber_plan.specs.Tasks.{upto, task_count, run_input}
use Rattle.saber_plan.specs.Needs.{need, wide}
use Rattle.saber_dispatch.specs.Sources.{Lefts}
use Rattle.saber_dispatch.specs.declared.ends.End.{End}
use Rattle.saber_dispatch.specs.declared.ends.End.TheVariants.{AllRead, Bad, ReadFault, TooWide, NoMemory}
use Rattle.saber_dispatch.specs.declared.cutter.Cutter.{Cutter}
use Rattle.saber_dispatch.specs.Readings.{Suits}
use Rattle.saber_dispatch.specs.Cutting.{Cuts, end_of, fresh}
use Rattle.saber_plan.specs.Files.{input_of}

-- ---- which task is too wide

-- it is the first one of an input that does need more tasks' rows than there is room for, and behind the tasks of the blocks given
pub record IsFirstWide (q : Tree) (s : Sizes) (r more : Input) (task needs : ℕ) : Type 0 where
  pub behind : upto s.task more task ≡ r
  pub next : task ≡ task_count s.task r
  pub first : wide q s.task more s.ring ≡ Some task
  pub needs_is : needs ≡ need q s.task more task

abbrev pub EndsNear : Tree → Sizes → Input → Option End → Type 0
EndsNear q s r (Some (TooWide task needs)) = (more : Input) × IsFirstWide q s r more task needs
EndsNear q s r _ = Unit {0}

-- no task that was given is too wide, and the one that is told in place of its block is
pub record AreNear (q : Tree) (s : Sizes) (c : Cutter) (r : Input) : Type 0 where
  pub given : wide q s.task r s.ring ≡ None
  pub told : EndsNear q s r (end_of c)

abbrev pub BlocksAreNear : Type 0
BlocksAreNear = (q : Tree) (s : Sizes) (had has : Lefts) (c : Cutter) (r : Input) → Cuts q s had has c r → AreNear q s c r

-- ---- inputs that tell

-- all of it was given, and it ends so
pub record HasAll (q : Tree) (s : Sizes) (r : Input) (all : Read) : Type 0 where
  pub whole : r ≡ run_input q s.flush all
  pub near : wide q s.task (run_input q s.flush all) s.ring ≡ None

-- the end of the blocks, by the end of the rows or the first task that is too wide, which a fault or want of memory may hide
abbrev pub EndsAs : Tree → Sizes → Option End → Input → Read → Type 0
EndsAs q s None r all = Unit {0}
EndsAs q s (Some AllRead) r all = HasAll q s r all × (all.end ≡ all_read)
EndsAs q s (Some (Bad side line cause)) r all = HasAll q s r all × (all.end ≡ bad side line cause)
EndsAs q s (Some (ReadFault side)) r all = Unit {0}
EndsAs q s (Some (TooWide task needs)) r all = IsFirstWide q s r (run_input q s.flush all) task needs
EndsAs q s (Some NoMemory) r all = Unit {0}

-- the blocks given are the first tasks of the run's input
pub record AreTasks (q : Tree) (s : Sizes) (c : Cutter) (r : Input) (all : Read) : Type 0 where
  pub tasks : r ≡ upto s.task (run_input q s.flush all) (task_count s.task r)
  pub ends : EndsAs q s (end_of c) r all

abbrev pub BlocksAreTasks : Type 0
BlocksAreTasks = (q : Tree) (s : Sizes) (files : List (List ℕ)) (has : Lefts) (c : Cutter) (r : Input) →
    Suits (fresh q (limits_of s)) (map Some files) → Cuts q s (map Some files) has c r → AreTasks q s c r (input_of q (limits_of s) files)
