-- The blocks of an input that is cut into tasks, and the drafts that look back on them.
use Rattle.std.specs.Prelude.{◌≡◌, ◌≤◌, ℕ, ◌+◌, ◌==◌, take, slice_range, false, if◌then◌else◌}
use Rattle.saber_plan.specs.Trees.{Tree}
use Rattle.saber_plan.specs.Inputs.{Input}
use Rattle.saber_plan.specs.Windows.{Fits, no_rows}
use Rattle.saber_plan.specs.Answers.{frame}
use Rattle.saber_plan.specs.GivenRows.{RowsFit}
use Rattle.saber_plan.specs.Tasks.{task_start, upto, places}
use Rattle.saber_plan.specs.Needs.{free, back_mark, task_mark, task_rows, task_ends}
use Rattle.saber_fragment.specs.declared.blocks.Block.{Block}
use Rattle.saber_fragment.specs.declared.blocks.Earlier.{Earlier}
use Rattle.saber_fragment.specs.Drafts.{EndWith, CanStart, Sight, own_sight, seen_back, CanLookBack, IsWhole, IsSightOf}

-- The block has the rows of task t of an input in tasks of n rows, and tells whether the input ends behind them; and the rows that it has
-- of those before are the last of them; and where its rows stand in their substreams.
pub record IsBlock (q : Tree) (n : ℕ) (r : Input) (t : ℕ) (b : Block) : Type 0 where
  pub earlier : EndWith (take (task_start n r t) r.rows) b.earlier
  pub before : b.before ≡ task_mark n r t
  pub rows : b.rows ≡ task_rows n r t
  pub places : b.places.items ≡ places q r.rows (task_start n r t) (task_start n r (t + 1))
  pub ended : b.ended ≡ task_ends n r t

-- what a draft of task t has, with the blocks from the first that the task needs up to block u, where its own block has these rows before its own
abbrev pub sight_to : Tree → ℕ → Input → ℕ → Earlier → ℕ → Sight
sight_to q n r t e u = record {
  first = if u == free q n r t then task_mark n r t else back_mark q n r t;
  back = slice_range r.rows (task_start n r (free q n r t)) (task_start n r u);
  earlier = e;
  before = task_mark n r t;
  rows = task_rows n r t;
  places = places q r.rows (task_start n r t) (task_start n r (t + 1));
  ended = task_ends n r t;
}

-- A draft begins with the task's own block, looks back on the blocks before it one after another, and then has all that the task's shares need.
pub record SeesAll (q : Tree) (n : ℕ) (r : Input) (t : ℕ) : Type 0 where
  pub starts : (b : Block) → IsBlock q n r t b → (upto n r t).ended ≡ false → CanStart q b
  pub begins : (b : Block) → IsBlock q n r t b → own_sight b ≡ sight_to q n r t b.earlier (free q n r t)
  pub can : (e : Earlier) (u : ℕ) (b : Block) → free q n r t ≤ u → u + 1 ≤ t → IsBlock q n r u b → CanLookBack q (sight_to q n r t e u) b
  pub goes_on : (e : Earlier) (u : ℕ) (b : Block) → free q n r t ≤ u → u + 1 ≤ t → IsBlock q n r u b → seen_back (sight_to q n r t e u) b ≡ sight_to q n r t e (u + 1)
  pub ends : (e : Earlier) → IsWhole q (sight_to q n r t e t)
  pub gives : (e : Earlier) → (upto n r t).ended ≡ false → EndWith (take (task_start n r t) r.rows) e
      → IsSightOf q (sight_to q n r t e t) r (task_start n r t) (task_start n r (t + 1))

abbrev pub DraftsLookBack : Type 0
DraftsLookBack = (q : Tree) (n : ℕ) (r : Input) (t : ℕ) → 1 ≤ n → Fits (frame q) → RowsFit q no_rows r.rows → SeesAll q n r t
