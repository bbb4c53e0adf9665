-- The rows of a query's inputs, cut into blocks.
use Rattle.std.specs.Prelude.{◌≡◌, ◌≢◌, ◌≤◌, ◌<◌, ◌^◌, ◌+◌, ◌-◌, ◌*◌, ℕ, length, nat_lt, List, [], ◌∷◌, ◌++◌, ◌⊎◌, Option, Some, None, Result, Ok, Err, Bool, true, false, if◌then◌else◌, ◌&&◌, ◌||◌, not, ◌==◌}
use Rattle.saber_plan.specs.declared.rows.Row.{Row}
use Rattle.saber_plan.specs.declared.rows.Side.{Side}
use Rattle.saber_plan.specs.declared.rows.Side.TheVariants.{Left, Right}
use Rattle.saber_plan.specs.declared.windows.Mark.{Mark}
use Rattle.saber_plan.specs.declared.windows.Stream.{Stream}
use Rattle.saber_plan.specs.declared.plans.Shape.TheVariants.{Join}
use Rattle.saber_plan.specs.Rows.{all_read, bad}
use Rattle.saber_plan.specs.Rows as rows
use Rattle.saber_plan.specs.declared.sizes.Sizes.{Sizes}
use Rattle.saber_plan.specs.Sizes.{SizesFit, limits_of, FileLimits}
use Rattle.saber_plan.specs.Windows.{Fits, Ordered, has_windows, no_rows, mark_of}
use Rattle.saber_plan.specs.Inputs.{Input, going_on}
use Rattle.saber_plan.specs.Answers.{frame}
use Rattle.saber_plan.specs.Trees.{Tree}
use Rattle.saber_plan.specs.Checked.{columns_on}
use Rattle.saber_plan.specs.GivenRows.{RowsFit}
use Rattle.saber_plan.specs.Tasks.{task_count}
use Rattle.saber_plan.specs.Needs.{free, need, block_lasts}
use Rattle.saber_fragment.specs.declared.blocks.Block.{Block}
use Rattle.saber_fragment.specs.Drafts.{EndWith}
use Rattle.saber_dispatch.specs.Sources.{Lefts, RoseAt}
use Rattle.saber_dispatch.specs.declared.ends.End.{End}
use Rattle.saber_dispatch.specs.declared.ends.End.TheVariants.{AllRead, Bad, ReadFault, TooWide, NoMemory}
use Rattle.saber_dispatch.specs.declared.lasts.Lasts.{Lasts}
use Rattle.saber_dispatch.specs.declared.cutter.Cutter.{Cutter}
use Rattle.saber_dispatch.specs.declared.cutter.Cut.{Cut}
use Rattle.saber_dispatch.specs.declared.cutter.Cut.TheVariants as cuts
use Rattle.saber_dispatch.specs.Readings.{Reading, reading_of, one_new, two_new, Suits, ReadHasEnd, ReadNeeds, IsOpen}
use Rattle.saber_dispatch.specs.Filling.{Took, keeps}

-- the reader of a query's inputs before its first row
abbrev pub fresh_on : Tree → FileLimits → List Stream → Reading
fresh_on q limits [] = one_new (columns_on q.streams Left) limits
fresh_on q limits (s ∷ []) = one_new (columns_on q.streams Left) limits
fresh_on q limits (s ∷ t ∷ more) = two_new (columns_on q.streams Left) (columns_on q.streams Right) limits

abbrev pub fresh : Tree → FileLimits → Reading
fresh q limits = fresh_on q limits q.streams

-- ---- how far back tasks look

-- before task t, of whose rows these stand before: the blocks from one on that task t doesn't look back beyond, each with its greatest last window
pub record KeepsLasts (q : Tree) (n : ℕ) (xs : List Row) (t : ℕ) (l : Lasts) : Type 0 where
  pub join : q.shape ≡ Join
  pub windows : l.windows ≡ frame q
  pub low : l.first ≤ free q n (going_on xs) t
  pub at : l.first ≤ t
  pub list : l.list.items ≡ block_lasts (frame q) n (going_on xs) l.first (t - l.first)

-- a query that joins no streams keeps none
abbrev pub LooksBack : Tree → ℕ → List Row → ℕ → Option Lasts → Type 0
LooksBack q n xs t None = q.shape ≢ Join
LooksBack q n xs t (Some l) = KeepsLasts q n xs t l

-- one block more is kept, whose rows have this greatest last window
abbrev pub KeepsOne : Option ℕ → Lasts → Lasts → Type 0
KeepsOne last old new = (new.list.items ≡ old.list.items ++ last ∷ []) × (new.first ≡ old.first) × (new.windows ≡ old.windows)

-- all tasks of these rows stand before task t
pub record Behind (q : Tree) (n : ℕ) (xs : List Row) (t : ℕ) (before : Mark) : Type 0 where
  pub windows : Fits (frame q)
  pub some : 1 ≤ n
  pub ordered : Ordered no_rows xs
  pub count : t ≡ task_count n (going_on xs)
  pub mark : before ≡ mark_of xs
  pub left : before.left ≤ 2 ^ 40
  pub right : before.right ≤ 2 ^ 40

-- whatever tasks stand before task t, this is the first block that it looks back on
abbrev pub IsFirstOf : ℕ → Mark → Option Lasts → ℕ → Type 0
IsFirstOf t before old first = (q : Tree) (n : ℕ) (xs : List Row) → Behind q n xs t before → LooksBack q n xs t old → first ≡ free q n (going_on xs) t

-- these rows may be a block's behind some tasks, and what is kept is that of the tasks
abbrev pub MayNote : Mark → List Row → Option Lasts → Type 0
MayNote before rows old = (q : Tree) × (n : ℕ) × (xs : List Row) × (t : ℕ) ×
    Behind q n xs t before × LooksBack q n xs t old × RowsFit q before rows × (length rows ≤ 2 ^ 16)

-- whatever whole tasks stand before these rows, what is kept is so behind them
abbrev pub NotesOn : Mark → List Row → Option Lasts → Option Lasts → Type 0
NotesOn before rows old new = (q : Tree) (n : ℕ) (xs : List Row) (t : ℕ) →
    Behind q n xs t before → length xs ≡ t * n → LooksBack q n xs t old → RowsFit q before rows → length rows ≤ n → LooksBack q n (xs ++ rows) (t + 1) new

-- ---- the cutter

-- whether the end of the input is a task: that is asked for, and the query has windows
abbrev pub end_counts : Tree → Sizes → Bool
end_counts q s = s.flush && has_windows (frame q)

-- what it was made for
pub record MadeFor (s : Sizes) (c : Cutter) : Type 0 where
  pub size : c.size ≡ s.task
  pub room : c.room ≡ s.ring

-- it goes on behind whole blocks
pub record Goes (q : Tree) (s : Sizes) (c : Cutter) (r : Input) (dropped : List Row) : Type 0 where
  pub none_dropped : dropped ≡ []
  pub unended : r.ended ≡ false
  pub open_still : IsOpen (reading_of c.reader)
  pub whole : length r.rows ≡ c.number * s.task
  pub mark : c.mark ≡ mark_of r.rows
  pub back : LooksBack q s.task r.rows c.number c.lasts

-- All rows are in blocks. As long as the input's end isn't, the cutter has what the end's block tells.
pub record AtEnd (q : Tree) (s : Sizes) (c : Cutter) (r : Input) (dropped : List Row) : Type 0 where
  pub none_dropped : dropped ≡ []
  pub has_end : ReadHasEnd all_read (reading_of c.reader)
  pub mark : r.ended ≡ false → c.mark ≡ mark_of r.rows
  pub back : r.ended ≡ false → LooksBack q s.task r.rows c.number c.lasts

-- all rows before a line that is refused are in blocks
pub record AtBad (c : Cutter) (r : Input) (dropped : List Row) (end : rows.End) : Type 0 where
  pub none_dropped : dropped ≡ []
  pub unended : r.ended ≡ false
  pub has_end : ReadHasEnd end (reading_of c.reader)

-- a read of a side failed, and every whole task of the rows that were read was given
pub record CutOff (s : Sizes) (c : Cutter) (r : Input) (dropped : List Row) (side : Side) : Type 0 where
  pub needs : ReadNeeds side (reading_of c.reader)
  pub unended : r.ended ≡ false
  pub whole : length r.rows ≡ c.number * s.task
  pub few : length dropped < s.task

-- the input's end is a task, behind all rows, of which there are some
pub record EndComes (q : Tree) (s : Sizes) (c : Cutter) (r : Input) (dropped : List Row) : Type 0 where
  pub counts : end_counts q s ≡ true
  pub had_rows : 1 ≤ length r.rows
  pub none_dropped : dropped ≡ []
  pub has_end : ReadHasEnd all_read (reading_of c.reader)

-- a task that isn't given is there: it has rows that were read, or is the input's end
abbrev pub IsThere : Tree → Sizes → Cutter → Input → List Row → Bool → Type 0
IsThere q s c r dropped false = 1 ≤ length dropped
IsThere q s c r dropped true = EndComes q s c r dropped

-- the task behind those given needs the rows of more tasks than there is room for
pub record IsTooWide (q : Tree) (s : Sizes) (c : Cutter) (r : Input) (dropped : List Row) (task needs : ℕ) : Type 0 where
  pub task_is : task ≡ c.number
  pub unended : r.ended ≡ false
  pub ended : Bool
  pub there : IsThere q s c r dropped ended
  pub needs_is : needs ≡ need q s.task r task
  pub wide : s.ring < needs

-- why no more rows are put into blocks
abbrev pub CutState : Tree → Sizes → Cutter → Input → List Row → Option End → Type 0
CutState q s c r dropped None = Goes q s c r dropped
CutState q s c r dropped (Some AllRead) = AtEnd q s c r dropped
CutState q s c r dropped (Some (Bad side line cause)) = AtBad c r dropped (bad side line cause)
CutState q s c r dropped (Some (ReadFault side)) = CutOff s c r dropped side
CutState q s c r dropped (Some (TooWide task needs)) = IsTooWide q s c r dropped task needs
CutState q s c r dropped (Some NoMemory) = Unit {0}

-- The blocks given are whole tasks, or all rows are in blocks.
abbrev pub AreWhole : Sizes → Cutter → Input → List Row → Type 0
AreWhole s c r dropped = (length r.rows ≡ c.number * s.task) ⊎ ((dropped ≡ []) × (e : rows.End) × ReadHasEnd e (reading_of c.reader))

-- whether the block of the input's end was given: then it comes no more
pub record EndGiven (q : Tree) (s : Sizes) (c : Cutter) (r : Input) (dropped : List Row) : Type 0 where
  pub comes : EndComes q s c r dropped
  pub ended : c.ended ≡ Some AllRead
  pub once : c.flush ≡ false

abbrev pub Flushes : Tree → Sizes → Cutter → Input → List Row → Bool → Type 0
Flushes q s c r dropped false = c.flush ≡ end_counts q s
Flushes q s c r dropped true = EndGiven q s c r dropped

-- The cutter gave the tasks of this input, which are the first of its inputs; it read other rows that are in no block.
pub record Cuts (q : Tree) (s : Sizes) (had has : Lefts) (c : Cutter) (r : Input) : Type 0 where
  pub windows : Fits (frame q)
  pub sizes : SizesFit s
  pub made : MadeFor s c
  pub dropped : List Row
  pub took : Took q no_rows (fresh q (limits_of s)) (reading_of c.reader) had has (r.rows ++ dropped)
  pub count : c.number ≡ task_count s.task r
  pub near : (u : ℕ) → u < c.number → need q s.task r u ≤ s.ring
  pub whole : AreWhole s c r dropped
  pub flushes : Flushes q s c r dropped r.ended
  pub state : CutState q s c r dropped c.ended

-- the block of the input's end is still to come behind so many blocks, where no more rows come for this end
abbrev pub is_due : Bool → ℕ → End → Bool
is_due flush count AllRead = flush && not (count == 0)
is_due flush count (Bad side line cause) = false
is_due flush count (ReadFault side) = false
is_due flush count (TooWide task needs) = false
is_due flush count NoMemory = false

abbrev pub told_end : Bool → ℕ → Option End → Option End
told_end flush count None = None
told_end flush count (Some e) = if is_due flush count e then None else Some e

-- why no more blocks come
abbrev pub end_of : Cutter → Option End
end_of c = told_end c.flush c.number c.ended

-- ---- what is given

-- rows of the next task, behind whole ones
pub record AddsRows (s : Sizes) (r : Input) (b : Block) : Type 0 where
  pub whole : length r.rows ≡ b.number * s.task
  pub some : 1 ≤ length b.rows
  pub few : length b.rows ≤ s.task

-- no rows, but the end of an input that has some, where it counts
pub record AddsEnd (q : Tree) (s : Sizes) (r : Input) (b : Block) : Type 0 where
  pub counts : end_counts q s ≡ true
  pub had_rows : 1 ≤ length r.rows
  pub none : b.rows ≡ []

abbrev pub Adds : Tree → Sizes → Input → Block → Bool → Type 0
Adds q s r b false = AddsRows s r b
Adds q s r b true = AddsEnd q s r b

-- The block of the next task of an input: the rows of the task or the input's end, with what stands before them, and the first task whose rows
-- the task needs. The rows that it has of those before are the last of them.
pub record IsNextBlock (q : Tree) (s : Sizes) (r : Input) (b : Block) : Type 0 where
  pub windows : Fits (frame q)
  pub size : 1 ≤ s.task
  pub unended : r.ended ≡ false
  pub number : b.number ≡ task_count s.task r
  pub before : b.before ≡ mark_of r.rows
  pub earlier : EndWith r.rows b.earlier
  pub first : b.first ≡ free q s.task r b.number
  pub near : need q s.task r b.number ≤ s.ring
  pub fits : RowsFit q no_rows (r.rows ++ b.rows)
  pub adds : Adds q s r b b.ended

-- an input with one block more
abbrev pub and_block : Input → Block → Input
and_block r b = record { rows = r.rows ++ b.rows; ended = r.ended || b.ended }

-- what a call comes to
abbrev pub CutTo : Cut → Tree → Sizes → Lefts → Lefts → Cutter → Input → Type 0
CutTo (cuts.Block b) q s had has new r = IsNextBlock q s r b × Cuts q s had has new (and_block r b)
CutTo (cuts.Ended e) q s had has new r = (end_of new ≡ Some e) × Cuts q s had has new r

-- whatever was given before
abbrev pub CutsOn : Cut → Lefts → Lefts → Cutter → Cutter → Type 0
CutsOn cut left has old new = (q : Tree) (s : Sizes) (had : Lefts) (r : Input) → Cuts q s had left old r → CutTo cut q s had has new r

-- a side is told as failed only where its count of faults rose
abbrev pub ReadFaultsRose : Cut → List ℕ → List ℕ → Type 0
ReadFaultsRose cut old new = (side : Side) → cut ≡ cuts.Ended (ReadFault side) → RoseAt side old new

-- nothing was given, and nothing read
abbrev pub CutsNothing : Tree → Sizes → Cutter → Type 0
CutsNothing q s c = (had : Lefts) → Suits (fresh q (limits_of s)) had → Cuts q s had had c (going_on [])

-- the end in place of a task that needs the blocks from this one on, where there is no room for so many
abbrev pub too_wide : ℕ → ℕ → ℕ → Option End
too_wide task first room = if nat_lt room (task - first + 1) then Some (TooWide task (task - first + 1)) else None

-- Whatever was given before the block with this number, which was given last: behind it no more blocks come, as if it hadn't been there.
abbrev pub TakenBack : ℕ → Bool → Cutter → Cutter → Type 0
TakenBack number ended old new = (q : Tree) (s : Sizes) (had left has : Lefts) (before : Cutter) (r : Input) (b : Block) →
    b.number ≡ number → b.ended ≡ ended → Cuts q s had left before r → IsNextBlock q s r b → Cuts q s had has old (and_block r b) →
    CutTo (cuts.Ended NoMemory) q s had has new r

-- ---- a block's rows were read

-- why no block of rows follows the one that was filled so
abbrev pub ended_by : Result (Unit {0}) End → Option End
ended_by (Ok u) = None
ended_by (Err e) = Some e

-- the end that comes in place of a block of so many rows, which was filled so
abbrev pub stops : Result (Unit {0}) End → ℕ → Option End
stops (Ok u) count = None
stops (Err e) count = if keeps e && not (count == 0) then None else Some e

-- why no more rows come behind those of a block that is kept
abbrev pub FilledState : Sizes → Cutter → List Row → Option End → Type 0
FilledState s c rows None = IsOpen (reading_of c.reader) × (length rows ≡ s.task)
FilledState s c rows (Some AllRead) = ReadHasEnd all_read (reading_of c.reader)
FilledState s c rows (Some (Bad side line cause)) = ReadHasEnd (bad side line cause) (reading_of c.reader)
FilledState s c rows (Some _) = ⊥

-- the rows of the block behind those of the blocks given
pub record Filled (q : Tree) (s : Sizes) (had has : Lefts) (c : Cutter) (xs : List Row) (before : Mark) (rows : List Row) : Type 0 where
  pub windows : Fits (frame q)
  pub sizes : SizesFit s
  pub made : MadeFor s c
  pub took : Took q no_rows (fresh q (limits_of s)) (reading_of c.reader) had has (xs ++ rows)
  pub some : 1 ≤ length rows
  pub few : length rows ≤ s.task
  pub whole : length xs ≡ c.number * s.task
  pub near : (u : ℕ) → u < c.number → need q s.task (going_on xs) u ≤ s.ring
  pub counts : c.flush ≡ end_counts q s
  pub before_is : before ≡ mark_of xs
  pub mark : c.mark ≡ mark_of (xs ++ rows)
  pub back : LooksBack q s.task xs c.number c.lasts
  pub state : FilledState s c rows c.ended

-- whatever was given before, these rows were read behind it, and this is what comes of their block
abbrev pub PutsOn : Cut → Mark → List Row → Cutter → Cutter → Type 0
PutsOn cut before rows old new = (q : Tree) (s : Sizes) (had has : Lefts) (xs : List Row) →
    Filled q s had has old xs before rows → CutTo cut q s had has new (going_on xs)
