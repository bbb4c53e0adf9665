-- What was given of a feed's rows, block after block.
use Rattle.std.specs.Prelude.{◌≡◌, ◌≢◌, ◌≤◌, ◌⊎◌, ◌++◌, ℕ, List, Option, Some, None}
use Rattle.saber_plan.specs.Outputs.{Rose}
use Rattle.saber_io.specs.declared.feeds.EndMark.{EndMark}
use Rattle.saber_plan.specs.declared.rows.Side.{Side}
use Rattle.saber_plan.specs.declared.sizes.Sizes.{Sizes}
use Rattle.saber_plan.specs.Trees.{Tree}
use Rattle.saber_plan.specs.Tasks.{task_count}
use Rattle.saber_fragment.specs.declared.blocks.Block.{Block}
use Rattle.saber_assembly.specs.declared.work.RunData.{RunData}
use Rattle.saber_assembly.specs.Works.{IsTold, IsBlockOf, input_of, with_block}
use Rattle.saber_dispatch.specs.declared.ends.End.{End}
use Rattle.saber_dispatch.specs.declared.ends.End.TheVariants.{ReadFault}
use Rattle.saber_dispatch.specs.declared.fed_cutter.FedCutter.{FedCutter}
use Rattle.saber_dispatch.specs.declared.keeper.Keeper.{Keeper}
use Rattle.saber_dispatch.specs.FedReadings.{NothingWaits}
use Rattle.saber_dispatch.specs.Feeding.{CutsFed, fed_end_of}
use Rattle.saber_dispatch.specs.Keeping.{KeepsLast, CountsRows}
use Rattle.saber_crew.specs.declared.supply.Supplied.{Supplied}
use Rattle.saber_crew.specs.Supplies.{Gives}

-- what a feed tells: what was taken of it, what of this still waits, the mark that was taken, and its count of faults
pub record FeedView : Type 0 where
  pub taken : List ℕ
  pub waiting : List ℕ
  pub mark : Option EndMark
  pub faults : ℕ

-- Nothing of a feed waits, and no mark was taken; or no mark was taken before, and all that waits came since.
abbrev pub DryOrCame : Option EndMark → List ℕ → List ℕ → List ℕ → Option EndMark → Type 0
DryOrCame had taken taken' waiting' mark' = NothingWaits waiting' mark' ⊎ ((had ≡ None) × (came : List ℕ) × (taken' ≡ (taken ++ came) ++ waiting'))

-- a feed, seen so
abbrev pub feed_seen : {F : Type 0} → (F → List ℕ) → (F → List ℕ) → (F → Option EndMark) → (F → ℕ) → F → FeedView
feed_seen taken waiting mark faults f = record { taken = taken f; waiting = waiting f; mark = mark f; faults = faults f }

-- the count of faults since the run began, by how the blocks ended: where the feed was cut off it rose, and else it is as it was
pub record IsCounted (end : Option End) (before now : ℕ) : Type 0 where
  pub rises : before ≤ now
  pub good : ((side : Side) → end ≢ Some (ReadFault side)) → now ≡ before
  pub cause : (side : Side) → end ≡ Some (ReadFault side) → Rose before now

-- Of a feed with such a count when the run began, so many blocks were given, and the data have their rows. Which rows come in all isn't known. As
-- long as more may come, the last of those given are kept, if any are, and they are counted by their key lists. Once the blocks ended, the cutter
-- tells their end, and until then the feed was not found cut off.
pub record HasFed {O : Type 0} (plan : O → Tree) (s : Sizes) (before : ℕ) (v : FeedView) (c : FedCutter) (k : Keeper) (end : Option End)
    (told : RunData O) (d : ℕ) : Type 0 where
  pub cuts : CutsFed (plan told.operator) s v.taken v.waiting v.mark c (input_of told)
  pub size : told.size ≡ s.task
  pub all : told.all ≡ None
  pub count : d ≡ task_count s.task (input_of told)
  pub kept : end ≡ None → KeepsLast k told.rows
  pub placed : end ≡ None → CountsRows k (plan told.operator) told.rows
  pub ended : (e : End) → end ≡ Some e → fed_end_of c ≡ Some e
  pub sound : end ≡ None → (side : Side) → fed_end_of c ≢ Some (ReadFault side)
  pub counted : IsCounted end before v.faults

module _ {T R : Type 0} (is_told : T → ℕ → Type 0) (filled : T → R → T) (is_rows : T → ℕ → R → Type 0) (given : T → ℕ → Type 0) (told : T) (d : ℕ) where
  -- an answer of a supply; or none as yet, and the tasks that were given stay
  abbrev pub Tries : Option (Supplied R) → Type 0
  Tries None = given told d
  Tries (Some supplied) = Gives is_told filled is_rows given told d supplied

-- where the blocks of a feed stand: the feed, the cutter, what is kept for the next block, and how the blocks ended, once they did
pub record FedStanding : Type 0 where
  pub view : FeedView
  pub cutter : FedCutter
  pub keeper : Keeper
  pub end : Option End

abbrev pub fed_standing : FeedView → FedCutter → Keeper → Option End → FedStanding
fed_standing view cutter keeper end = record { view = view; cutter = cutter; keeper = keeper; end = end }

module _ {O : Type 0} (plan : O → Tree) (s : Sizes) (faults : ℕ) where
  -- of a feed with such a count, so many blocks were given
  abbrev pub FedAt : FedStanding → RunData O → ℕ → Type 0
  FedAt now told d = HasFed plan s faults now.view now.cutter now.keeper now.end told d

  -- some blocks were given
  abbrev pub FedSome : FedStanding → Type 0
  FedSome now = (told : RunData O) × (d : ℕ) × FedAt now told d

  -- whatever blocks were given, this is the next one, or none, and then those stay
  abbrev pub FeedsNext : FedStanding → FedStanding → Supplied Block → Type 0
  FeedsNext old new supplied = (told : RunData O) (d : ℕ) → FedAt old told d →
      Gives (IsTold plan) with_block (IsBlockOf plan) (FedAt new) told d supplied

  -- the same of a call that may have no answer as yet
  abbrev pub TriesNext : FedStanding → FedStanding → Option (Supplied Block) → Type 0
  TriesNext old new supplied = (told : RunData O) (d : ℕ) → FedAt old told d →
      Tries (IsTold plan) with_block (IsBlockOf plan) (FedAt new) told d supplied
