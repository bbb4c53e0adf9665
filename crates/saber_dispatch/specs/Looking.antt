-- How the next task is begun: the first block that it looks back on, and what then is kept of its rows.
use Rattle.std.specs.Prelude.{◌≡◌, ◌≢◌, ◌≤◌, ◌<◌, ◌+◌, ◌-◌, ℕ, List, ◌++◌, Some, Result, Ok, Err}
use Rattle.saber_plan.specs.declared.rows.Row.{Row}
use Rattle.saber_plan.specs.declared.rows.Side.{Side}
use Rattle.saber_plan.specs.declared.windows.Mark.{Mark}
use Rattle.saber_plan.specs.declared.sizes.Sizes.{Sizes}
use Rattle.saber_plan.specs.Inputs.{going_on}
use Rattle.saber_plan.specs.Trees.{Tree}
use Rattle.saber_plan.specs.Needs.{free}
use Rattle.saber_dispatch.specs.Sources.{Lefts}
use Rattle.saber_dispatch.specs.declared.ends.End.{End}
use Rattle.saber_dispatch.specs.declared.ends.End.TheVariants.{ReadFault, TooWide}
use Rattle.saber_dispatch.specs.declared.cutter.Cutter.{Cutter}
use Rattle.saber_dispatch.specs.declared.cutter.Cut.TheVariants as cuts
use Rattle.saber_dispatch.specs.Closing.{EndStays}
use Rattle.saber_dispatch.specs.Cutting.{Behind, LooksBack, IsFirstOf, Filled, Cuts, CutTo}

-- the next task looks back on the blocks from this one on, and there is room for so many
pub record HasRoom (before : Mark) (first : ℕ) (old new : Cutter) : Type 0 where
  pub first_is : IsFirstOf old.number before old.lasts first
  pub near : old.number - first + 1 ≤ old.room
  pub back : (q : Tree) (n : ℕ) (xs : List Row) → Behind q n xs old.number before → LooksBack q n xs old.number old.lasts → LooksBack q n xs old.number new.lasts
  pub same : new ≡ record old { lasts = new.lasts }

-- there is no room for so many: this end comes
pub record HasNoRoom (before : Mark) (end : End) (old new : Cutter) : Type 0 where
  pub first : ℕ
  pub first_is : IsFirstOf old.number before old.lasts first
  pub wide : old.room < old.number - first + 1
  pub end_is : end ≡ TooWide old.number (old.number - first + 1)
  pub same : new ≡ record old { lasts = new.lasts; ended = Some end }

abbrev pub Looked : Mark → Result ℕ End → Cutter → Cutter → Type 0
Looked before (Ok first) old new = HasRoom before first old new
Looked before (Err end) old new = HasNoRoom before end old new

-- the block of these rows, which were read behind the blocks given, counts as one more of them; its task looks back on the blocks from this one on
pub record CountsBlock (before : Mark) (rows : List Row) (first : ℕ) (old new : Cutter) : Type 0 where
  pub near : old.number - first + 1 ≤ old.room
  pub cuts : (q : Tree) (s : Sizes) (had has : Lefts) (xs : List Row) → Filled q s had has old xs before rows →
      (first ≡ free q s.task (going_on xs) old.number) × Cuts q s had has new (going_on (xs ++ rows))
  pub ended : new.ended ≡ old.ended
  pub reader : new.reader ≡ old.reader

-- this end comes in its place
pub record LeavesBlock (before : Mark) (rows : List Row) (end : End) (old new : Cutter) : Type 0 where
  pub cuts : (q : Tree) (s : Sizes) (had has : Lefts) (xs : List Row) → Filled q s had has old xs before rows → CutTo (cuts.Ended end) q s had has new (going_on xs)
  pub no_fault : (side : Side) → end ≢ ReadFault side
  pub stays : EndStays old new

abbrev pub BlockCounted : Mark → List Row → Result ℕ End → Cutter → Cutter → Type 0
BlockCounted before rows (Ok first) old new = CountsBlock before rows first old new
BlockCounted before rows (Err end) old new = LeavesBlock before rows end old new
