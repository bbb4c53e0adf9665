-- What was given of a run's inputs, block after block.
use Rattle.std.specs.Prelude.{◌≡◌, ◌≢◌, ℕ, List, [], Option, Some, None, false}
use Rattle.saber_plan.specs.declared.rows.Row.{Row}
use Rattle.saber_plan.specs.declared.rows.Side.{Side}
use Rattle.saber_plan.specs.declared.sizes.Sizes.{Sizes}
use Rattle.saber_plan.specs.Trees.{Tree}
use Rattle.saber_fragment.specs.declared.blocks.Block.{Block}
use Rattle.saber_assembly.specs.declared.work.RunData.{RunData}
use Rattle.saber_assembly.specs.Works.{IsTold, IsBlockOf, input_of, with_block}
use Rattle.saber_dispatch.specs.declared.ends.End.{End}
use Rattle.saber_dispatch.specs.declared.ends.End.TheVariants.{ReadFault}
use Rattle.saber_dispatch.specs.declared.cutter.Cutter.{Cutter}
use Rattle.saber_dispatch.specs.declared.inputs.Inputs.{Inputs}
use Rattle.saber_dispatch.specs.declared.keeper.Keeper.{Keeper}
use Rattle.saber_dispatch.specs.Sources.{Lefts, RoseAt, NoneFell, each_input}
use Rattle.saber_dispatch.specs.Cutting.{Cuts, end_of}
use Rattle.saber_dispatch.specs.Keeping.{KeepsLast, CountsRows}
use Rattle.saber_crew.specs.declared.supply.Supplied.{Supplied}
use Rattle.saber_crew.specs.Supplies.{Gives}
use Rattle.saber_engine.specs.Sources.{rows_left}

-- the counts of faults since the run began, by how the blocks ended: where a side can't be read its count rose, and else all are as they were
pub record AreCounted (end : Option End) (before now : List ℕ) : Type 0 where
  pub fell : NoneFell before now
  pub good : ((side : Side) → end ≢ Some (ReadFault side)) → now ≡ before
  pub cause : (side : Side) → end ≡ Some (ReadFault side) → RoseAt side before now

-- Of inputs that had so much left and such counts, so many blocks were given, and the data have their rows. Where the inputs tell what they had,
-- the data have all rows of that too. As long as more may come, the last of those given are kept, if any are, and they are counted by their key
-- lists. Once the blocks ended, the cutter tells their end, and until then no read had failed.
pub record HasGiven {O : Type 0} (plan : O → Tree) (s : Sizes) (had has : Lefts) (before now : List ℕ) (c : Cutter) (k : Keeper) (end : Option End)
    (told : RunData O) (d : ℕ) : Type 0 where
  pub cuts : Cuts (plan told.operator) s had has c (input_of told)
  pub size : told.size ≡ s.task
  pub all : told.all ≡ rows_left plan s had told.operator
  pub count : d ≡ c.number
  pub kept : end ≡ None → KeepsLast k told.rows
  pub placed : end ≡ None → CountsRows k (plan told.operator) told.rows
  pub ended : (e : End) → end ≡ Some e → end_of c ≡ Some e
  pub sound : end ≡ None → (side : Side) → end_of c ≢ Some (ReadFault side)
  pub counted : AreCounted end before now

-- the data before a block is filled
abbrev pub first_told : {O : Type 0} → O → ℕ → Option (List ℕ) → ℕ → ℕ → Option (List Row) → RunData O
first_told operator size written faults writes all = record {
  operator = operator;
  size = size;
  written = written;
  faults = faults;
  writes = writes;
  all = all;
  rows = [];
  ended = false;
}

-- where the blocks of inputs stand: what each input has left, and its count of faults; the cutter, and what is kept for the next block; and
-- how the blocks ended, once they did
pub record Standing : Type 0 where
  pub lefts : Lefts
  pub faults : List ℕ
  pub cutter : Cutter
  pub keeper : Keeper
  pub end : Option End

abbrev pub standing_of : {S : Type 0} → (S → Option (List ℕ)) → (S → ℕ) → Inputs S → Cutter → Keeper → Option End → Standing
standing_of left faults inputs cutter keeper end = record {
  lefts = each_input left inputs;
  faults = each_input faults inputs;
  cutter = cutter;
  keeper = keeper;
  end = end;
}

module _ {O : Type 0} (plan : O → Tree) (s : Sizes) (lefts : Lefts) (faults : List ℕ) where
  -- of inputs that had so much left and such counts, so many blocks were given
  abbrev pub GivenAt : Standing → RunData O → ℕ → Type 0
  GivenAt now told d = HasGiven plan s lefts now.lefts faults now.faults now.cutter now.keeper now.end told d

  -- some blocks were given
  abbrev pub GivenSome : Standing → Type 0
  GivenSome now = (told : RunData O) × (d : ℕ) × GivenAt now told d

  -- whatever blocks were given, this is the next one, or none, and then those stay
  abbrev pub GivesNext : Standing → Standing → Supplied Block → Type 0
  GivesNext old new supplied = (told : RunData O) (d : ℕ) → GivenAt old told d →
      Gives (IsTold plan) with_block (IsBlockOf plan) (GivenAt new) told d supplied
