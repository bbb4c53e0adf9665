-- What was given of one input's rows to several queries, block after block.
use Rattle.std.specs.Prelude.{◌≡◌, ◌≢◌, ℕ, List, [], ◌++◌, Option, Vec}
use Rattle.std.specs.List.{AllZip}
use Rattle.std.specs.declared.alloc.Global.{Global}
use Rattle.saber_plan.specs.declared.rows.Row.{Row}
use Rattle.saber_plan.specs.declared.sizes.Sizes.{Sizes}
use Rattle.saber_plan.specs.GivenRows.{RowsFit}
use Rattle.saber_plan.specs.Trees.{Tree}
use Rattle.saber_plan.specs.Windows.{no_rows}
use Rattle.saber_fragment.specs.declared.blocks.Block.{Block}
use Rattle.saber_assembly.specs.declared.work.RunData.{RunData}
use Rattle.saber_assembly.specs.Works.{IsTold, IsBlockOf, with_block}
use Rattle.saber_dispatch.specs.declared.ends.End.{End}
use Rattle.saber_dispatch.specs.declared.cutter.Cutter.{Cutter}
use Rattle.saber_dispatch.specs.declared.inputs.Inputs.{Inputs}
use Rattle.saber_dispatch.specs.declared.keeper.Keeper.{Keeper}
use Rattle.saber_dispatch.specs.Sources.{Lefts, each_input}
use Rattle.saber_dispatch.specs.Keeping.{CountsRows, OnlyAdded, GivesLast, KeepsOn, PlacesNext}
use Rattle.saber_crew.specs.declared.supply.Supplied.{Supplied}
use Rattle.saber_crew.specs.Supplies.{Gives}
use Rattle.saber_many.specs.Laws.{AllThree}
use Rattle.saber_many.specs.Queries.{IsAlone}
use Rattle.saber_many.specs.Sharing.{each_filled, AreTold, AreRows}
use Rattle.saber_engine.specs.Supplying.{HasGiven}

-- ---- a block for each

-- a block for another query: the same, but it has no rows before its own, and no places
pub record IsLike (b c : Block) : Type 0 where
  pub same : OnlyAdded b c
  pub before : c.earlier.before ≡ b.before
  pub none : c.earlier.rows ≡ []

-- the keeper may pass it on: its rows stand behind those that are counted
abbrev pub CanPass : Block → Keeper → Type 0
CanPass b k = (q : Tree) × (xs : List Row) × CountsRows k q xs × RowsFit q no_rows (xs ++ b.rows)

-- what a call of the keeper says that passes a block on
pub record Passes (old : Keeper) (b c : Block) (new : Keeper) : Type 0 where
  pub same : OnlyAdded b c
  pub gives : GivesLast old b c
  pub keeps : KeepsOn old b new
  pub places : PlacesNext old c new

-- each keeper passes one on, in their order
abbrev pub DealsEach : Block → List Keeper → List Block → List Keeper → Type 0
DealsEach b olds cs news = AllThree (λ k c l. Passes k b c l) olds cs news

-- ---- what was given

module _ {O : Type 0} (plan : O → Tree) (s : Sizes) (had has : Lefts) (before now : List ℕ) (c : Cutter) (end : Option End) where
  -- so many blocks were given to one of them, which joins no streams
  abbrev pub GivenOne : ℕ → Keeper → RunData O → Type 0
  GivenOne d k told = HasGiven plan s had has before now c k end told d × IsAlone plan told

  -- and to each, of which there is one at least
  abbrev pub GivenEach : List Keeper → List (RunData O) → ℕ → Type 0
  GivenEach keepers told d = (told ≢ []) × AllZip (GivenOne d) keepers told

-- where the blocks of one input stand that are dealt to several: as for one, but what is kept is kept for each
pub record DealtStanding : Type 0 where
  pub lefts : Lefts
  pub faults : List ℕ
  pub cutter : Cutter
  pub keepers : List Keeper
  pub end : Option End

abbrev pub dealt_standing : {S : Type 0} → (S → Option (List ℕ)) → (S → ℕ) → Inputs S → Cutter → List Keeper → Option End → DealtStanding
dealt_standing left faults inputs cutter keepers end = record {
  lefts = each_input left inputs;
  faults = each_input faults inputs;
  cutter = cutter;
  keepers = keepers;
  end = end;
}

module _ {O : Type 0} (plan : O → Tree) (s : Sizes) (lefts : Lefts) (faults : List ℕ) where
  -- of inputs that had so much left and such counts, so many blocks were given to each
  abbrev pub DealtAt : DealtStanding → List (RunData O) → ℕ → Type 0
  DealtAt now told d = GivenEach plan s lefts now.lefts faults now.faults now.cutter now.end now.keepers told d

  -- some blocks were given
  abbrev pub DealtSome : DealtStanding → Type 0
  DealtSome now = (told : List (RunData O)) × (d : ℕ) × DealtAt now told d

  -- whatever blocks were given, these are the next ones, or none, and then those stay
  abbrev pub DealsNext : DealtStanding → DealtStanding → Supplied (Vec Block Global) → Type 0
  DealsNext old new supplied = (told : List (RunData O)) (d : ℕ) → DealtAt old told d →
      Gives (AreTold (IsTold plan) (IsAlone plan)) (λ ts (rows : Vec Block Global). each_filled with_block ts rows.items)
      (λ ts t (rows : Vec Block Global). AreRows (IsBlockOf plan) (IsAlone plan) ts t rows.items) (DealtAt new) told d supplied
