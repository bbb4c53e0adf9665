-- A block that is passed on, with rows of the one before it and its own rows' places.
use Rattle.std.proofs.Common.{◌≡◌, [], ◌++◌, Bool, true, false, sym, ap, subst}
use Rattle.std.specs.Prelude.{Option, None, IfSome}
use Rattle.saber_plan.specs.declared.sizes.Sizes.{Sizes}
use Rattle.saber_plan.specs.Inputs.{Input}
use Rattle.saber_plan.specs.Trees.{Tree}
use Rattle.saber_fragment.specs.declared.blocks.Block.{Block}
use Rattle.saber_fragment.specs.declared.blocks.Earlier.{Earlier}
use Rattle.saber_fragment.specs.Drafts.{EndWith}
use Rattle.saber_dispatch.specs.declared.keeper.Keeper.{Keeper}
use Rattle.saber_dispatch.specs.Cutting.{Adds, IsNextBlock, and_block}
use Rattle.saber_dispatch.specs.Keeping.{KeepsLast, CountsRows, IsPlaced}
pub use Rattle.saber_engine.specs.Dealing.{Passes}

-- nothing is kept before the first block
pub kept_none : (k : Keeper) → k.kept ≡ None → KeepsLast k []
kept_none k none = subst (λ (o : Option Earlier). IfSome o (EndWith [])) (sym none) tt

-- what a block adds is told by its own rows
adds_same : (q : Tree) (s : Sizes) (r : Input) (b c : Block) (ended : Bool) → Adds q s r b ended → Adds q s r (record b { earlier = c.earlier; places = c.places }) ended
adds_same q s r b c false a = record { whole = a.whole; some = a.some; few = a.few }
adds_same q s r b c true a = record { counts = a.counts; had_rows = a.had_rows; none = a.none }

module _ (q : Tree) (s : Sizes) (r : Input) (old : Keeper) (b c : Block) (new : Keeper) (p : Passes old b c new) (kept : KeepsLast old r.rows) (counted : CountsRows old q r.rows) (next : IsNextBlock q s r b) where
  -- it is still the next one
  pub next_passed : IsNextBlock q s r c
  next_passed = subst (IsNextBlock q s r) (sym p.same) (record {
    windows = next.windows;
    size = next.size;
    unended = next.unended;
    number = next.number;
    before = next.before;
    earlier = p.gives r.rows next.before next.earlier kept;
    first = next.first;
    near = next.near;
    fits = next.fits;
    adds = adds_same q s r b c b.ended next.adds;
  })

  -- and has its rows' places
  pub is_placed : IsPlaced q r.rows c
  is_placed = (p.places q r.rows counted).places

  -- the input with it is the same
  pub same_with : and_block r b ≡ and_block r c
  same_with = ap (and_block r) (sym p.same)

  -- of its rows the last are kept
  pub kept_on : KeepsLast new (r.rows ++ c.rows)
  kept_on = subst (λ (x : Block). KeepsLast new (r.rows ++ x.rows)) (sym p.same) (p.keeps r.rows next.before kept)

  -- and all are counted
  pub counted_on : CountsRows new q (r.rows ++ c.rows)
  counted_on = (p.places q r.rows counted).counted
