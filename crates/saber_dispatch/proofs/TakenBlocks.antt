-- A block that is taken back.
use Rattle.std.proofs.Common.{◌≡◌, ℕ, List, subst}
use Rattle.saber_plan.specs.declared.sizes.Sizes.{Sizes}
use Rattle.saber_plan.specs.Inputs.{Input}
use Rattle.saber_plan.specs.Trees.{Tree}
use Rattle.std.specs.Prelude.{Option, Some, None}
use Rattle.saber_io.specs.declared.feeds.EndMark.{EndMark}
use Rattle.saber_dispatch.specs.declared.ends.End.{End}
use Rattle.saber_dispatch.specs.declared.ends.End.TheVariants.{NoMemory}
use Rattle.saber_dispatch.specs.declared.fed_cutter.Begun.{Begun}
use Rattle.saber_dispatch.specs.declared.cutter.Cutter.{Cutter}
use Rattle.saber_dispatch.specs.FedReadings.{only, EndTold}
use Rattle.saber_dispatch.specs.Feeding.{Gave}
use Rattle.saber_dispatch.specs.Cutting.{Cuts}

-- what was given before a block that is begun, if one is
pub cuts_before : (q : Tree) (s : Sizes) (taken waiting : List ℕ) (c : Cutter) (r : Input) (b : Option Begun) → Gave q s taken waiting c r b → (start : Cutter) × (there : List ℕ) × Cuts q s (only taken) (only there) start r
cuts_before q s taken waiting c r None g = (c, waiting, g)
cuts_before q s taken waiting c r (Some b) g = (g.start, g.there, g.cuts)

-- want of memory tells nothing of a feed
pub nothing_told : (e : End) (waiting : List ℕ) (mark : Option EndMark) → ◌≡◌ {A = Option End} (Some NoMemory) (Some e) → EndTold e waiting mark
nothing_told e waiting mark is = let same : NoMemory ≡ e = cc in subst (λ x. EndTold x waiting mark) same tt
