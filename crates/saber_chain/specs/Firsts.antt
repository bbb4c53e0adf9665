-- What a run of the first query gives.
use Rattle.std.specs.Prelude.{◌≡◌, ◌≢◌, ℕ, List, Option, Some, IfSome}
use Rattle.saber_io.specs.declared.feeds.EndMark.{EndMark}
use Rattle.saber_plan.specs.declared.rows.Side.{Side}
use Rattle.saber_plan.specs.declared.sizes.Sizes.{Sizes}
use Rattle.saber_plan.specs.Trees.{Tree}
use Rattle.saber_dispatch.specs.declared.inputs.Inputs.{Inputs}
use Rattle.saber_plan.specs.declared.ends.RunEnd.{RunEnd}
use Rattle.saber_plan.specs.declared.ends.RunEnd.TheVariants.{ReadFault, WriteFault}
use Rattle.saber_engine.specs.Sources.{each_input, told_by, RoseAt, NoneFell, GaveAll}
use Rattle.saber_plan.specs.Runs.{GivesOver, IsClean}
use Rattle.saber_engine.specs.Gives.{LeavesWhole}
use Rattle.saber_chain.specs.declared.settle.FirstEnd.{FirstEnd}
use Rattle.saber_chain.specs.Marks.{mark_after}

module _ {S : Type 0} (left : S → Option (List ℕ)) (faults : S → ℕ) where
  -- a run over inputs whose text goes where no write fails
  pub record RunsFirst (q : Tree) (s : Sizes) (had has : Inputs S) (end : RunEnd) (tasks : ℕ) (out : List ℕ) : Type 0 where
    pub gives : IfSome (told_by left had) (λ files. GivesOver q s files end tasks out)
    pub whole : LeavesWhole q s (each_input left had) (each_input left has) end tasks
    pub takes : (taken : List (List ℕ)) × GaveAll (each_input left had) taken (each_input left has)
    pub read : (side : Side) → end ≡ ReadFault side → RoseAt side (each_input faults had) (each_input faults has)
    pub read_good : IsClean end → each_input faults has ≡ each_input faults had
    pub reads : NoneFell (each_input faults had) (each_input faults has)
    pub never : end ≢ WriteFault

  -- the same of a run whose text was sent with the mark behind it that tells of its end
  pub record RanFirst (q : Tree) (s : Sizes) (had has : Inputs S) (end : RunEnd) (tasks : ℕ) (out : List ℕ) (sent : Option EndMark) : Type 0 where
    pub runs : RunsFirst q s had has end tasks out
    pub mark : sent ≡ Some (mark_after end)

  -- the same by the struct that tells how it ended
  abbrev pub RanFirstTo : Tree → Sizes → Inputs S → FirstEnd S → List ℕ → Option EndMark → Type 0
  RanFirstTo q s had ran out sent = RanFirst q s had ran.inputs ran.end ran.tasks out sent
