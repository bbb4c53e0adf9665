-- What comes of each query that was run over one input: over sources that are open, and over the left file.
use Rattle.std.specs.Prelude.{◌≡◌, ◌≢◌, ℕ, List, [], ◌∷◌, Option, IfSome, map}
use Rattle.saber_io.specs.Outside.{FilesView, Closed}
use Rattle.saber_plan.specs.Outputs.{Rose, raised_by}
use Rattle.saber_io.specs.declared.pours.Plain.{Plain}
use Rattle.saber_plan.specs.declared.rows.Side.{Side}
use Rattle.saber_plan.specs.declared.sizes.Sizes.{Sizes}
use Rattle.saber_plan.specs.declared.ends.RunEnd.{RunEnd}
use Rattle.saber_plan.specs.declared.ends.RunEnd.TheVariants.{ReadFault, WriteFault}
use Rattle.saber_plan.specs.Sizes.{limits_of}
use Rattle.saber_plan.specs.Trees.{Tree}
use Rattle.saber_plan.specs.Runs.{GivesOver, IsClean, writes_over}
use Rattle.saber_dispatch.specs.declared.inputs.Inputs.{Inputs}
use Rattle.saber_engine.specs.declared.ends.Ran.{Ran}
use Rattle.saber_engine.specs.Gives.{LeavesWhole}
use Rattle.saber_engine.specs.Sources.{each_input, told_by, RoseAt}
use Rattle.saber_notes.specs.Notes.{status_of}
use Rattle.saber_notes.specs.declared.outcome.Outcome.{Outcome}
use Rattle.saber_cli.specs.Due.{contents_of}
use Rattle.saber_cli.specs.Endings.{ended_as}
use Rattle.saber_cli.specs.RowFiles.{after_use}
use Rattle.saber_cli.specs.Taken.{TakesOf}
use Rattle.saber_top.specs.declared.parts.Part.{Part}
use Rattle.saber_top.specs.declared.parts.PartList.{PartList}

-- ---- lists of parts

-- the parts of a list
abbrev pub parts_in : {T : Type 0} → PartList T → List (Part T)
parts_in l = l.list.items

-- how each of these runs ended
abbrev pub outcomes_of : {T : Type 0} → List (Part T) → List Outcome
outcomes_of parts = map (λ part. part.outcome) parts

-- a sink has this text, where it tells
abbrev pub Holds : Option (List ℕ) → List ℕ → Type 0
Holds written out = IfSome written (λ bytes. bytes ≡ out)

-- the part of a run on a ring of so many cells
pub record IsPartOf {T : Type 0} (ring : ℕ) (ran : Ran (Plain T)) (part : Part T) : Type 0 where
  pub outcome_is : part.outcome ≡ ended_as ring ran.end
  pub status_is : part.status ≡ status_of part.outcome
  pub tasks_are : part.tasks ≡ ran.tasks
  pub out_is : part.out ≡ ran.sink.sink

-- ---- over open sources

-- a part tells how the run ended, and the sink has its text and its faults
pub record TellsEnd {T : Type 0} (failed : T → ℕ) (ring : ℕ) (end : RunEnd) (part : Part T) : Type 0 where
  pub outcome_is : part.outcome ≡ ended_as ring end
  pub status_is : part.status ≡ status_of part.outcome
  pub write : end ≡ WriteFault → Rose 0 (failed part.out)
  pub write_good : end ≢ WriteFault → failed part.out ≡ 0

module _ {S T : Type 0} (left : S → Option (List ℕ)) (faults : S → ℕ) (written : T → Option (List ℕ)) (failed made : T → ℕ) where
  -- of this plan over these sources, in these sizes: as of a run of the plan alone, into a sink that had nothing
  pub record RunsPart (q : Tree) (s : Sizes) (had has : Inputs S) (part : Part T) : Type 0 where
    pub end : RunEnd
    pub out : List ℕ
    pub tells : TellsEnd failed s.ring end part
    pub holds : Holds (written part.out) out
    pub gives : IfSome (told_by left had) (λ all. GivesOver q s all end part.tasks out)
    pub one_write : IfSome (told_by left had) (λ all. made part.out ≡ raised_by 0 (writes_over q s all end part.tasks))
    pub whole : LeavesWhole q s (each_input left had) (each_input left has) end part.tasks
    pub read : (side : Side) → end ≡ ReadFault side → RoseAt side (each_input faults had) (each_input faults has)
    pub read_good : IsClean end → each_input faults has ≡ each_input faults had

-- ---- over the left file

-- the file of this name was opened and given back, and at least every whole task of the whole lines that were taken of it is assembled
pub record TakesOne (q : Tree) (s : Sizes) (tasks : ℕ) (name : List ℕ) (old new : Option FilesView) : Type 0 where
  pub source : Closed
  pub told : new ≡ after_use old (name ∷ []) (source ∷ [])
  pub takes : IfSome old (λ t. TakesOf q s.task (limits_of s) tasks t.contents (name ∷ []) (source ∷ []))

module _ {T : Type 0} (written : T → Option (List ℕ)) (failed made : T → ℕ) where
  -- of this plan over the file of this name, where files tell, before and after it was used: the same, and what was taken of it behind a fault of reading
  pub record RunsOver (q : Tree) (s : Sizes) (name : List ℕ) (old new : Option FilesView) (part : Part T) : Type 0 where
    pub end : RunEnd
    pub out : List ℕ
    pub tells : TellsEnd failed s.ring end part
    pub holds : Holds (written part.out) out
    pub gives : IfSome old (λ t. IfSome (contents_of t.contents (name ∷ [])) (λ all. GivesOver q s all end part.tasks out))
    pub one_write : IfSome old (λ t. IfSome (contents_of t.contents (name ∷ [])) (λ all. made part.out ≡ raised_by 0 (writes_over q s all end part.tasks)))
    pub taken : (side : Side) → end ≡ ReadFault side → TakesOne q s part.tasks name old new
