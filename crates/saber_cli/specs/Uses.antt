-- What is done with a query's file: it is opened, read and given back.
use Rattle.std.specs.Prelude.{◌≡◌, ◌<◌, ◌≤◌, ℕ, List, ◌++◌, length, Option, Some, IfSome, Result, Ok, Err}
use Rattle.saber_io.specs.Outside.{FilesView, Closed, after_asking, after_closing, content_in}
use Rattle.saber_plan.specs.Outputs.{raised_count}
use Rattle.saber_notes.specs.declared.outcome.InputFile.{InputFile}
use Rattle.saber_notes.specs.declared.outcome.InputFile.TheVariants.{Query}
use Rattle.saber_notes.specs.declared.outcome.Outcome.{Outcome}
use Rattle.saber_notes.specs.declared.outcome.Outcome.TheVariants.{Done, OpenFault, ReadFault, NoMemory}
use Rattle.saber_cli.specs.Outcomes.{IsClean}
use Rattle.saber_cli.specs.Texts.{read_limit}

-- a file was opened, whatever came after it
abbrev pub IsOpened : Outcome → Type 0
IsOpened (OpenFault file) = ⊥
IsOpened _ = Unit {0}

-- a source that was given back is of the file with this name: what it has left is an end of what the file has
pub record IsOf (contents : List (List ℕ × List ℕ)) (name : List ℕ) (source : Closed) : Type 0 where
  pub taken : List ℕ
  pub rest : List ℕ
  pub there : content_in contents name ≡ Some (taken ++ rest)
  pub left : source.0 ≡ Some rest

-- the same of a query's file, of which no more is taken than tells that the text is too long
pub record IsOfQueryFile (contents : List (List ℕ × List ℕ)) (name : List ℕ) (source : Closed) : Type 0 where
  pub file : IsOf contents name source
  pub few : length file.taken ≤ read_limit

-- The query's file was not asked for, for want of memory; or it was asked for and not opened; or it was opened, and given back
-- with an end of its contents: with faults where it could not be read, and with none where nothing failed.
pub data Uses (file : InputFile) (name : List ℕ) (o : Outcome) (old new : Option FilesView) : Type 0 where
  unasked : o ≡ NoMemory → new ≡ old → Uses file name o old new
  unopened : o ≡ OpenFault file → new ≡ after_asking old name → Uses file name o old new
  used : (left : Option (List ℕ)) (faults : ℕ) → (o ≡ ReadFault file → 0 < faults) → (IsClean o → faults ≡ 0) →
      IfSome old (λ t. IsOfQueryFile t.contents name (left, faults)) → IsOpened o → new ≡ after_closing (after_asking old name) left faults → Uses file name o old new

-- no fault is lost: a count that rose afterwards rose before too
abbrev pub KeepsFaults : ℕ → ℕ → Type 0
KeepsFaults old new = raised_count old ≤ raised_count new

-- what a call that gave no value came to
abbrev pub outcome_of : {X : Type 0} → Result X Outcome → Outcome
outcome_of (Ok x) = Done
outcome_of (Err o) = o

-- why an open query file gave no text
abbrev pub IsOfText : Outcome → Type 0
IsOfText (ReadFault Query) = Unit {0}
IsOfText NoMemory = Unit {0}
IsOfText _ = ⊥

-- why there is no text of a query
abbrev pub IsOfQuery : Outcome → Type 0
IsOfQuery (OpenFault Query) = Unit {0}
IsOfQuery (ReadFault Query) = Unit {0}
IsOfQuery NoMemory = Unit {0}
IsOfQuery _ = ⊥
