-- What is done with the row files of a run: they are opened, read and given back.
use Rattle.std.specs.Prelude.{◌≡◌, ◌≤◌, ◌⊎◌, ℕ, suc, List, [], ◌∷◌, ◌++◌, length, take, Option, option_map, IfSome}
use Rattle.saber_io.specs.Outside.{FilesView, Closed, OpensIn, after_asking, raised_faults}
use Rattle.saber_notes.specs.declared.outcome.InputFile.{InputFile}
use Rattle.saber_notes.specs.declared.outcome.Outcome.{Outcome}
use Rattle.saber_notes.specs.declared.outcome.Outcome.TheVariants.{OpenFault, NoMemory}
use Rattle.saber_cli.specs.Due.{Contents}
use Rattle.saber_cli.specs.Leaves.{AreOf, Matches}

-- ---- sources

-- a source as it is given back
abbrev pub source_back : {S : Type 0} → (S → Option (List ℕ)) → (S → ℕ) → S → Closed
source_back left faults s = (left s, faults s)

-- each of these sources has what the file of its name has
abbrev pub OpensAll : Contents → List (List ℕ) → List (Option (List ℕ)) → Type 0
OpensAll contents [] [] = Unit {0}
OpensAll contents (name ∷ names) (left ∷ more) = OpensIn contents name left × OpensAll contents names more
OpensAll contents _ _ = ⊥

-- the count after these were given back
abbrev pub raised_by : ℕ → List Closed → ℕ
raised_by count [] = count
raised_by count (source ∷ more) = raised_by (raised_faults count source.1) more

-- ---- names and what was given back

-- what files tell when these names were asked for and these sources were given back
abbrev pub after_use : Option FilesView → List (List ℕ) → List Closed → Option FilesView
after_use told names given_back = option_map (λ t. record { contents = t.contents; asked = t.asked ++ names; closed = t.closed ++ given_back }) told

-- a file was asked for and not opened, or not asked for, for want of memory
abbrev pub IsNotOpened : InputFile → List ℕ → Outcome → Option FilesView → Option FilesView → Type 0
IsNotOpened file name o old new = ((o ≡ OpenFault file) × (new ≡ after_asking old name)) ⊎ ((o ≡ NoMemory) × (new ≡ old))

-- The first of the row files with these names were asked for, and those that were opened were given back in this order. Behind a
-- query's source without faults, this is what the command leaves of its files.
pub record UsesRows (names : List (List ℕ)) (o : Outcome) (old new : Option FilesView) : Type 0 where
  pub count : ℕ
  pub few : count ≤ length names
  pub given_back : List Closed
  pub told : new ≡ after_use old (take count names) given_back
  pub are_of : IfSome old (λ t. AreOf 0 t.contents given_back names)
  pub matches : (query : Closed) → query.1 ≡ 0 → Matches 1 (suc (length names)) o (suc count) (query ∷ given_back)
