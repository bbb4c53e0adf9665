-- What a call with several queries leaves of the files that it reads: which it asked for, and which it gave back.
use Rattle.std.specs.Prelude.{◌≡◌, ◌<◌, ◌≤◌, ℕ, suc, ◌+◌, ◌-◌, List, [], ◌∷◌, ◌++◌, length, take, Option, Some, IfSome}
use Rattle.std.specs.List.{AllByRecursion}
use Rattle.saber_io.specs.Outside.{FilesView, Closed}
use Rattle.saber_plan.specs.Trees.{Tree}
use Rattle.saber_words.specs.Many.{AskedMany}
use Rattle.saber_notes.specs.declared.early.Early.{Early}
use Rattle.saber_notes.specs.declared.early.Early.TheVariants.{Usage, QueryUnopened, QueryUnread, QueryFault, Unshareable, LeftUnopened, CreateFault, NoMemory}
use Rattle.saber_notes.specs.declared.outcome.InputFile.TheVariants.{Left}
use Rattle.saber_notes.specs.declared.outcome.Outcome.{Outcome}
use Rattle.saber_notes.specs.declared.outcome.Outcome.TheVariants.{ReadFault}
use Rattle.saber_cli.specs.Due.{Contents}
use Rattle.saber_cli.specs.Leaves.{AreGivenBack, AreOf, HadFaults, HadNoFaults, Leaves}
use Rattle.saber_cli.specs.Outcomes.{IsClean}
use Rattle.saber_cli.specs.RowFiles.{after_use}
use Rattle.saber_top.specs.Commands.{many_names}
use Rattle.saber_top.specs.Queries.{ArePlanned, AreShared}

-- ---- the ends

-- How many files were asked for and given back where none of so many queries was run. Those of the queries up to the one at fault; all queries' where one
-- can't share the input; the left file too where an answer's file can't be created. A file that was not opened is the last one asked for, and is not given
-- back; one that was not read had faults when it was given back. Whatever else the end is, each that was asked for was given back.
abbrev pub EarlyFits : ℕ → Early → ℕ → List Closed → Type 0
EarlyFits all Usage asked given_back = AreGivenBack 0 asked given_back
EarlyFits all (QueryUnopened number) asked given_back = (asked ≡ number) × (suc (length given_back) ≡ asked) × HadNoFaults given_back
EarlyFits all (QueryUnread number) asked given_back = (asked ≡ number) × (length given_back ≡ asked) × HadFaults all given_back (number - 1)
EarlyFits all (QueryFault number byte cause) asked given_back = AreGivenBack number asked given_back
EarlyFits all (Unshareable number) asked given_back = AreGivenBack all asked given_back
EarlyFits all LeftUnopened asked given_back = (asked ≡ suc all) × (suc (length given_back) ≡ asked) × HadNoFaults given_back
EarlyFits all (CreateFault number) asked given_back = AreGivenBack (suc all) asked given_back
EarlyFits all NoMemory asked given_back = length given_back ≡ asked

-- the left file's source had faults where this run could not read it, and none where the run's end is clean
pub record LeftFits (left : Closed) (o : Outcome) : Type 0 where
  pub faults : o ≡ ReadFault Left → 0 < left.1
  pub good : IsClean o → left.1 ≡ 0

-- All files were asked for and given back, where all of so many queries were run and ended so.
pub record RanFits (all : ℕ) (outcomes : List Outcome) (asked : ℕ) (given_back : List Closed) : Type 0 where
  pub asked_for : asked ≡ suc all
  pub queries : List Closed
  pub left : Closed
  pub are : given_back ≡ queries ++ left ∷ []
  pub as_many : length queries ≡ all
  pub good : HadNoFaults queries
  pub fits : AllByRecursion (LeftFits left) outcomes

-- ---- the files

-- The file behind the first n is asked for: a query's behind queries with plans, and the left file behind all queries where they can share it.
abbrev pub AsksMany : Contents → AskedMany → ℕ → Type 0
AsksMany files m n = ((plans : List Tree) × ArePlanned files (take n m.queries) plans) × (n ≡ length m.queries → AreShared files m.queries)

-- where files tell, they still do, and those of the call were used so
abbrev pub LeavesManyTold : AskedMany → (ℕ → List Closed → Type 0) → Option FilesView → Option FilesView → Type 0
LeavesManyTold m fits old new = IfSome old (λ t. (u : FilesView) × (new ≡ Some u) × Leaves (length m.queries) (many_names m) (AsksMany t.contents m) fits t u)

-- ---- parts of it

-- all queries that stand before one of the first so many have plans
abbrev pub PlannedBefore : Contents → ℕ → List (List ℕ) → Type 0
PlannedBefore files count names = (n : ℕ) → n < count → (plans : List Tree) × ArePlanned files (take n names) plans

-- The queries' files were asked for and given back, and nothing failed.
pub record AllRead (names : List (List ℕ)) (old new : Option FilesView) : Type 0 where
  pub given_back : List Closed
  pub told : new ≡ after_use old names given_back
  pub as_many : length given_back ≡ length names
  pub good : HadNoFaults given_back
  pub are_of : IfSome old (λ t. AreOf (length names) t.contents given_back names)

-- the source that was given back last had faults, and those before it had none
pub record LastHadFaults (given_back : List Closed) : Type 0 where
  pub before : List Closed
  pub last : Closed
  pub are : given_back ≡ before ++ last ∷ []
  pub good : HadNoFaults before
  pub faults : 0 < last.1

-- how many queries' files, behind so many others, were asked for and given back where one of them has no plan
abbrev pub LackFits : ℕ → Early → ℕ → List Closed → Type 0
LackFits others (QueryUnopened number) asked given_back = (others + asked ≡ number) × (suc (length given_back) ≡ asked) × HadNoFaults given_back
LackFits others (QueryUnread number) asked given_back = (others + asked ≡ number) × (length given_back ≡ asked) × LastHadFaults given_back
LackFits others (QueryFault number byte cause) asked given_back = (others + asked ≡ number) × (length given_back ≡ asked) × HadNoFaults given_back
LackFits others NoMemory asked given_back = length given_back ≡ asked
LackFits others _ asked given_back = ⊥

-- the same of all queries, where it may also be that one can't share the input
abbrev pub SharedFits : List (List ℕ) → Early → ℕ → List Closed → Type 0
SharedFits names (Unshareable number) asked given_back = AreGivenBack (length names) asked given_back
SharedFits names e asked given_back = LackFits 0 e asked given_back

-- The first of these files were asked for, and those that were opened were given back in this order.
pub record UsesFirst (names : List (List ℕ)) (fits : ℕ → List Closed → Type 0) (old new : Option FilesView) : Type 0 where
  pub count : ℕ
  pub few : count ≤ length names
  pub given_back : List Closed
  pub told : new ≡ after_use old (take count names) given_back
  pub are_of : IfSome old (λ t. AreOf (length names) t.contents given_back names)
  pub behind : IfSome old (λ t. PlannedBefore t.contents count names)
  pub matches : fits count given_back

-- of the left file alone: it was not asked for, or not opened, or opened and given back
pub record UsesLeft (name : List ℕ) (fits : ℕ → List Closed → Type 0) (old new : Option FilesView) : Type 0 where
  pub count : ℕ
  pub few : count ≤ 1
  pub given_back : List Closed
  pub told : new ≡ after_use old (take count (name ∷ [])) given_back
  pub are_of : IfSome old (λ t. AreOf 0 t.contents given_back (name ∷ []))
  pub matches : fits count given_back

-- how it is with the left file, where no query was run
abbrev pub LeftAlone : Early → ℕ → List Closed → Type 0
LeftAlone LeftUnopened asked given_back = (asked ≡ 1) × (given_back ≡ [])
LeftAlone (CreateFault number) asked given_back = AreGivenBack 1 asked given_back
LeftAlone NoMemory asked given_back = length given_back ≡ asked
LeftAlone _ asked given_back = ⊥

-- and where queries were run and ended so
pub record LeftRan (outcomes : List Outcome) (asked : ℕ) (given_back : List Closed) : Type 0 where
  pub asked_for : asked ≡ 1
  pub left : Closed
  pub are : given_back ≡ left ∷ []
  pub fits : AllByRecursion (LeftFits left) outcomes
