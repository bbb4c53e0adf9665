-- What a call leaves of the files: which it asked for, and which it gave back.
use Rattle.std.specs.Prelude.{◌≡◌, ◌<◌, ◌≤◌, ℕ, zero, suc, ◌+◌, min, List, [], ◌∷◌, ◌++◌, length, take, Some, slice_get}
use Rattle.saber_io.specs.Outside.{FilesView, Closed}
use Rattle.saber_notes.specs.declared.outcome.InputFile.{InputFile}
use Rattle.saber_notes.specs.declared.outcome.InputFile.TheVariants.{Query, Left, Right, SecondQuery}
use Rattle.saber_notes.specs.declared.outcome.Outcome.{Outcome}
use Rattle.saber_notes.specs.declared.outcome.Outcome.TheVariants.{Usage, FileCount, QueryFault, SecondQueryFault, Unchainable, OpenFault, ReadFault, WriteFault, NoMemory}
use Rattle.saber_cli.specs.Due.{Contents}
use Rattle.saber_cli.specs.Uses.{IsOf, IsOfQueryFile}

-- ---- how it fits an end

-- the place of a file among those of its command, in the order in which they are opened: first so many queries'
abbrev pub place_of : ℕ → InputFile → ℕ
place_of queries Query = 0
place_of queries SecondQuery = 1
place_of queries Left = queries
place_of queries Right = suc queries

-- no source that was given back had faults
abbrev pub HadNoFaults : List Closed → Type 0
HadNoFaults [] = Unit {0}
HadNoFaults (source ∷ more) = (source.1 ≡ 0) × HadNoFaults more

-- the source at this place had faults; the queries', which are given back first, had none before it
pub record HadFaults (queries : ℕ) (given_back : List Closed) (i : ℕ) : Type 0 where
  pub source : Closed
  pub there : slice_get given_back i ≡ Some source
  pub faults : 0 < source.1
  pub before : HadNoFaults (take (min i queries) given_back)

-- so many files were asked for, each was given back, and nothing failed
pub record AreGivenBack (wanted asked : ℕ) (given_back : List Closed) : Type 0 where
  pub asked_for : asked ≡ wanted
  pub all : length given_back ≡ asked
  pub good : HadNoFaults given_back

-- How many files a command asks for that ends so though nothing failed: the first query's alone where that is refused; all queries' where the second one is,
-- or one by its shape, or the number of row files; and all of them where all was done, a line is refused or a task is too wide.
abbrev pub wanted : ℕ → ℕ → Outcome → ℕ
wanted queries all Usage = 0
wanted queries all (QueryFault byte cause) = 1
wanted queries all (SecondQueryFault byte cause) = 2
wanted queries all (Unchainable file) = 2
wanted queries all (FileCount streams given) = queries
wanted queries all o = all

-- How many of a command's files were asked for and given back. A file that was not opened is the last one asked for, and is not given back; one that was not
-- read had faults when it was given back, and if it is a query's it is the last one. Whatever else failed, each that was asked for was given back. Which
-- command has two queries, `second` of `saber` says.
abbrev pub Matches : ℕ → ℕ → Outcome → ℕ → List Closed → Type 0
Matches queries all (OpenFault file) asked given_back = (asked ≡ place_of queries file + 1) × (length given_back ≡ place_of queries file) × HadNoFaults given_back
Matches queries all (ReadFault Query) asked given_back = (asked ≡ 1) × (length given_back ≡ asked) × HadFaults queries given_back 0
Matches queries all (ReadFault SecondQuery) asked given_back = (asked ≡ 2) × (length given_back ≡ asked) × HadFaults queries given_back 1
Matches queries all (ReadFault file) asked given_back = (asked ≡ all) × (length given_back ≡ asked) × HadFaults queries given_back (place_of queries file)
Matches queries all WriteFault asked given_back = (asked ≡ all) × (length given_back ≡ asked)
Matches queries all NoMemory asked given_back = length given_back ≡ asked
Matches queries all o asked given_back = AreGivenBack (wanted queries all o) asked given_back

-- ---- the files

-- The sources that were given back are those of the files with these names, one after another, of which so many first ones are queries'.
abbrev pub AreOf : ℕ → Contents → List Closed → List (List ℕ) → Type 0
AreOf queries contents [] names = Unit {0}
AreOf queries contents (source ∷ more) [] = ⊥
AreOf zero contents (source ∷ more) (name ∷ names) = IsOf contents name source × AreOf zero contents more names
AreOf (suc queries) contents (source ∷ more) (name ∷ names) = IsOfQueryFile contents name source × AreOf queries contents more names

-- The call asked for the first of these names, of which so many are queries', in this order, and gave the opened ones back in the order of their opening. One
-- behind others was asked for only where it is due, and how many there were fits the end.
pub record Leaves (queries : ℕ) (names : List (List ℕ)) (IsAsked : ℕ → Type 0) (fits : ℕ → List Closed → Type 0) (old new : FilesView) : Type 0 where
  pub contents : new.contents ≡ old.contents
  pub count : ℕ
  pub few : count ≤ length names
  pub due : (n : ℕ) → 0 < n → n < count → IsAsked n
  pub asked : new.asked ≡ old.asked ++ take count names
  pub given_back : List Closed
  pub closed : new.closed ≡ old.closed ++ given_back
  pub are_of : AreOf queries old.contents given_back names
  pub matches : fits count given_back
