-- Queries over one input: which can share it, and why one can't be run.
use Rattle.std.specs.Prelude.{◌≡◌, ◌≤◌, ℕ, suc, ◌+◌, List, [], ◌∷◌, ◌++◌, length, Some}
use Rattle.std.specs.List.{AllByRecursion, AllZip}
use Rattle.saber_io.specs.Outside.{content_in}
use Rattle.saber_plan.specs.declared.rows.Side.TheVariants.{Left}
use Rattle.saber_plan.specs.Checked.{columns_on}
use Rattle.saber_plan.specs.Trees.{Tree}
use Rattle.saber_words.specs.Many.{AskedMany}
use Rattle.saber_notes.specs.declared.outcome.Outcome.{Outcome}
use Rattle.saber_notes.specs.declared.outcome.Outcome.TheVariants as outcomes
use Rattle.saber_notes.specs.declared.early.Early.{Early}
use Rattle.saber_notes.specs.declared.early.Early.TheVariants.{Usage, QueryUnopened, QueryUnread, QueryFault, Unshareable, LeftUnopened, CreateFault, NoMemory}
use Rattle.saber_cli.specs.Due.{Contents, IsFaulty, IsPlanned}

-- ---- plans

-- each of these files has a query, with the plan at its place
abbrev pub ArePlanned : Contents → List (List ℕ) → List Tree → Type 0
ArePlanned files names plans = AllZip (IsPlanned files) names plans

-- how many columns the stream of the first one has
abbrev pub first_columns : List Tree → ℕ
first_columns [] = 0
first_columns (plan ∷ plans) = columns_on plan.streams Left

-- a query of one stream, of so many columns
pub record HasStream (columns : ℕ) (plan : Tree) : Type 0 where
  pub one : length plan.streams ≡ 1
  pub as_many : columns_on plan.streams Left ≡ columns

-- each has one stream, of as many columns as the first one's: so they can share an input
abbrev pub MayShare : List Tree → Type 0
MayShare plans = AllByRecursion (HasStream (first_columns plans)) plans

-- these files have queries that can share an input
pub record AreShared (files : Contents) (names : List (List ℕ)) : Type 0 where
  pub plans : List Tree
  pub planned : ArePlanned files names plans
  pub share : MayShare plans

-- ---- the first at fault

-- Of a list behind so many others, the one of this number (all are counted from 1) is at fault, and all before it are fine.
pub record IsFirstAtFault {X : Type 0} (fine fault : X → Type 0) (others : ℕ) (all : List X) (number : ℕ) : Type 0 where
  pub before : List X
  pub one : X
  pub behind : List X
  pub all_are : all ≡ before ++ one ∷ behind
  pub number_is : number ≡ others + suc (length before)
  pub before_fine : AllByRecursion fine before
  pub at_fault : fault one

-- of queries: all before it have plans
abbrev pub IsReached : Contents → (List ℕ → Type 0) → ℕ → List (List ℕ) → ℕ → Type 0
IsReached files fault others names number = IsFirstAtFault (λ name. (plan : Tree) × IsPlanned files name plan) fault others names number

-- of plans: the first that has not one stream of so many columns
abbrev pub IsFirstUnlike : ℕ → ℕ → List Tree → ℕ → Type 0
IsFirstUnlike columns others plans number = IsFirstAtFault (HasStream columns) (λ plan. ¬ (HasStream columns plan)) others plans number

-- ---- why none is run

-- the file of this name is there
abbrev pub IsThere : Contents → List ℕ → Type 0
IsThere files name = (bytes : List ℕ) × (content_in files name ≡ Some bytes)

-- Why no query was run: the first of what is at fault, in this order. The queries' files and texts, each in its turn; the shapes of all, at the first query
-- that can't share the input of the first one; the left file; the files that the answers go to. A file that can't be opened, read or created has its cause
-- in a count of faults, and is asked for where all before it was good. Want of memory has no cause; of words that are no command see `unread`.
abbrev pub EndsEarly : Contents → AskedMany → Early → Type 0
EndsEarly files m Usage = ⊥
EndsEarly files m (QueryUnopened number) = IsReached files (λ name. Unit {0}) 0 m.queries number
EndsEarly files m (QueryUnread number) = IsReached files (λ name. Unit {0}) 0 m.queries number
EndsEarly files m (QueryFault number byte cause) = IsReached files (λ name. IsFaulty files name byte cause) 0 m.queries number
EndsEarly files m (Unshareable number) = (plans : List Tree) × ArePlanned files m.queries plans × IsFirstUnlike (first_columns plans) 0 plans number
EndsEarly files m LeftUnopened = AreShared files m.queries
EndsEarly files m (CreateFault number) = AreShared files m.queries × IsThere files m.left × (1 ≤ number) × (number ≤ length m.queries)
EndsEarly files m NoMemory = Unit {0}

-- ---- the queries alone

-- what a query came to that has no plan, as of the query of this number
abbrev pub as_early : ℕ → Outcome → Early
as_early number (outcomes.QueryFault byte cause) = QueryFault number byte cause
as_early number (outcomes.OpenFault file) = QueryUnopened number
as_early number (outcomes.ReadFault file) = QueryUnread number
as_early number _ = NoMemory

-- why queries behind so many others have no plans
abbrev pub LackPlans : Contents → ℕ → List (List ℕ) → Early → Type 0
LackPlans files others names (QueryUnopened number) = IsReached files (λ name. Unit {0}) others names number
LackPlans files others names (QueryUnread number) = IsReached files (λ name. Unit {0}) others names number
LackPlans files others names (QueryFault number byte cause) = IsReached files (λ name. IsFaulty files name byte cause) others names number
LackPlans files others names NoMemory = Unit {0}
LackPlans files others names _ = ⊥

-- why these queries can't be run over one input
abbrev pub LackShared : Contents → List (List ℕ) → Early → Type 0
LackShared files names (Unshareable number) = (plans : List Tree) × ArePlanned files names plans × IsFirstUnlike (first_columns plans) 0 plans number
LackShared files names e = LackPlans files 0 names e
