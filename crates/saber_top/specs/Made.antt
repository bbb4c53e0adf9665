-- The files that the answers go to: which were asked for.
use Rattle.std.specs.Prelude.{◌≡◌, ◌≤◌, ◌⊎◌, ℕ, ◌+◌, List, ◌++◌, length, take, Option, option_map}
use Rattle.saber_io.specs.Outs.{HoldsNothing, after_naming}
use Rattle.saber_io.specs.declared.pours.Plain.{Plain}
use Rattle.saber_plan.specs.declared.plans.Plan.{Plan}
use Rattle.saber_plan.specs.Trees.{tree_of}
use Rattle.saber_engine.specs.declared.jobs.Job.{Job}
use Rattle.saber_engine.specs.Jobs.{tree_in, sink_in}
use Rattle.saber_notes.specs.declared.early.Early.{Early}
use Rattle.saber_notes.specs.declared.early.Early.TheVariants.{LeftUnopened, CreateFault, NoMemory}
use Rattle.saber_words.specs.Many.{out_name}
use Rattle.saber_top.specs.Commands.{out_names}

-- these names were asked for too, where it tells
abbrev pub naming_all : Option (List (List ℕ)) → List (List ℕ) → Option (List (List ℕ))
naming_all asked names = option_map (λ all. all ++ names) asked

-- a file that was created a moment ago: nothing is written, by no write, and nothing failed
pub record IsNew {T : Type 0} (written : T → Option (List ℕ)) (failed made : T → ℕ) (out : T) : Type 0 where
  pub empty : HoldsNothing (written out)
  pub good : failed out ≡ 0
  pub unwritten : made out ≡ 0

-- How many were asked for, of queries behind so many others, where none was run: those up to the one that could not be created, any number where memory
-- lacked, and else none.
abbrev pub EarlyMade : ℕ → Early → ℕ → Type 0
EarlyMade others (CreateFault number) count = (number ≡ others + count) × (1 ≤ count)
EarlyMade others NoMemory count = Unit {0}
EarlyMade others _ count = count ≡ 0

-- the files of the first so many of these queries were asked for, in their order, and no others
pub record MadeFirst (queries : List (List ℕ)) (fits : ℕ → Type 0) (old new : Option (List (List ℕ))) : Type 0 where
  pub count : ℕ
  pub few : count ≤ length queries
  pub asked : new ≡ naming_all old (take count (out_names queries))
  pub matches : fits count

-- one was not created, of a query of this number and name
abbrev pub IsNotCreated : ℕ → List ℕ → Early → Option (List (List ℕ)) → Option (List (List ℕ)) → Type 0
IsNotCreated number query e old new = ((e ≡ CreateFault number) × (new ≡ after_naming old (out_name query))) ⊎ ((e ≡ NoMemory) × (new ≡ old))

-- why not all were created
abbrev pub IsOfCreate : Early → Type 0
IsOfCreate (CreateFault number) = Unit {0}
IsOfCreate NoMemory = Unit {0}
IsOfCreate _ = ⊥

-- why no query was run, behind plans that share
abbrev pub IsOfLeft : Early → Type 0
IsOfLeft LeftUnopened = Unit {0}
IsOfLeft e = IsOfCreate e

-- what an engine is to do for a plan: to run it, into a file that was created a moment ago
pub record IsJobOf {T : Type 0} (written : T → Option (List ℕ)) (failed made : T → ℕ) (plan : Plan) (job : Job (Plain T)) : Type 0 where
  pub plan_is : tree_in job ≡ tree_of plan
  pub new : IsNew written failed made (sink_in job).sink
