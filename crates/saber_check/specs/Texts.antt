-- What a text's plan or first fault is.
use Rattle.std.specs.Prelude.{◌≡◌, ℕ, List}
use Rattle.saber_plan.specs.Trees.{Tree}
use Rattle.saber_query.specs.Trees.{query_of}
use Rattle.saber_query.specs.Parsed.{Parsed, IsParsed}
use Rattle.saber_query.specs.Means.{MeansTree, TextFault}
use Rattle.saber_query.specs.declared.fault.Cause.{Cause}
use Rattle.saber_query.specs.declared.fault.QueryFault.{QueryFault}
use Rattle.saber_query.specs.declared.fault.QueryFault.TheVariants.{NoMemory, At}
use Rattle.saber_check.specs.Outcome.{IsFaultless, FailsAt}
use Rattle.saber_check.specs.Plans.{plan_tree}

-- the text means a query that has no fault, and the plan is its own
pub record HasPlan (text : List ℕ) (tree : Tree) : Type 0 where
  pub query : Parsed
  pub parsed : IsParsed query.select query.starts
  pub means : MeansTree text query
  pub faultless : IsFaultless (query_of query.select)
  pub same : tree ≡ plan_tree (query_of query.select)

-- the text means a query whose first fault stands at a word that begins at the byte
pub record FailsChecks (text : List ℕ) (byte : ℕ) (cause : Cause) : Type 0 where
  pub query : Parsed
  pub means : MeansTree text query
  pub fails : FailsAt query byte cause

-- the first fault of the text: it means no query, or the query that it means fails the checks
pub data HasFault (text : List ℕ) (byte : ℕ) (cause : Cause) : Type 0 where
  means_none : TextFault cause byte text → HasFault text byte cause
  fails_checks : FailsChecks text byte cause → HasFault text byte cause

-- the text's first fault, or want of memory
abbrev pub IsFaultIn : List ℕ → QueryFault → Type 0
IsFaultIn text NoMemory = Unit {0}
IsFaultIn text (At byte cause) = HasFault text byte cause
