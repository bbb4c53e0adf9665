-- What a check of a query answers.
use Rattle.std.specs.Prelude.{◌≡◌, ℕ, ◌<◌, length, Contains, slice_index}
use Rattle.saber_query.specs.Trees.{Query, query_of}
use Rattle.saber_query.specs.declared.fault.Cause.{Cause}
use Rattle.saber_query.specs.declared.fault.QueryFault.{QueryFault}
use Rattle.saber_query.specs.declared.fault.QueryFault.TheVariants.{NoMemory, At}
use Rattle.saber_query.specs.Parsed.{Parsed}
use Rattle.saber_check.specs.First.{IsFirst}
use Rattle.saber_check.specs.Faults.{faults}

-- something is wrong at the word of this index, by this cause
abbrev pub Fails : Query → ℕ → Cause → Type 0
Fails q i c = Contains (faults q) (record { index = i; cause = c })

-- nothing is wrong with the query
abbrev pub IsFaultless : Query → Type 0
IsFaultless q = (i : ℕ) (c : Cause) → ¬ (Fails q i c)

-- this is the first that is wrong with the query, and its word begins at the byte
pub record FailsAt (p : Parsed) (byte : ℕ) (cause : Cause) : Type 0 where
  pub index : ℕ
  pub first : IsFirst (record { index = index; cause = cause }) (faults (query_of p.select))
  pub inside : index < length p.starts
  pub place : byte ≡ slice_index p.starts index

-- the first that is wrong, or want of memory
abbrev pub IsFaultOf : Parsed → QueryFault → Type 0
IsFaultOf p NoMemory = Unit {0}
IsFaultOf p (At byte cause) = FailsAt p byte cause
