use Rattle.saber_query.specs.declared.fault.Cause.{Cause}
use Rattle.saber_query.specs.declared.fault.Cause.TheVariants.{BadByte, NumberRange}
use Rattle.saber_query.specs.declared.fault.QueryFault.{QueryFault}
use Rattle.saber_query.specs.declared.fault.QueryFault.TheVariants.{NoMemory, At}
use Rattle.std.specs.Prelude.{ℕ, ◌-◌, ◌≤◌, ◌^◌, List, length, slice_index_or, if◌then◌else◌, ◌==◌}
use Rattle.saber_query.specs.declared.lexer.Pending.{Pending}
use Rattle.saber_query.specs.declared.lexer.Pending.TheVariants as p

-- a pending number has been tested
abbrev pub IsSmall : Pending → Type 0
IsSmall p.Nothing = Unit {0}
IsSmall (p.Name start bs) = Unit {0}
IsSmall (p.Number start n) = n ≤ 2 ^ 63
IsSmall (p.Angle start greater) = Unit {0}

-- the causes that a token can have
abbrev pub IsLexCause : Cause → Type 0
IsLexCause BadByte = Unit {0}
IsLexCause NumberRange = Unit {0}
IsLexCause _ = ⊥

-- want of memory, or a fault of a token
abbrev pub IsLexFault : QueryFault → Type 0
IsLexFault NoMemory = Unit {0}
IsLexFault (At b c) = IsLexCause c

-- where the last of the tokens begin, so many as are left, or the end of the text
abbrev pub byte_at : List ℕ → ℕ → ℕ → ℕ
byte_at starts left end = if left == 0 then end else slice_index_or starts (length starts - left) 0
