-- What the code answers of a line, as the definitions have it.
use Rattle.std.specs.Prelude.{ℕ, ◌+◌, Bool, false, nat_le, Option, Some, None}
use Rattle.saber_plan.specs.Rows as rows
use Rattle.saber_rows.specs.declared.judge.Judged.{Judged}
use Rattle.saber_rows.specs.declared.judge.Judged.TheVariants.{Skipped, Taken, Refused}

-- the definition's judgement that the code's is
abbrev pub judged_of : Judged → rows.Judged
judged_of Skipped = rows.skipped
judged_of (Taken v) = rows.taken v
judged_of (Refused c) = rows.refused c

-- a row with this timestamp is due
abbrev pub is_ready_at : ℕ → Option ℕ → ℕ → Bool
is_ready_at slack None t = false
is_ready_at slack (Some high) t = nat_le (t + slack) high

-- a fact of a line that is not refused
abbrev pub IfCounted : Judged → Type 0 → Type 0
IfCounted Skipped P = P
IfCounted (Taken v) P = P
IfCounted (Refused c) P = Unit {0}
