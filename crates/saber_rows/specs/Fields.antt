-- Fields of what is left of a line.
use Rattle.std.specs.Prelude.{ℕ, List, [], Option, Some, None, ◌≡◌, Result, Ok, Err, ℤ}
use Rattle.saber_plan.specs.Rows.{fields_of, wide_field}

-- the fields of what is left of a line, which may be nothing
abbrev pub fields_from : Option (List ℕ) → List (List ℕ)
fields_from None = []
fields_from (Some bs) = fields_of bs

-- the numbers, or the first that is out of its range
abbrev pub AreValues : Result (List ℤ) ℕ → List ℤ → Type 0
AreValues (Ok v) zs = (v ≡ zs) × (wide_field 1 zs ≡ None)
AreValues (Err k) zs = wide_field 1 zs ≡ Some k
