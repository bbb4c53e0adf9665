-- The linear generator of the example of `rand` in the C standard, of which 31 bits are kept.
use Rattle.std.specs.Prelude.{ℕ, zero, suc, ◌+◌, ◌*◌, ◌/◌, ◌%◌, ◌^◌}

-- the state behind this one
abbrev pub step : ℕ → ℕ
step x = (x * 1103515245 + 12345) % 2 ^ 31

-- the state after so many steps from a seed
unfoldable pub state : ℕ → ℕ → ℕ
state seed zero = seed
state seed (suc j) = step (state seed j)

-- the upper bits of a state
abbrev pub upper : ℕ → ℕ
upper x = x / 2 ^ 16

-- what is drawn for row j
abbrev pub drawn_number : ℕ → ℕ → ℕ
drawn_number seed j = upper (state seed (suc j))
