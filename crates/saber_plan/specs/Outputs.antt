-- What a sink has written, where it tells, and counts that only rise.
use Rattle.std.specs.Prelude.{◌≡◌, ◌≤◌, ℕ, zero, suc, ◌+◌, ◌-◌, ◌^◌, min, List, [], ◌++◌, length, take, Option, Some, None, option_map}
use Rattle.std.proofs.Common.{refl, sym, ap, append-nil}

-- a count after one more; at the last value of its type it stands still
abbrev pub raised_count : ℕ → ℕ
raised_count count = min (count + 1) (2 ^ 64 - 1)

-- after n more
abbrev pub raised_by : ℕ → ℕ → ℕ
raised_by count zero = count
raised_by count (suc n) = raised_count (raised_by count n)

-- a count of faults rose, or stands at its last value
abbrev pub Rose : ℕ → ℕ → Type 0
Rose old new = raised_count old ≤ new

-- what was written, and then the piece
abbrev pub appended_text : Option (List ℕ) → List ℕ → Option (List ℕ)
appended_text written piece = option_map (λ w. w ++ piece) written

-- no bytes change nothing (any proof may cite it)
pub appended-none : (o : Option (List ℕ)) → o ≡ appended_text o []
appended-none None = refl
appended-none (Some w) = ap Some (sym (append-nil w))

-- a prefix of the piece has gone out
abbrev pub AppendsPrefix : Option (List ℕ) → Option (List ℕ) → List ℕ → Type 0
AppendsPrefix old new piece = (n : ℕ) × (n ≤ length piece) × (new ≡ appended_text old (take n piece))
