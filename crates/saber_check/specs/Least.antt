-- The first of some faults: the least place, and at one place the least rank.
use Rattle.std.specs.Prelude.{◌≡◌, ℕ, ◌+◌, ◌*◌, ◌^◌, ◌≤◌, List, [], ◌∷◌, ◌++◌, Bool, true, false, if◌then◌else◌, nat_le, nat_lt, Option, Some, None}
use Rattle.std.specs.Option.{option_map_or}
use Rattle.saber_query.specs.declared.fault.Cause.{Cause}
use Rattle.saber_query.specs.declared.fault.Cause.TheVariants as cause
use Rattle.saber_check.specs.declared.fault.Fault.{Fault}
use Rattle.saber_check.specs.declared.walk.Walk.{Walk}

-- the place of a cause among those of specs/First.antt
abbrev pub rank : Cause → ℕ
rank cause.TooLong = 0
rank cause.BadByte = 1
rank cause.NumberRange = 2
rank cause.Syntax = 3
rank cause.Depth = 4
rank cause.DuplicateName = 5
rank cause.UnknownStream = 6
rank cause.UnknownColumn = 7
rank cause.Ambiguous = 8
rank cause.TooMany = 9
rank cause.WindowRange = 10
rank cause.Overlap = 11
rank cause.Shape = 12
rank cause.NotGrouped = 13
rank cause.ExprTooWide = 14
rank cause.SumTooWide = 15

-- one number for a place and a rank
unfoldable pub key : Fault → ℕ
key f = 16 * f.index + rank f.cause

-- f, unless the other comes before it
unfoldable pub sooner : Fault → Option Fault → Option Fault
sooner f None = Some f
sooner f (Some g) = Some (if nat_le (key f) (key g) then f else g)

-- the one of two that comes first, if there is one
unfoldable pub earlier : Option Fault → Option Fault → Option Fault
earlier None g = g
earlier (Some f) g = sooner f g

-- the first of all, if there is one
unfoldable pub least : List Fault → Option Fault
least [] = None
least (f ∷ fs) = sooner f (least fs)

-- the fault, if so
abbrev pub row : Bool → ℕ → Cause → List Fault
row true i c = record { index = i; cause = c } ∷ []
row false i c = []

-- the fault at a place, if there is one
abbrev pub at : Option ℕ → Cause → List Fault
at None c = []
at (Some i) c = record { index = i; cause = c } ∷ []

-- The faults of parts that stand one after the other, the first at i, with a word between each two. A part's faults may depend on how
-- many are before it, k for the first.
unfoldable pub each : {X : Type 0} → (X → ℕ) → (ℕ → ℕ → X → List Fault) → ℕ → ℕ → List X → List Fault
each width faults k i [] = []
each width faults k i (x ∷ xs) = faults k i x ++ each width faults (k + 1) (i + width x + 1) xs

-- what a walk does at a part of the query: it goes on behind the part, and takes note of the part's faults
pub record Visits (old new : Walk) (width : ℕ) (faults : List Fault) : Type 0 where
  pub place : new.index ≡ old.index + width
  pub least : new.least ≡ earlier old.least (least faults)

-- the place behind the part is a small number
abbrev pub Room : Walk → ℕ → Type 0
Room walk width = walk.index + width ≤ 2 ^ 60

-- a fault stands before the next word, so none from here on can be the first
abbrev pub is_settled : Walk → Bool
is_settled walk = option_map_or (λ (f : Fault). nat_lt f.index walk.index) walk.least false
