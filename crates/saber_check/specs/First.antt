-- Which of some faults is told.
use Rattle.std.specs.Prelude.{◌≡◌, ℕ, ◌<◌, ◌≤◌, ◌⊎◌, List, [], ◌∷◌, length, slice_index_or, Contains}
use Rattle.saber_query.specs.declared.fault.Cause.{Cause}
use Rattle.saber_query.specs.declared.fault.Cause.TheVariants as cause
use Rattle.saber_check.specs.declared.fault.Fault.{Fault}

-- the causes in the order in which they are told at one place, the text's own first (this project's rule)
abbrev pub causes : List Cause
causes =
    cause.TooLong ∷ cause.BadByte ∷ cause.NumberRange ∷ cause.Syntax ∷ cause.Depth ∷ cause.DuplicateName ∷ cause.UnknownStream ∷ cause.UnknownColumn
    ∷ cause.Ambiguous ∷ cause.TooMany ∷ cause.WindowRange ∷ cause.Overlap ∷ cause.Shape ∷ cause.NotGrouped ∷ cause.ExprTooWide ∷ cause.SumTooWide ∷ []

-- the one stands there before the other, or is the same
abbrev pub IsNoLater : Cause → Cause → Type 0
IsNoLater c d = (i j : ℕ) × (i ≤ j) × (j < length causes) × (slice_index_or causes i c ≡ c) × (slice_index_or causes j d ≡ d)

-- this fault is among them, and each of them has a greater place, or the same and a cause that is told no earlier
pub record IsFirst (f : Fault) (fs : List Fault) : Type 0 where
  pub there : Contains fs f
  pub first : (g : Fault) → Contains fs g → (f.index < g.index) ⊎ ((f.index ≡ g.index) × IsNoLater f.cause g.cause)
