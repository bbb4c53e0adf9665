-- What is true of the rows that a reader holds.
use Rattle.std.specs.Prelude.{◌≡◌, ◌≤◌, ℕ, length, List, [], ◌∷◌, Option, Some, None, Bool, IfSome, true}
use Rattle.std.proofs.Props.{props}
use mathlib.Core.HLevel.{×_prop, Unit-prop}
use mathlib.Core.Bool.{Bool-set}
use Rattle.saber_plan.specs.declared.rows.Row.{Row}
use Rattle.saber_plan.specs.declared.rows.Side.{Side}
use Rattle.std.specs.List.{AllByRecursion}
use Rattle.saber_plan.specs.Rows.{stamp, most_held, SideRules, Place, RowFits, waiting_rows}
use Rattle.saber_rows.specs.Judged.{is_ready_at}
use Rattle.saber_rows.specs.HeldRows.{InTime}
use Rattle.saber_rows.specs.declared.ends.Behind.{Behind}
use Rattle.saber_rows.specs.declared.ends.Behind.TheVariants.{AllRead}

-- the rules of a side with these sizes: only what may wait is the same for all
abbrev pub side_rules : Side → ℕ → ℕ → ℕ → SideRules
side_rules side columns most slack = record { side = side; columns = columns; most = most; slack = slack; room = most_held }

-- no timestamp falls in one way at most
pub InTime-prop : (last : Option ℕ) (xs : List Row) → IsProp (InTime last xs)
InTime-prop last [] = Unit-prop
InTime-prop last (x ∷ xs) = ×_prop (Bool-set _ _) (InTime-prop (Some (stamp x.values)) xs)

pub ruleset held_props = (props, InTime-prop)

-- where all is read, the end of the source was seen
abbrev pub WasSeen : Option Behind → Bool → Type 0
WasSeen over ended = over ≡ Some AllRead → ended ≡ true

-- the row that was given last was due
abbrev pub WasDue : ℕ → Option ℕ → Option ℕ → Type 0
WasDue slack high last = IfSome last (λ t. is_ready_at slack high t ≡ true)

-- They are rows of the side, in order of time, none before the last one given; there is room for those that are not due, and each has a
-- line; without slack there are none. As long as lines may follow, the row given last was due.
pub record Sound (s : SideRules) (p : Place) (last : Option ℕ) (over : Option Behind) : Type 0 where
  pub fit : AllByRecursion (RowFits s.side s.columns) p.accepted
  pub in_time : InTime last p.accepted
  pub few : length (waiting_rows s p) ≤ s.room
  pub lined : length p.accepted ≤ p.lines
  pub none : s.slack ≡ 0 → length p.accepted ≡ 0
  pub was_due : over ≡ None → WasDue s.slack p.high last
