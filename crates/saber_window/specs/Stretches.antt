-- Points in a row that lie in the same windows.
use Rattle.std.specs.Prelude.{◌≡◌, ℕ, ◌≤◌, ◌<◌}
use Rattle.saber_plan.specs.Windows.{Frame, unwindowed, one, two, count_to}
use Rattle.saber_window.specs.declared.lately.Stretch.{Stretch}

-- each point of the stretch lies in its windows, of this slide and size
pub record IsStretch (slide size : ℕ) (s : Stretch) : Type 0 where
  pub first : (p : ℕ) → s.from ≤ p → p < s.until → count_to slide size p ≡ s.first
  pub past : (p : ℕ) → s.from ≤ p → p < s.until → count_to slide 0 p ≡ s.past

-- the stretches of both sides are of their windows
abbrev pub AreStretches : Frame → Stretch → Stretch → Type 0
AreStretches unwindowed l r = Unit {0}
AreStretches (one measure slide size) l r = Unit {0}
AreStretches (two measure slide left right) l r = IsStretch slide left l × IsStretch slide right r
