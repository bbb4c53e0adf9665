-- Laws of the answers of windows, of which a query with a stream word prints what changes.
use Rattle.std.specs.Prelude.{◌≡◌, ℕ, ◌≤◌, List, [], take, T, nat_le, if◌then◌else◌, Some, None}
use Rattle.std.specs.Ordering.{nat_cmp}
use Rattle.std.specs.FinMap.{get, from_entries, is_sorted}
use Rattle.saber_plan.specs.declared.rows.Row.{Row}
use Rattle.saber_plan.specs.Trees.{Tree}
use Rattle.saber_plan.specs.Inputs.{Input, first_arrivals}
use Rattle.saber_plan.specs.Windows.{Fits, Ordered, no_rows}
use Rattle.saber_plan.specs.Answers.{frame, window_answers, before_window}
use Rattle.saber_plan.specs.Merges.{both}
use Rattle.saber_plan.specs.Parts.{Part, part, part_answers, merge}
use Rattle.saber_plan.specs.Shares.{full, entries_in, handed_between}
use Rattle.saber_plan.specs.Tasks.{unclosed, closed_at, last_answers}
use Rattle.saber_laws.specs.Shares.{Between}

-- the answers of a window are those of its whole part
abbrev pub AnswersAreOfParts : Type 0
AnswersAreOfParts = (q : Tree) (i : ℕ) (xs : List Row) (y : ℕ) → window_answers q i (take y xs) ≡ part_answers q (part q i xs 0 y)

-- so what is kept stands before the first window that later arrivals close
abbrev pub LastAnswersStay : Type 0
LastAnswersStay = (q : Tree) → Fits (frame q) → (r : Input) (x y : ℕ) → Ordered no_rows r.rows → x ≤ y
    → before_window (λ i. window_answers q i (take y r.rows)) (closed_at q r x) ≡ last_answers q (first_arrivals r x)

-- ---- what is handed on of windows

-- closed windows come before pending ones, and those before opening ones
abbrev pub HandedRise : Type 0
HandedRise = (q : Tree) (r : Input) (x y : ℕ) → Between q r x y → T (is_sorted nat_cmp (entries_in (handed_between q r x y)))

-- each part is that of its window over the arrivals
abbrev pub HandedPartsAre : Type 0
HandedPartsAre = (q : Tree) (r : Input) (x y : ℕ) → Between q r x y → (i : ℕ) (p : Part) → get (from_entries {R = nat_cmp} (entries_in (handed_between q r x y))) i ≡ Some p
    → p ≡ part q i r.rows x y

-- once it is taken in, each window that isn't closed before has its part over all rows so far, unless that is empty
abbrev pub HandedIsTakenIn : Type 0
HandedIsTakenIn = (q : Tree) (r : Input) (x y : ℕ) → Between q r x y → (i : ℕ)
    → get (both merge (unclosed q (first_arrivals r x)) (from_entries {R = nat_cmp} (entries_in (handed_between q r x y)))) i
    ≡ (if nat_le (closed_at q r x) i then full (part q i r.rows 0 y) else None)

-- and so have the open parts, of the windows that aren't closed
abbrev pub OpenBehind : Type 0
OpenBehind = (q : Tree) → Fits (frame q) → (r : Input) (y i : ℕ) → Ordered no_rows r.rows
    → get (unclosed q (first_arrivals r y)) i ≡ (if nat_le (closed_at q r y) i then full (part q i r.rows 0 y) else None)
