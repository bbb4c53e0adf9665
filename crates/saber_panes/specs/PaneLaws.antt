-- Laws of panes: more rows, and windows.
use Rattle.std.specs.Prelude.{◌≡◌, ℕ, List, length}
use Rattle.saber_plan.specs.declared.rows.Row.{Row}
use Rattle.saber_plan.specs.declared.plans.Shape.TheVariants.{Group}
use Rattle.saber_plan.specs.Trees.{Tree}
use Rattle.saber_plan.specs.Windows.{Ordered, no_rows}
use Rattle.saber_plan.specs.Answers.{frame}
use Rattle.saber_plan.specs.Parts.{part}
use Rattle.saber_laws.specs.Plans.{OneWindow}
use Rattle.saber_panes.specs.Panes.{panes_here, window_part}

-- the merge of a window's panes is its part
abbrev pub WindowsArePanes : Type 0
WindowsArePanes =
    (q : Tree) → q.shape ≡ Group → OneWindow q → (i : ℕ) (xs : List Row) → Ordered no_rows xs
    → window_part (frame q) i (panes_here q no_rows xs) ≡ part q i xs 0 (length xs)
