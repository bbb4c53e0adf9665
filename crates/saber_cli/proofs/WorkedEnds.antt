-- What the statements on ends of runs say, and what they refuse.
use Rattle.std.proofs.Common.{Bool, ◌≡◌, inl, inr, ℕ, List, Some, None, refl, sym, ◌∙◌}
use Rattle.saber_plan.specs.Rows.{Read}
use Rattle.saber_plan.specs.Trees.{Tree}
use Rattle.saber_plan.specs.Needs.{need as blocks_needed, wide}
use Rattle.saber_plan.specs.Tasks.{run_input}
use Rattle.saber_notes.specs.declared.outcome.Outcome.TheVariants.{Done, FileCount, TooWide, WriteFault, NoMemory}
use Rattle.saber_cli.specs.Due.{runs}
use Rattle.saber_cli.specs.Causes.{Allows}
use Rattle.saber_cli.specs.Puts.{PutsOut}

-- a run with a task that is too wide isn't done
too_wide_not_done : (q : Tree) (n ring t : ℕ) (flush : Bool) (read : Read) → wide q n (run_input q flush read) ring ≡ Some t → Allows (runs q n ring flush read) Done → ⊥
too_wide_not_done q n ring t flush read w (inl a) = let clash : Some t ≡ None = sym w ∙ a.1.0.1 in cc
too_wide_not_done q n ring t flush read w (inr (inl f)) = f
too_wide_not_done q n ring t flush read w (inr (inr (inl e))) = cc
too_wide_not_done q n ring t flush read w (inr (inr (inr e))) = cc

-- one without is not told as too wide
not_too_wide : (q : Tree) (n ring task need cells : ℕ) (flush : Bool) (read : Read) → wide q n (run_input q flush read) ring ≡ None → Allows (runs q n ring flush read) (TooWide task need cells) → ⊥
not_too_wide q n ring task need cells flush read w (inl a) = let clash : Some task ≡ None = sym a.1.0.0 ∙ w in cc
not_too_wide q n ring task need cells flush read w (inr (inl f)) = f
not_too_wide q n ring task need cells flush read w (inr (inr (inl e))) = cc
not_too_wide q n ring task need cells flush read w (inr (inr (inr e))) = cc

-- the task, its need and the ring are those of the run
told_wide : (q : Tree) (n ring task need cells : ℕ) (flush : Bool) (read : Read) → Allows (runs q n ring flush read) (TooWide task need cells)
    → (wide q n (run_input q flush read) ring ≡ Some task) × (need ≡ blocks_needed q n (run_input q flush read) task) × (cells ≡ ring)
told_wide q n ring task need cells flush read (inl a) = (a.1.0.0, a.1.0.1, a.1.1)
told_wide q n ring task need cells flush read (inr (inl f)) = absurd f
told_wide q n ring task need cells flush read (inr (inr (inl e))) = let clash : TooWide task need cells ≡ WriteFault = e in cc
told_wide q n ring task need cells flush read (inr (inr (inr e))) = let clash : TooWide task need cells ≡ NoMemory = e in cc

-- the tasks before it are assembled, and no more
before_wide : (q : Tree) (n ring task need cells tasks : ℕ) (flush : Bool) (read : Read) (out : List ℕ) → PutsOut (runs q n ring flush read) (TooWide task need cells) tasks out → tasks ≡ task
before_wide q n ring task need cells tasks flush read out p = p.before task refl

-- a run whose streams have their files is not told as having another number
not_unlike : (q : Tree) (n ring s g : ℕ) (flush : Bool) (read : Read) → Allows (runs q n ring flush read) (FileCount s g) → ⊥
not_unlike q n ring s g flush read (inl a) = a.0
not_unlike q n ring s g flush read (inr (inl f)) = f
not_unlike q n ring s g flush read (inr (inr (inl e))) = cc
not_unlike q n ring s g flush read (inr (inr (inr e))) = cc
