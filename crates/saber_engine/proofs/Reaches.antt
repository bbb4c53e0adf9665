-- Which tasks an end reaches, and why an end is told.
use Rattle.std.proofs.Common.{◌≡◌, ℕ, refl, ap, subst}
use Rattle.std.specs.Prelude.{Option, Some, None}
use Rattle.saber_plan.specs.declared.rows.Side.{Side}
use Rattle.saber_plan.specs.declared.stages.StageState.{StageState}
use Rattle.saber_plan.specs.declared.stages.StageState.TheVariants as states
use Rattle.saber_crew.specs.declared.dispatch.Over.{Over}
use Rattle.saber_crew.specs.declared.dispatch.Over.TheVariants as over_by
use Rattle.saber_dispatch.specs.declared.ends.End.{End}
use Rattle.saber_dispatch.specs.declared.ends.End.TheVariants as cut
use Rattle.saber_plan.specs.declared.ends.RunEnd.TheVariants.{ReadFault, WriteFault, NoMemory}
use Rattle.saber_plan.specs.Runs.{all_tasks, before_task, first_tasks as some_tasks, cut_off, IsClean}
use Rattle.saber_engine.specs.Endings.{given_end, end_of}

-- ---- reaches and ends that are not one another

pub some_not_all : some_tasks ≡ all_tasks → ⊥
some_not_all e = cc

pub some_not_before : (t : ℕ) → some_tasks ≡ before_task t → ⊥
some_not_before t e = cc

pub some_not_cut : some_tasks ≡ cut_off → ⊥
some_not_cut e = cc

pub all_not_before : (t : ℕ) → all_tasks ≡ before_task t → ⊥
all_not_before t e = cc

pub all_not_cut : all_tasks ≡ cut_off → ⊥
all_not_cut e = cc

pub before_not_all : (t : ℕ) → before_task t ≡ all_tasks → ⊥
before_not_all t e = cc

pub before_not_cut : (t : ℕ) → before_task t ≡ cut_off → ⊥
before_not_cut t e = cc

pub same_task : (t u : ℕ) → before_task t ≡ before_task u → t ≡ u
same_task t u e = cc

pub cut_not_all : cut_off ≡ all_tasks → ⊥
cut_not_all e = cc

pub cut_not_before : (t : ℕ) → cut_off ≡ before_task t → ⊥
cut_not_before t e = cc

-- ---- why an end is told

pub record ByFault (state : StageState) (over : Over) (end : Option End) (side : Side) : Type 0 where
  pub runs : state ≡ states.Running
  pub given : over ≡ over_by.AllGiven
  pub ended : end ≡ Some (cut.ReadFault side)

fault_given : (end : Option End) (side : Side) → given_end end ≡ ReadFault side → end ≡ Some (cut.ReadFault side)
fault_given None side e = absurd (let h = e in cc)
fault_given (Some cut.AllRead) side e = absurd (let h = e in cc)
fault_given (Some (cut.Bad s l c)) side e = absurd (let h = e in cc)
fault_given (Some (cut.ReadFault s)) side e = let same : s ≡ side = cc in ap (λ x. Some (cut.ReadFault x)) same
fault_given (Some (cut.TooWide t n)) side e = absurd (let h = e in cc)
fault_given (Some cut.NoMemory) side e = absurd (let h = e in cc)

pub by_fault : (state : StageState) (over : Over) (end : Option End) (side : Side) → end_of state over end ≡ ReadFault side → ByFault state over end side
by_fault states.Running over_by.AllGiven end side e = record { runs = refl; given = refl; ended = fault_given end side e }
by_fault states.Running over_by.Stopped end side e = absurd (let h = e in cc)
by_fault states.Running over_by.NoMemory end side e = absurd (let h = e in cc)
by_fault states.SinkFailed over end side e = absurd (let h = e in cc)
by_fault states.NoMemory over end side e = absurd (let h = e in cc)

given_not_write : (end : Option End) → given_end end ≡ WriteFault → ⊥
given_not_write None e = cc
given_not_write (Some cut.AllRead) e = cc
given_not_write (Some (cut.Bad s l c)) e = cc
given_not_write (Some (cut.ReadFault s)) e = cc
given_not_write (Some (cut.TooWide t n)) e = cc
given_not_write (Some cut.NoMemory) e = cc

pub lack_not_write : NoMemory ≡ WriteFault → ⊥
lack_not_write e = cc

pub by_write : (state : StageState) (over : Over) (end : Option End) → end_of state over end ≡ WriteFault → state ≡ states.SinkFailed
by_write states.Running over_by.AllGiven end e = absurd (given_not_write end e)
by_write states.Running over_by.Stopped end e = absurd (lack_not_write e)
by_write states.Running over_by.NoMemory end e = absurd (lack_not_write e)
by_write states.SinkFailed over end e = refl
by_write states.NoMemory over end e = absurd (lack_not_write e)

-- no side's fault ends a run with an answer of the rows and the ring alone
pub clean_end : (state : StageState) (over : Over) (end : Option End) → IsClean (end_of state over end) → (side : Side) → end ≡ Some (cut.ReadFault side) → ⊥
clean_end states.Running over_by.AllGiven end h side e = subst (λ o. IsClean (given_end o)) e h
clean_end states.Running over_by.Stopped end h side e = h
clean_end states.Running over_by.NoMemory end h side e = h
clean_end states.SinkFailed over end h side e = h
clean_end states.NoMemory over end h side e = h
