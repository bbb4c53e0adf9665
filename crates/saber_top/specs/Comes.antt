-- What a call with several queries comes to: all clauses of `top` on it, in one.
use Rattle.std.specs.Prelude.{◌≡◌, ◌≢◌, ℕ, List, [], length, Option, IfSome}
use Rattle.std.specs.List.{AllByRecursion, AllZip}
use Rattle.saber_io.specs.Outside.{FilesView}
use Rattle.saber_plan.specs.Outputs.{Rose}
use Rattle.saber_words.specs.Many.{AskedMany}
use Rattle.saber_notes.specs.Notes.{status_of}
use Rattle.saber_notes.specs.declared.outcome.Outcome.TheVariants.{WriteFault}
use Rattle.saber_cli.specs.Outcomes.{IsClean, IsFileFault}
use Rattle.saber_top.specs.declared.parts.Part.{Part}
use Rattle.saber_top.specs.declared.ended.TopEnd.{TopEnd}
use Rattle.saber_top.specs.declared.ended.TopEnd.TheVariants.{One, Each}
use Rattle.saber_top.specs.Commands.{out_names}
use Rattle.saber_top.specs.Queries.{EndsEarly}
use Rattle.saber_top.specs.Shared.{outcomes_of}
use Rattle.saber_top.specs.Alone.{EachAnswers, CutTakesLeft}
use Rattle.saber_top.specs.ManyLeaves.{EarlyFits, RanFits, LeavesManyTold}
use Rattle.saber_top.specs.Made.{EarlyMade, MadeFirst, naming_all}
use Rattle.saber_top.specs.Ends.{EndsBy, IfBefore, IsFileEnd, IsReadWell}

-- it is no end of one command
abbrev pub IsOfMany : TopEnd → Type 0
IsOfMany (One o) = ⊥
IsOfMany _ = Unit {0}

-- ---- what is said whatever the words ask for

module _ {F T : Type 0} (faults : F → ℕ) (failed : T → ℕ) where
  pub record IsTrueOf (old new : F) (end : TopEnd) (parts : List (Part T)) : Type 0 where
    pub none : IfBefore end (λ e. parts ≡ [])
    pub statuses : AllByRecursion (λ part. part.status ≡ status_of part.outcome) parts
    pub files : EndsBy end IsFileEnd → Rose (faults old) (faults new)
    pub files_good : EndsBy end IsReadWell → faults new ≡ faults old
    pub reads : AllByRecursion (λ part. IsFileFault part.outcome → Rose (faults old) (faults new)) parts
    pub reads_good : AllByRecursion (λ part. IsClean part.outcome → faults new ≡ faults old) parts
    pub writes : AllByRecursion (λ part. part.outcome ≡ WriteFault → Rose 0 (failed part.out)) parts
    pub writes_good : AllByRecursion (λ part. part.outcome ≢ WriteFault → failed part.out ≡ 0) parts

-- ---- of what the words ask for

module _ {F U T : Type 0} (told : F → Option FilesView) (asked : U → Option (List (List ℕ))) (written : T → Option (List ℕ)) (writes : T → ℕ) where
  pub record ComesTo (m : AskedMany) (old new : F) (outs_old outs_new : U) (end : TopEnd) (parts : List (Part T)) : Type 0 where
    pub early : IfBefore end (λ e. IfSome (told old) (λ t. EndsEarly t.contents m e))
    pub each : end ≡ Each → length parts ≡ length m.queries
    pub answers : end ≡ Each → EachAnswers written writes m (told old) parts
    pub taken : end ≡ Each → AllZip (CutTakesLeft m (told old) (told new)) m.queries parts
    pub leaves : IfBefore end (λ e. LeavesManyTold m (EarlyFits (length m.queries) e) (told old) (told new))
    pub leaves_each : end ≡ Each → LeavesManyTold m (RanFits (length m.queries) (outcomes_of parts)) (told old) (told new)
    pub made : IfBefore end (λ e. MadeFirst m.queries (EarlyMade 0 e) (asked outs_old) (asked outs_new))
    pub made_each : end ≡ Each → asked outs_new ≡ naming_all (asked outs_old) (out_names m.queries)
