-- A call with other words than `many`.
use Rattle.std.specs.Prelude.{◌≡◌, ℕ, List, [], Option}
use Rattle.saber_io.specs.Outside.{FilesView}
use Rattle.saber_cli.specs.declared.top.Ended.{Ended}
use Rattle.saber_cli.specs.Says.{SaysSaber}
use Rattle.saber_top.specs.declared.ended.Top.{Top}
use Rattle.saber_top.specs.declared.ended.TopEnd.TheVariants.{One}
use Rattle.saber_top.specs.Shared.{parts_in}

module _ {F K N : Type 0} (told : F → Option FilesView) (faults : F → ℕ) (written : K → Option (List ℕ)) (failed made : K → ℕ) (noted_text : N → Option (List ℕ)) (note_faults note_writes : N → ℕ) where
  -- The call is one of `saber`: it gives what that gives, and no parts.
  pub record IsSaber {T : Type 0} (words : List (List ℕ)) (old new : F) (sink : K) (notes_old notes_new : N) (top : Top K T) : Type 0 where
    pub ended : Ended K
    pub says : SaysSaber told faults written failed made noted_text note_faults note_writes words old new sink notes_old notes_new ended
    pub end_is : top.end ≡ One ended.outcome
    pub status_is : top.status ≡ ended.status
    pub sink_is : top.sink ≡ ended.sink
    pub tasks_are : top.tasks ≡ ended.tasks
    pub noted_is : top.noted ≡ ended.noted
    pub no_parts : parts_in top.parts ≡ []
