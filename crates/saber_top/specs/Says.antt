-- What `top` says of a call: all its clauses in one, so that who hands one on hands on all.
use Rattle.std.specs.Prelude.{◌≡◌, ℕ, List, None, Option, true, false}
use Rattle.saber_io.specs.Outside.{FilesView}
use Rattle.saber_plan.specs.Outputs.{Rose}
use Rattle.saber_words.specs.Many.{many_of}
use Rattle.saber_notes.specs.Told.{TellsNotes}
use Rattle.saber_notes.specs.declared.early.Early.TheVariants.{Usage}
use Rattle.saber_top.specs.declared.ended.Top.{Top}
use Rattle.saber_top.specs.declared.ended.TopEnd.TheVariants.{Before}
use Rattle.saber_top.specs.Commands.{is_many, IfMany}
use Rattle.saber_top.specs.Shared.{outcomes_of, parts_in}
use Rattle.saber_top.specs.Comes.{ComesTo, IsOfMany, IsTrueOf}
use Rattle.saber_top.specs.Ends.{EndsBy, EndsUnreadMany, IsCreateEnd, top_notes, top_status}
use Rattle.saber_top.specs.Others.{IsSaber}

module _ {F U K N T : Type 0} (told : F → Option FilesView) (faults : F → ℕ) (written : K → Option (List ℕ)) (failed made : K → ℕ) (noted_text : N → Option (List ℕ)) (note_faults note_writes : N → ℕ) (asked : U → Option (List (List ℕ))) (outs_faults : U → ℕ) (out_written : T → Option (List ℕ)) (out_failed out_made : T → ℕ) where
  -- Of these words, over files, files that are created, and notes that stood so before and stand so now, with this sink, the call came to this.
  pub record SaysTop (words : List (List ℕ)) (old new : F) (outs_old outs_new : U) (sink : K) (notes_old notes_new : N) (e : Top K T) : Type 0 where
    -- Other words: all that `saber` says, and nothing is created.
    pub other : is_many words ≡ false → IsSaber told faults written failed made noted_text note_faults note_writes words old new sink notes_old notes_new e
    pub other_outs : is_many words ≡ false → outs_new ≡ outs_old
    -- With `many` the sink stays as it was, and the parts tell the tasks.
    pub untouched : is_many words ≡ true → (e.sink ≡ sink) × (e.tasks ≡ 0)
    pub kinds : is_many words ≡ true → IsOfMany e.end
    -- Words that are no command, whether the files tell or not.
    pub unread : is_many words ≡ true → many_of words ≡ None → EndsUnreadMany e.end old new outs_old outs_new
    pub usage : e.end ≡ Before Usage → many_of words ≡ None
    -- Either no query is run, for the first of all that is at fault (`early`); or each has its part, in their order (`each`). A part says what a run of its query
    -- alone says: what went out, by how many writes, how it ended and why (`answers`); behind a fault of reading at least every whole task of what was taken of the left file is
    -- assembled (`taken`). Which files were asked for and given back (`leaves`, `leaves_each`): each query's only behind those that have plans, the left one only
    -- behind queries that can share it. Which files were created, in the order of the queries (`made`, `made_each`): none before the left file is open, and those
    -- of all where they are run.
    pub comes : IfMany words (λ m. ComesTo told asked out_written out_made m old new outs_old outs_new e.end (parts_in e.parts))
    -- Where no query is run there are no parts (`none`); each has its outcome's status (`statuses`). A fault of the outside is real, and none is passed over: of
    -- the files (`files`, `files_good`, `reads`, `reads_good`), and of each that was created alone (`writes`, `writes_good`).
    pub holds : IsTrueOf faults out_failed old new e.end (parts_in e.parts)
    -- So it is of the files that are created.
    pub outs : EndsBy e.end IsCreateEnd → Rose (outs_faults outs_old) (outs_faults outs_new)
    pub outs_good : (EndsBy e.end IsCreateEnd → ⊥) → outs_faults outs_new ≡ outs_faults outs_old
    -- The status: of the one end, or of all parts the first that isn't 0.
    pub status : e.status ≡ top_status e.end (outcomes_of (parts_in e.parts))
    -- The notes: a line for each status that isn't 0, in one write, so they are whole only where each line went out (`whole`); a front where their sink failed
    -- (`failed`, `note`, `note_good`), or nothing, where it lacked memory (`memory`) or the status is 0 (`nothing`, `something`).
    pub notes : TellsNotes noted_text note_faults note_writes notes_old notes_new e.status e.noted (top_notes e.end (outcomes_of (parts_in e.parts)))
