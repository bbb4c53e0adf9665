-- How the process ends.
use Rattle.std.specs.Prelude.{◌≡◌, ℕ, List, Option}
use Rattle.saber_io.specs.Outside.{FilesView}
use Rattle.saber_words.specs.declared.commands.WordsFault.{WordsFault}
use Rattle.saber_words.specs.declared.commands.WordsFault.TheVariants.{NoMemory}
use Rattle.saber_notes.specs.Notes.{note_of, status_of}
use Rattle.saber_notes.specs.declared.note.Noted.{Noted}
use Rattle.saber_notes.specs.Told.{TellsNotes}
use Rattle.saber_cli.specs.Unread.{unread}
use Rattle.saber_top.specs.declared.ended.Top.{Top}
use Rattle.saber_top.specs.Says.{SaysTop}

-- The system couldn't hand the words over: the status and the note tell why, as `refuse_words` has it. Each field is the clause of its name.
module _ {N : Type 0} (noted_text : N → Option (List ℕ)) (note_faults note_writes : N → ℕ) where
  pub record Refuses (fault : WordsFault) (status : ℕ) (old new : N) : Type 0 where
    pub noted : Noted
    pub status_is : status ≡ status_of (unread fault)
    pub notes : TellsNotes noted_text note_faults note_writes old new status noted (note_of (unread fault))

-- The status is that of a call of `top` with these words, of which all holds that its contract says; or memory lacked to lend them, and nothing was opened or created.
module _ {F U K N T : Type 0} (told : F → Option FilesView) (faults : F → ℕ) (written : K → Option (List ℕ)) (failed made : K → ℕ) (noted_text : N → Option (List ℕ)) (note_faults note_writes : N → ℕ) (asked : U → Option (List (List ℕ))) (outs_faults : U → ℕ) (out_written : T → Option (List ℕ)) (out_failed out_made : T → ℕ) where
  pub data IsOfTop (words : List (List ℕ)) (old new : F) (outs_old outs_new : U) (sink : K) (notes_old notes_new : N) (status : ℕ) : Type 0 where
    lacked : Refuses noted_text note_faults note_writes NoMemory status notes_old notes_new → new ≡ old → outs_new ≡ outs_old → IsOfTop words old new outs_old outs_new sink notes_old notes_new status
    was_called : (e : Top K T) → status ≡ e.status → SaysTop told faults written failed made noted_text note_faults note_writes asked outs_faults out_written out_failed out_made words old new outs_old outs_new sink notes_old notes_new e
        → IsOfTop words old new outs_old outs_new sink notes_old notes_new status
