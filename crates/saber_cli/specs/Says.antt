-- What `saber` says of a call: all its clauses in one, so that who hands one on hands on all.
use Rattle.std.specs.Prelude.{◌≡◌, ◌≢◌, ℕ, List, None, Some, Option}
use Rattle.saber_io.specs.Outside.{FilesView}
use Rattle.saber_plan.specs.Outputs.{Rose, appended_text}
use Rattle.saber_words.specs.Commands.{run, demo, chain, command_of}
use Rattle.saber_words.specs.Chain.{AskedChain}
use Rattle.saber_notes.specs.Notes.{status_of, note_of}
use Rattle.saber_notes.specs.Told.{TellsNotes}
use Rattle.saber_notes.specs.declared.outcome.Outcome.TheVariants.{Usage, WriteFault}
use Rattle.saber_chain.specs.Sinks.{seen_of}
use Rattle.saber_cli.specs.declared.top.Ended.{Ended}
use Rattle.saber_cli.specs.Outcomes.{IsClean, IsFileFault, IsBeforeRun, IsOfSecond}
use Rattle.saber_cli.specs.Due.{IfCommand, IfAsked}
use Rattle.saber_cli.specs.Gives.{AnswersTold}
use Rattle.saber_cli.specs.Chained.{AnswersChain}
use Rattle.saber_cli.specs.Leaving.{LeavesTold}
use Rattle.saber_cli.specs.Taken.{TakesTold}
use Rattle.saber_cli.specs.Tells.{TellsRun}
use Rattle.saber_cli.specs.Unread.{EndsUnread}
use Rattle.saber_cli.specs.Writes.{WritesTold}

module _ {F K N : Type 0} (view : F → Option FilesView) (file_faults : F → ℕ) (written : K → Option (List ℕ)) (sink_faults sink_writes : K → ℕ) (noted_text : N → Option (List ℕ)) (note_faults note_writes : N → ℕ) where
  -- Of these words, over files and notes that stood so before and stand so now, with this sink, the call ended so.
  pub record SaysSaber (words : List (List ℕ)) (old new : F) (given : K) (notes_old notes_new : N) (e : Ended K) : Type 0 where
    pub status : e.status ≡ status_of e.outcome
    -- What goes out is the text of the first tasks' rows, the outcome has its cause, and is one that what is due allows. Of a chain see `chained`.
    pub answers : (out : List ℕ) × (written e.sink ≡ appended_text (written given) out) × AnswersTold words (view old) e.outcome e.tasks out
    pub before : IsBeforeRun e.outcome → (e.tasks ≡ 0) × (e.sink ≡ given)
    -- How often is written: of a run once for each of the tasks assembled that has text, and once more where that fails; of a text that goes out alone once. Of a chain see `chained`.
    pub writes : IfCommand words (λ c. WritesTold c (view old) e.outcome e.tasks (sink_writes given) (sink_writes e.sink))
    -- A run over generated rows tells its summary, whatever files there are: of the seed and the number of rows alone.
    pub told : IfAsked demo words (λ d. TellsRun d e.outcome e.tasks (written given) (written e.sink))
    -- A chain answers the second query over the lines of the first, and its outcome has its cause: in the texts, in how they fit, or in both runs. Behind a fault
    -- of reading those lines are of at least every whole task of what was taken of the row files.
    pub chained : IfAsked chain words (λ a. AnswersChain a e.outcome e.tasks (view old) (view new) (seen_of written sink_writes given) (seen_of written sink_writes e.sink))
    pub second : IsOfSecond e.outcome → (a : AskedChain) × (command_of words ≡ Some (chain a))
    -- Words that are no command, whether the files tell or not.
    pub unread : command_of words ≡ None → EndsUnread e.outcome e.tasks old new given e.sink
    pub usage : e.outcome ≡ Usage → command_of words ≡ None
    -- A fault of the outside is real, and none is passed over: an answer of the words, the query, the rows and the ring alone comes only where no count of faults
    -- rose, and the sink's rose exactly where a fault of writing is told.
    pub files : IsFileFault e.outcome → Rose (file_faults old) (file_faults new)
    pub files_good : IsClean e.outcome → file_faults new ≡ file_faults old
    pub sink : e.outcome ≡ WriteFault → Rose (sink_faults given) (sink_faults e.sink)
    pub sink_good : e.outcome ≢ WriteFault → sink_faults e.sink ≡ sink_faults given
    -- Which files were asked for and given back: the row files only behind a query that has no fault and as many streams; of a chain the second query's only behind
    -- a first one that has no fault, and the row files only behind two that chain. Of a query's file no more is taken than tells that its text is too long.
    pub leaves : IfCommand words (λ c. LeavesTold c e.outcome (view old) (view new))
    -- A fault of reading leaves at least every whole task assembled of what was taken of the row files.
    pub taken : IfAsked run words (λ r. TakesTold r e.outcome e.tasks (view old) (view new))
    -- The note is the outcome's.
    pub notes : TellsNotes noted_text note_faults note_writes notes_old notes_new e.status e.noted (note_of e.outcome)
