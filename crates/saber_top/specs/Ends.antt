-- How a call ends: its status and its notes.
use Rattle.std.specs.Prelude.{◌≡◌, ◌⊎◌, ℕ, List}
use Rattle.saber_words.specs.declared.commands.WordsFault.{WordsFault}
use Rattle.saber_words.specs.declared.commands.WordsFault.TheVariants as fault
use Rattle.saber_notes.specs.Notes.{status_of, note_of}
use Rattle.saber_notes.specs.ManyNotes.{early_status, early_note, first_status, query_lines}
use Rattle.saber_notes.specs.declared.early.Early.{Early}
use Rattle.saber_notes.specs.declared.early.Early.TheVariants as early
use Rattle.saber_notes.specs.declared.outcome.Outcome.{Outcome}
use Rattle.saber_top.specs.declared.ended.TopEnd.{TopEnd}
use Rattle.saber_top.specs.declared.ended.TopEnd.TheVariants.{One, Before, Each}

-- a fact of an end before any query is run
abbrev pub IfBefore : TopEnd → (Early → Type 0) → Type 0
IfBefore (Before e) P = P e
IfBefore _ P = Unit {0}

-- The status: that of the one command's end, or of the end before any query is run, or else the first of the queries' that isn't 0.
abbrev pub top_status : TopEnd → List Outcome → ℕ
top_status (One o) outcomes = status_of o
top_status (Before e) outcomes = early_status e
top_status Each outcomes = first_status outcomes

-- The notes, where the status isn't 0: that of the one command's end, or of the end before any query is run, or else a line for each query whose status isn't 0,
-- in their order.
abbrev pub top_notes : TopEnd → List Outcome → List ℕ
top_notes (One o) outcomes = note_of o
top_notes (Before e) outcomes = early_note e
top_notes Each outcomes = query_lines outcomes

-- ---- faults

-- a file was not opened or not read
abbrev pub IsFileEnd : Early → Type 0
IsFileEnd (early.QueryUnopened number) = Unit {0}
IsFileEnd (early.QueryUnread number) = Unit {0}
IsFileEnd early.LeftUnopened = Unit {0}
IsFileEnd _ = ⊥

-- no file failed, and memory was enough: an answer of the words and the queries alone, or of what could not be created
abbrev pub IsReadWell : Early → Type 0
IsReadWell early.Usage = Unit {0}
IsReadWell (early.QueryFault number byte cause) = Unit {0}
IsReadWell (early.Unshareable number) = Unit {0}
IsReadWell (early.CreateFault number) = Unit {0}
IsReadWell _ = ⊥

-- a file for an answer was not created
abbrev pub IsCreateEnd : Early → Type 0
IsCreateEnd (early.CreateFault number) = Unit {0}
IsCreateEnd _ = ⊥

-- the call ended before any query was run, and so
abbrev pub EndsBy : TopEnd → (Early → Type 0) → Type 0
EndsBy (Before e) P = P e
EndsBy _ P = ⊥

-- why no command was read
abbrev pub unread_many : WordsFault → Early
unread_many fault.NoMemory = early.NoMemory
unread_many fault.Usage = early.Usage

-- words that are no command: nothing is opened, created or run
pub record EndsUnreadMany {F U : Type 0} (end : TopEnd) (old new : F) (outs_old outs_new : U) : Type 0 where
  pub outcome : (end ≡ Before early.Usage) ⊎ (end ≡ Before early.NoMemory)
  pub files : new ≡ old
  pub outs : outs_new ≡ outs_old
