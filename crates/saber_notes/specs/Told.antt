-- What notes tell of a call that ended.
use Rattle.std.specs.Prelude.{◌≡◌, ◌≢◌, ℕ, List, [], Option}
use Rattle.saber_plan.specs.Outputs.{Rose, appended_text, raised_count, AppendsPrefix}
use Rattle.saber_notes.specs.declared.note.Noted.{Noted}
use Rattle.saber_notes.specs.declared.note.Noted.TheVariants as noted_as

-- the status is 0 where there is nothing to tell, and nowhere else
abbrev pub HasNotes : ℕ → List ℕ → Type 0
HasNotes status text = (status ≡ 0 → text ≡ []) × (status ≢ 0 → text ≢ [])

-- The notes tell this text, in one write: the whole, or a prefix where their sink failed, or nothing where it lacked memory; and nothing with status 0.
module _ {N : Type 0} (written : N → Option (List ℕ)) (faults writes : N → ℕ) where
  pub record TellsNotes (old new : N) (status : ℕ) (noted : Noted) (text : List ℕ) : Type 0 where
    pub nothing : status ≡ 0 → (noted ≡ noted_as.Nothing) × (new ≡ old)
    pub something : status ≢ 0 → noted ≢ noted_as.Nothing
    pub whole : noted ≡ noted_as.Whole → written new ≡ appended_text (written old) text
    pub failed : noted ≡ noted_as.Failed → AppendsPrefix (written old) (written new) text
    pub memory : noted ≡ noted_as.NoMemory → written new ≡ written old
    pub note : noted ≡ noted_as.Failed → Rose (faults old) (faults new)
    pub note_good : noted ≢ noted_as.Failed → faults new ≡ faults old
    pub one : status ≢ 0 → noted ≢ noted_as.NoMemory → writes new ≡ raised_count (writes old)
    pub none : noted ≡ noted_as.NoMemory → writes new ≡ writes old
