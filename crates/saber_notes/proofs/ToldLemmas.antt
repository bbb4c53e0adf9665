-- Notes that are told.
use Rattle.std.proofs.Common.{◌≡◌, ◌≢◌, ℕ, List, [], ◌∷◌, length, refl, arith}
use Rattle.std.specs.Prelude.{Option}
use Rattle.saber_notes.specs.Notes.{status_of}
use Rattle.saber_notes.specs.ManyNotes.{early_note, early_status}
use Rattle.saber_notes.specs.Told.{HasNotes, TellsNotes}
use Rattle.saber_notes.specs.declared.early.Early.{Early}
use Rattle.saber_notes.specs.declared.early.Early.TheVariants as early
use Rattle.saber_notes.specs.declared.note.Noted.TheVariants as noted_as
use Rattle.saber_notes.specs.declared.outcome.Outcome.{Outcome}
use Rattle.saber_notes.specs.declared.outcome.Outcome.TheVariants.{Done, Usage, FileCount, QueryFault, SecondQueryFault, Unchainable, LineRefused, ChainLineRefused, OpenFault, ReadFault, WriteFault, TooWide, NoMemory}

-- status 0 is that of a good end alone
pub done_alone : (o : Outcome) → status_of o ≡ 0 → o ≡ Done
done_alone Done e = refl
done_alone Usage e = absurd (omega (arith, e))
done_alone (FileCount streams given) e = absurd (omega (arith, e))
done_alone (QueryFault byte cause) e = absurd (omega (arith, e))
done_alone (SecondQueryFault byte cause) e = absurd (omega (arith, e))
done_alone (Unchainable file) e = absurd (omega (arith, e))
done_alone (LineRefused side line cause) e = absurd (omega (arith, e))
done_alone (ChainLineRefused line cause) e = absurd (omega (arith, e))
done_alone (OpenFault file) e = absurd (omega (arith, e))
done_alone (ReadFault file) e = absurd (omega (arith, e))
done_alone WriteFault e = absurd (omega (arith, e))
done_alone (TooWide task need ring) e = absurd (omega (arith, e))
done_alone NoMemory e = absurd (omega (arith, e))

-- an end before any query is run has a status of its own, and a note
early_some : (e : Early) → early_status e ≡ 0 → ⊥
early_some early.Usage z = omega (arith, z)
early_some (early.QueryUnopened j) z = omega (arith, z)
early_some (early.QueryUnread j) z = omega (arith, z)
early_some (early.QueryFault j byte cause) z = omega (arith, z)
early_some (early.Unshareable j) z = omega (arith, z)
early_some early.LeftUnopened z = omega (arith, z)
early_some (early.CreateFault j) z = omega (arith, z)
early_some early.NoMemory z = omega (arith, z)

early_loud : (e : Early) → early_note e ≢ []
early_loud early.Usage z = cc
early_loud (early.QueryUnopened j) z = cc
early_loud (early.QueryUnread j) z = cc
early_loud (early.QueryFault j byte cause) z = cc
early_loud (early.Unshareable j) z = cc
early_loud early.LeftUnopened z = cc
early_loud (early.CreateFault j) z = cc
early_loud early.NoMemory z = cc

pub early_has_notes : (e : Early) → HasNotes (early_status e) (early_note e)
early_has_notes e = (λ z. absurd (early_some e z), λ n. early_loud e)

-- nothing is long
pub no_bytes : (text : List ℕ) → length text ≡ 0 → text ≡ []
no_bytes [] z = refl
no_bytes (b ∷ bs) z = absurd (omega (arith, z))

module _ {N : Type 0} (written : N → Option (List ℕ)) (faults writes : N → ℕ) where
  -- nothing, where the status is 0
  pub nothing_told : (n : N) (status : ℕ) (text : List ℕ) → (status ≢ 0 → ⊥) → TellsNotes written faults writes n n status noted_as.Nothing text
  nothing_told n status text zero = record {
    nothing = λ _. (refl, refl);
    something = λ some. absurd (zero some);
    whole = λ k. let clash : noted_as.Nothing ≡ noted_as.Whole = k in cc;
    failed = λ k. let clash : noted_as.Nothing ≡ noted_as.Failed = k in cc;
    memory = λ _. refl;
    note = λ k. let clash : noted_as.Nothing ≡ noted_as.Failed = k in cc;
    note_good = λ _. refl;
    one = λ some _. absurd (zero some);
    none = λ _. refl;
  }
