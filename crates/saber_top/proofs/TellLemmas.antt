-- Statuses and notes of several queries.
use Rattle.std.proofs.Common.{◌≡◌, ◌≢◌, ℕ, suc, ◌+◌, List, [], ◌∷◌, ◌++◌, refl, sym, ◌∙◌, ap, subst, arith, append_assoc}
use Rattle.std.specs.List.{AllByRecursion}
use Rattle.saber_notes.specs.Notes.{status_of}
use Rattle.saber_notes.specs.ManyNotes.{first_status, lines_from, query_line}
use Rattle.saber_notes.specs.declared.outcome.Outcome.{Outcome}
use Rattle.saber_notes.specs.declared.outcome.Outcome.TheVariants.{Done, Usage, FileCount, QueryFault, SecondQueryFault, Unchainable, LineRefused, ChainLineRefused, OpenFault, ReadFault, WriteFault, TooWide, NoMemory}

-- ---- of one

-- a fact of each of none
pub none_all : {X : Type 0} (P : X → Type 0) (xs : List X) → xs ≡ [] → AllByRecursion P xs
none_all P xs e = subst (AllByRecursion P) (sym e) tt

-- ---- of all

-- one that is done doesn't count
pub first_done : (o : Outcome) (os : List Outcome) → o ≡ Done → first_status (o ∷ os) ≡ first_status os
first_done o os e = ap (λ x. first_status (x ∷ os)) e

pub first_other : (o : Outcome) (os : List Outcome) → o ≢ Done → first_status (o ∷ os) ≡ status_of o
first_other Done os n = absurd (n refl)
first_other Usage os n = refl
first_other (FileCount streams given) os n = refl
first_other (QueryFault byte cause) os n = refl
first_other (SecondQueryFault byte cause) os n = refl
first_other (Unchainable file) os n = refl
first_other (LineRefused side line cause) os n = refl
first_other (ChainLineRefused line cause) os n = refl
first_other (OpenFault file) os n = refl
first_other (ReadFault file) os n = refl
first_other WriteFault os n = refl
first_other (TooWide task need ring) os n = refl
first_other NoMemory os n = refl

-- where all are done nothing is told
pub quiet : (j : ℕ) (os : List Outcome) → first_status os ≡ 0 → lines_from j os ≡ []
quiet j [] e = refl
quiet j (Done ∷ os) e = quiet (suc j) os e
quiet j (Usage ∷ os) e = absurd (omega (arith, e))
quiet j ((FileCount streams given) ∷ os) e = absurd (omega (arith, e))
quiet j ((QueryFault byte cause) ∷ os) e = absurd (omega (arith, e))
quiet j ((SecondQueryFault byte cause) ∷ os) e = absurd (omega (arith, e))
quiet j ((Unchainable file) ∷ os) e = absurd (omega (arith, e))
quiet j ((LineRefused side line cause) ∷ os) e = absurd (omega (arith, e))
quiet j ((ChainLineRefused line cause) ∷ os) e = absurd (omega (arith, e))
quiet j ((OpenFault file) ∷ os) e = absurd (omega (arith, e))
quiet j ((ReadFault file) ∷ os) e = absurd (omega (arith, e))
quiet j (WriteFault ∷ os) e = absurd (omega (arith, e))
quiet j ((TooWide task need ring) ∷ os) e = absurd (omega (arith, e))
quiet j (NoMemory ∷ os) e = absurd (omega (arith, e))

-- and else something is
pub loud : (j : ℕ) (os : List Outcome) → first_status os ≢ 0 → lines_from j os ≢ []
loud j [] n e = n refl
loud j (Done ∷ os) n e = loud (suc j) os n e
loud j (Usage ∷ os) n e = cc
loud j ((FileCount streams given) ∷ os) n e = cc
loud j ((QueryFault byte cause) ∷ os) n e = cc
loud j ((SecondQueryFault byte cause) ∷ os) n e = cc
loud j ((Unchainable file) ∷ os) n e = cc
loud j ((LineRefused side line cause) ∷ os) n e = cc
loud j ((ChainLineRefused line cause) ∷ os) n e = cc
loud j ((OpenFault file) ∷ os) n e = cc
loud j ((ReadFault file) ∷ os) n e = cc
loud j (WriteFault ∷ os) n e = cc
loud j ((TooWide task need ring) ∷ os) n e = cc
loud j (NoMemory ∷ os) n e = cc

-- ---- lines one after another

pub lines_more : (old text : List ℕ) (j : ℕ) (o : Outcome) (os : List Outcome) → text ≡ (old ++ query_line j o) ++ lines_from (j + 1) os → text ≡ old ++ lines_from j (o ∷ os)
lines_more old text j o os e =
    let next : j + 1 ≡ suc j = omega arith in
    e ∙ append_assoc old (query_line j o) (lines_from (j + 1) os) ∙ ap (λ n. old ++ (query_line j o ++ lines_from n os)) next
