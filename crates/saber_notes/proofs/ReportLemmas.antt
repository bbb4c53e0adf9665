-- Lines of a report.
use Rattle.std.proofs.Common.{◌≡◌, ◌≢◌, ◌++◌, ◌∙◌, ℕ, List, codes, decimal, refl, sym, ap, append_assoc}
use Rattle.saber_notes.specs.declared.outcome.Outcome.{Outcome}
use Rattle.saber_notes.specs.declared.outcome.Outcome.TheVariants.{Done, Usage, FileCount, QueryFault, SecondQueryFault, Unchainable, LineRefused, ChainLineRefused, OpenFault, ReadFault, WriteFault, TooWide, NoMemory}
use Rattle.saber_notes.specs.Notes.{note_text}
use Rattle.saber_notes.specs.ManyNotes.{query_line, line_on}

-- the line of a query that isn't done tells how its run ended
pub line_tells : (j : ℕ) (o : Outcome) → o ≢ Done → query_line j o ≡ line_on j (note_text o)
line_tells j Done n = absurd (n refl)
line_tells j Usage n = refl
line_tells j (FileCount streams given) n = refl
line_tells j (QueryFault byte cause) n = refl
line_tells j (SecondQueryFault byte cause) n = refl
line_tells j (Unchainable file) n = refl
line_tells j (LineRefused side line cause) n = refl
line_tells j (ChainLineRefused line cause) n = refl
line_tells j (OpenFault file) n = refl
line_tells j (ReadFault file) n = refl
line_tells j WriteFault n = refl
line_tells j (TooWide task need ring) n = refl
line_tells j NoMemory n = refl

-- what is there, with the beginning of a line and what it tells put behind, has the line behind it
pub line_put : (old mid new told : List ℕ) (j : ℕ) → mid ≡ old ++ (codes "saber: " ++ codes "query " ++ decimal j ++ codes ": ") → new ≡ mid ++ (told ++ codes "\n")
    → new ≡ old ++ line_on j told
line_put old mid new told j begun is =
    let head = codes "saber: " ++ codes "query " ++ decimal j ++ codes ": " in
    is ∙ ap (λ (x : List ℕ). x ++ (told ++ codes "\n")) begun ∙ append_assoc old head (told ++ codes "\n")
    ∙ ap (λ (line : List ℕ). old ++ line) (sym (append_assoc head told (codes "\n")))
