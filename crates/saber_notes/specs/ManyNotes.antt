-- The notes and statuses of `many`, several queries over one input (this project's rules). Queries are numbered from 1.
use Rattle.std.specs.Prelude.{ℕ, suc, List, [], ◌∷◌, ◌++◌, codes, decimal}
use Rattle.saber_query.specs.declared.fault.Cause.TheVariants.{Shape}
use Rattle.saber_notes.specs.declared.outcome.InputFile.TheVariants.{Query, Left}
use Rattle.saber_notes.specs.declared.outcome.Outcome.{Outcome}
use Rattle.saber_notes.specs.declared.outcome.Outcome.TheVariants as ends
use Rattle.saber_notes.specs.declared.early.Early.{Early}
use Rattle.saber_notes.specs.declared.early.Early.TheVariants.{Usage, QueryUnopened, QueryUnread, QueryFault, Unshareable, LeftUnopened, CreateFault, NoMemory}
use Rattle.saber_notes.specs.Notes.{status_of, note_text, note_of}

-- ---- lines

-- a line on the query of this number
abbrev pub line_on : ℕ → List ℕ → List ℕ
line_on j told = (codes "saber: " ++ codes "query " ++ decimal j ++ codes ": ") ++ told ++ 10 ∷ []

-- the line of a query whose run ended so: behind its number, what the note of that end says; a query that is done has none
abbrev pub query_line : ℕ → Outcome → List ℕ
query_line j ends.Done = []
query_line j o = line_on j (note_text o)

-- the lines of queries in their order, the first of which has this number
abbrev pub lines_from : ℕ → List Outcome → List ℕ
lines_from j [] = []
lines_from j (o ∷ os) = query_line j o ++ lines_from (suc j) os

-- those of all queries
abbrev pub query_lines : List Outcome → List ℕ
query_lines = lines_from 1

-- the status of all: the first one of theirs that isn't 0
abbrev pub first_status : List Outcome → ℕ
first_status [] = 0
first_status (ends.Done ∷ os) = first_status os
first_status (o ∷ os) = status_of o

-- ---- before a run

-- The status and the note of a call that ends before any query is run. Of a query: behind its number, what the note of a run of this query alone says; of the
-- words, the left file and memory: that note itself.
abbrev pub early_told : Early → ℕ × List ℕ
early_told Usage = (2, note_of ends.Usage)
early_told (QueryUnopened j) = (5, query_line j (ends.OpenFault Query))
early_told (QueryUnread j) = (5, query_line j (ends.ReadFault Query))
early_told (QueryFault j byte cause) = (3, query_line j (ends.QueryFault byte cause))
early_told (Unshareable j) = (3, query_line j (ends.QueryFault 0 Shape))
early_told LeftUnopened = (5, note_of (ends.OpenFault Left))
early_told (CreateFault j) = (6, line_on j (codes "create fault"))
early_told NoMemory = (8, note_of ends.NoMemory)

abbrev pub early_status : Early → ℕ
early_status early = (early_told early).0

abbrev pub early_note : Early → List ℕ
early_note early = (early_told early).1
