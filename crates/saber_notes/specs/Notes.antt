-- The statuses and the note lines of all ways in which a call of the program can end (this project's rules).
use Rattle.std.specs.Prelude.{ℕ, List, [], ◌∷◌, ◌++◌, codes, decimal}
use Rattle.saber_plan.specs.declared.rows.Side.{Side}
use Rattle.saber_plan.specs.declared.rows.Side.TheVariants as sides
use Rattle.saber_plan.specs.declared.rows.RowCause.{RowCause}
use Rattle.saber_plan.specs.declared.rows.RowCause.TheVariants as rows
use Rattle.saber_query.specs.declared.fault.Cause.{Cause}
use Rattle.saber_query.specs.declared.fault.Cause.TheVariants as query
use Rattle.saber_notes.specs.declared.outcome.InputFile.{InputFile}
use Rattle.saber_notes.specs.declared.outcome.InputFile.TheVariants as files
use Rattle.saber_notes.specs.declared.outcome.Outcome.{Outcome}
use Rattle.saber_notes.specs.declared.outcome.Outcome.TheVariants.{Done, Usage, FileCount, QueryFault, SecondQueryFault, Unchainable, LineRefused, ChainLineRefused, OpenFault, ReadFault, WriteFault, TooWide, NoMemory}

-- why a query is refused
abbrev pub query_text : Cause → List ℕ
query_text query.TooLong = codes "too long"
query_text query.BadByte = codes "bad byte"
query_text query.NumberRange = codes "number range"
query_text query.Syntax = codes "syntax"
query_text query.Depth = codes "depth"
query_text query.DuplicateName = codes "duplicate name"
query_text query.UnknownStream = codes "unknown stream"
query_text query.UnknownColumn = codes "unknown column"
query_text query.Ambiguous = codes "ambiguous"
query_text query.TooMany = codes "too many"
query_text query.WindowRange = codes "window range"
query_text query.Overlap = codes "overlap"
query_text query.Shape = codes "shape"
query_text query.NotGrouped = codes "not grouped"
query_text query.ExprTooWide = codes "expression too wide"
query_text query.SumTooWide = codes "sum too wide"

-- why a line is refused
abbrev pub line_text : RowCause → List ℕ
line_text rows.TooManyLines = codes "too many lines"
line_text rows.TooLong = codes "too long"
line_text rows.FieldCount = codes "field count"
line_text (rows.BadNumber field) = codes "bad number in field " ++ decimal field
line_text (rows.Range field) = codes "range in field " ++ decimal field
line_text rows.TimeOrder = codes "time order"
line_text rows.TooManyHeld = codes "too many held"

abbrev pub side_text : Side → List ℕ
side_text sides.Left = codes "left"
side_text sides.Right = codes "right"

abbrev pub file_text : InputFile → List ℕ
file_text files.Query = codes "query"
file_text files.Left = codes "left"
file_text files.Right = codes "right"
file_text files.SecondQuery = codes "second query"

-- the status that the process ends with, and what the note says; a call that is done has no note
abbrev pub told_of : Outcome → ℕ × List ℕ
told_of Done = (0, [])
told_of Usage = (2, codes "usage: saber run QUERY LEFT [RIGHT] | check QUERY | demo SEED ROWS")
told_of (FileCount streams given) = (2, codes "streams " ++ decimal streams ++ codes ", files " ++ decimal given)
told_of (QueryFault byte cause) = (3, codes "query byte " ++ decimal byte ++ codes ": " ++ query_text cause)
told_of (SecondQueryFault byte cause) = (3, codes "second query byte " ++ decimal byte ++ codes ": " ++ query_text cause)
told_of (Unchainable file) = (3, file_text file ++ codes " byte 0: shape")
told_of (LineRefused side line cause) = (4, side_text side ++ codes " line " ++ decimal line ++ codes ": " ++ line_text cause)
told_of (ChainLineRefused line cause) = (4, codes "chain line " ++ decimal line ++ codes ": " ++ line_text cause)
told_of (OpenFault file) = (5, file_text file ++ codes ": open fault")
told_of (ReadFault file) = (5, file_text file ++ codes ": read fault")
told_of WriteFault = (6, codes "write fault")
told_of (TooWide task need ring) = (7, (codes "task " ++ decimal task) ++ (codes " needs " ++ decimal need) ++ (codes " blocks, ring has " ++ decimal ring))
told_of NoMemory = (8, codes "out of memory")

abbrev pub status_of : Outcome → ℕ
status_of outcome = (told_of outcome).0

abbrev pub note_text : Outcome → List ℕ
note_text outcome = (told_of outcome).1

-- the whole line
abbrev pub note_of : Outcome → List ℕ
note_of outcome = codes "saber: " ++ note_text outcome ++ 10 ∷ []
