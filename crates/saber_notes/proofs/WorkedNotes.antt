-- Notes worked out: of several queries, and with great numbers.
use Rattle.std.proofs.Common.{◌≡◌, List, ℕ, [], ◌∷◌, ◌++◌, arith, codes, refl, ap, ap₂}
use Rattle.std.proofs.lemmas.Fmt.{decimal_digit}
use Rattle.std.specs.Fmt.{digits}
use Rattle.saber_plan.specs.declared.rows.Side.TheVariants as sides
use Rattle.saber_plan.specs.declared.rows.RowCause.TheVariants as rows
use Rattle.saber_query.specs.declared.fault.Cause.TheVariants as causes
use Rattle.saber_notes.specs.declared.outcome.Outcome.TheVariants as ends
use Rattle.saber_notes.specs.declared.outcome.InputFile.TheVariants as files
use Rattle.saber_notes.specs.declared.early.Early.TheVariants.{QueryUnopened, QueryUnread, QueryFault, Unshareable, LeftUnopened, CreateFault, NoMemory}
use Rattle.saber_notes.specs.Notes.{note_of}
use Rattle.saber_notes.specs.ManyNotes.{early_note, early_status, first_status, query_lines}

-- a line on a query, behind these digits of its number
abbrev line : List ℕ → List ℕ → List ℕ
line number told = (codes "saber: " ++ codes "query " ++ number ++ codes ": ") ++ told ++ 10 ∷ []

-- ---- before a run

unknown_column : early_note (QueryFault 2 7 causes.UnknownColumn) ≡ codes "saber: query 2: query byte 7: unknown column" ++ 10 ∷ []
unknown_column = ap₂ (λ (j byte : List ℕ). line j (codes "query byte " ++ byte ++ codes ": " ++ codes "unknown column")) (decimal_digit 2 (omega arith)) (decimal_digit 7 (omega arith))

other_columns : early_note (Unshareable 3) ≡ codes "saber: query 3: query byte 0: shape" ++ 10 ∷ []
other_columns = ap₂ (λ (j byte : List ℕ). line j (codes "query byte " ++ byte ++ codes ": " ++ codes "shape")) (decimal_digit 3 (omega arith)) (decimal_digit 0 (omega arith))

no_query : early_note (QueryUnopened 1) ≡ codes "saber: query 1: query: open fault" ++ 10 ∷ []
no_query = ap (λ (j : List ℕ). line j (codes "query" ++ codes ": open fault")) (decimal_digit 1 (omega arith))

unread_query : early_note (QueryUnread 8) ≡ codes "saber: query 8: query: read fault" ++ 10 ∷ []
unread_query = ap (λ (j : List ℕ). line j (codes "query" ++ codes ": read fault")) (decimal_digit 8 (omega arith))

no_left : early_note LeftUnopened ≡ codes "saber: left: open fault" ++ 10 ∷ []
no_left = refl

no_out : early_note (CreateFault 3) ≡ codes "saber: query 3: create fault" ++ 10 ∷ []
no_out = ap (λ (j : List ℕ). line j (codes "create fault")) (decimal_digit 3 (omega arith))

no_memory : early_note NoMemory ≡ codes "saber: out of memory" ++ 10 ∷ []
no_memory = refl

create_is_six : early_status (CreateFault 3) ≡ 6
create_is_six = refl

-- ---- behind runs

-- the first query's file failed, the second one is done
first_failed : query_lines (ends.WriteFault ∷ ends.Done ∷ []) ≡ codes "saber: query 1: write fault" ++ 10 ∷ []
first_failed = ap (λ (j : List ℕ). line j (codes "write fault") ++ []) (decimal_digit 1 (omega arith))

-- a line that all refuse: each query's line tells it
all_refuse : query_lines (ends.LineRefused sides.Left 3 rows.TimeOrder ∷ ends.LineRefused sides.Left 3 rows.TimeOrder ∷ [])
    ≡ codes "saber: query 1: left line 3: time order" ++ 10 ∷ codes "saber: query 2: left line 3: time order" ++ 10 ∷ []
all_refuse =
    let tells : List ℕ → List ℕ → List ℕ = λ j n. line j (codes "left" ++ codes " line " ++ n ++ codes ": " ++ codes "time order") in
    let third = decimal_digit 3 (omega arith) in
    ap₂ (λ (a b : List ℕ). a ++ (b ++ [])) (ap₂ tells (decimal_digit 1 (omega arith)) third) (ap₂ tells (decimal_digit 2 (omega arith)) third)

-- the first failed in writing, the left file could not be read to its end
two_faults : query_lines (ends.WriteFault ∷ ends.ReadFault files.Left ∷ [])
    ≡ codes "saber: query 1: write fault" ++ 10 ∷ codes "saber: query 2: left: read fault" ++ 10 ∷ []
two_faults = ap₂ (λ (a b : List ℕ). line a (codes "write fault") ++ (line b (codes "left" ++ codes ": read fault") ++ [])) (decimal_digit 1 (omega arith)) (decimal_digit 2 (omega arith))

all_done : query_lines (ends.Done ∷ ends.Done ∷ []) ≡ []
all_done = refl

-- the first status that isn't 0, not the greatest
first_counts : first_status (ends.Done ∷ ends.ReadFault files.Left ∷ ends.WriteFault ∷ []) ≡ 5
first_counts = refl

-- ---- numbers that no case can have

past_all_lines : note_of (ends.ChainLineRefused 1099511627777 rows.TooManyLines) ≡ codes "saber: chain line 1099511627777: too many lines" ++ 10 ∷ []
unfolding digits
past_all_lines = refl

greatest_field : note_of (ends.ChainLineRefused 18446744073709551615 (rows.BadNumber 4294967295))
    ≡ codes "saber: chain line 18446744073709551615: bad number in field 4294967295" ++ 10 ∷ []
unfolding digits
greatest_field = refl

last_byte : note_of (ends.SecondQueryFault 18446744073709551615 causes.ExprTooWide)
    ≡ codes "saber: second query byte 18446744073709551615: expression too wide" ++ 10 ∷ []
unfolding digits
last_byte = refl
