-- Kinds of outcomes.
use Rattle.saber_notes.specs.declared.outcome.InputFile.TheVariants.{Query, Left, Right, SecondQuery}
use Rattle.saber_notes.specs.declared.outcome.Outcome.{Outcome}
use Rattle.saber_notes.specs.declared.outcome.Outcome.TheVariants.{Done, Usage, FileCount, QueryFault, SecondQueryFault, Unchainable, LineRefused, ChainLineRefused, OpenFault, ReadFault, TooWide, WriteFault, NoMemory}

-- a file was not opened or not read
abbrev pub IsFileFault : Outcome → Type 0
IsFileFault (OpenFault file) = Unit {0}
IsFileFault (ReadFault file) = Unit {0}
IsFileFault _ = ⊥

-- the query file was not opened or not read
abbrev pub IsQueryUnread : Outcome → Type 0
IsQueryUnread (OpenFault Query) = Unit {0}
IsQueryUnread (ReadFault Query) = Unit {0}
IsQueryUnread _ = ⊥

-- an answer of the words, the queries, the rows and the ring alone: nothing failed, and memory was enough
abbrev pub IsClean : Outcome → Type 0
IsClean (OpenFault file) = ⊥
IsClean (ReadFault file) = ⊥
IsClean WriteFault = ⊥
IsClean NoMemory = ⊥
IsClean _ = Unit {0}

abbrev pub IsQueryFault : Outcome → Type 0
IsQueryFault (QueryFault byte cause) = Unit {0}
IsQueryFault _ = ⊥

-- nothing was run: no row file was read, and nothing is written
abbrev pub IsBeforeRun : Outcome → Type 0
IsBeforeRun Usage = Unit {0}
IsBeforeRun (FileCount streams given) = Unit {0}
IsBeforeRun (QueryFault byte cause) = Unit {0}
IsBeforeRun (SecondQueryFault byte cause) = Unit {0}
IsBeforeRun (Unchainable file) = Unit {0}
IsBeforeRun (OpenFault file) = Unit {0}
IsBeforeRun (ReadFault Query) = Unit {0}
IsBeforeRun (ReadFault SecondQuery) = Unit {0}
IsBeforeRun _ = ⊥

-- a row file was not opened
abbrev pub IsUnopened : Outcome → Type 0
IsUnopened (OpenFault Left) = Unit {0}
IsUnopened (OpenFault Right) = Unit {0}
IsUnopened NoMemory = Unit {0}
IsUnopened _ = ⊥

-- how a run over its row files can end
abbrev pub IsOfRun : Outcome → Type 0
IsOfRun Done = Unit {0}
IsOfRun (LineRefused side line cause) = Unit {0}
IsOfRun (OpenFault Left) = Unit {0}
IsOfRun (OpenFault Right) = Unit {0}
IsOfRun (ReadFault Left) = Unit {0}
IsOfRun (ReadFault Right) = Unit {0}
IsOfRun (TooWide task need ring) = Unit {0}
IsOfRun WriteFault = Unit {0}
IsOfRun NoMemory = Unit {0}
IsOfRun _ = ⊥

-- of a second query, so of a chain alone
abbrev pub IsOfSecond : Outcome → Type 0
IsOfSecond (SecondQueryFault byte cause) = Unit {0}
IsOfSecond (Unchainable file) = Unit {0}
IsOfSecond (ChainLineRefused line cause) = Unit {0}
IsOfSecond (OpenFault SecondQuery) = Unit {0}
IsOfSecond (ReadFault SecondQuery) = Unit {0}
IsOfSecond _ = ⊥

-- how a chain over its row files can end
abbrev pub IsOfChain : Outcome → Type 0
IsOfChain (ChainLineRefused line cause) = Unit {0}
IsOfChain o = IsOfRun o

-- why there is no plan of a query
abbrev pub IsOfPlan : Outcome → Type 0
IsOfPlan (QueryFault byte cause) = Unit {0}
IsOfPlan (OpenFault Query) = Unit {0}
IsOfPlan (ReadFault Query) = Unit {0}
IsOfPlan NoMemory = Unit {0}
IsOfPlan _ = ⊥

-- why there are no two plans that chain
abbrev pub IsOfPlans : Outcome → Type 0
IsOfPlans (QueryFault byte cause) = Unit {0}
IsOfPlans (SecondQueryFault byte cause) = Unit {0}
IsOfPlans (Unchainable file) = Unit {0}
IsOfPlans (FileCount streams given) = Unit {0}
IsOfPlans (OpenFault Query) = Unit {0}
IsOfPlans (OpenFault SecondQuery) = Unit {0}
IsOfPlans (ReadFault Query) = Unit {0}
IsOfPlans (ReadFault SecondQuery) = Unit {0}
IsOfPlans NoMemory = Unit {0}
IsOfPlans _ = ⊥

-- before there is any text, and with no end of the rows
abbrev pub IsNoEnd : Outcome → Type 0
IsNoEnd (OpenFault file) = Unit {0}
IsNoEnd (ReadFault file) = Unit {0}
IsNoEnd NoMemory = Unit {0}
IsNoEnd _ = ⊥

-- how the check of a text can end
abbrev pub IsOfShow : Outcome → Type 0
IsOfShow Done = Unit {0}
IsOfShow (QueryFault byte cause) = Unit {0}
IsOfShow WriteFault = Unit {0}
IsOfShow NoMemory = Unit {0}
IsOfShow _ = ⊥

-- nothing is run, or nothing comes of it
abbrev pub IsEarly : Outcome → Type 0
IsEarly (FileCount streams given) = Unit {0}
IsEarly (QueryFault byte cause) = Unit {0}
IsEarly (OpenFault file) = Unit {0}
IsEarly (ReadFault file) = Unit {0}
IsEarly NoMemory = Unit {0}
IsEarly _ = ⊥
