-- What the statements on a chain say, and what they refuse.
use Rattle.std.proofs.Common.{◌≡◌, ◌⊎◌, inl, inr, ℕ, List, Some, true, false, refl, sym, ◌∙◌, subst}
use Rattle.saber_plan.specs.Outputs.{appended_text}
use Rattle.saber_plan.specs.Inputs.{going_on}
use Rattle.saber_plan.specs.Sizes.{limits_of}
use Rattle.saber_plan.specs.Trees.{Tree}
use Rattle.saber_words.specs.Chain.{AskedChain}
use Rattle.saber_query.specs.declared.fault.Cause.{Cause}
use Rattle.saber_check.specs.Texts.{HasPlan, HasFault}
use Rattle.saber_plan.specs.declared.rows.RowCause.{RowCause}
use Rattle.saber_plan.specs.declared.rows.Side.{Side}
use Rattle.saber_plan.specs.declared.ends.RunEnd.{RunEnd}
use Rattle.saber_plan.specs.declared.ends.RunEnd.TheVariants as ends
use Rattle.saber_plan.specs.Files.{input_of}
use Rattle.saber_chain.specs.Sinks.{SinkSeen}
use Rattle.saber_chain.specs.Texts.{text_of_both}
use Rattle.saber_notes.specs.declared.outcome.InputFile.TheVariants.{Query, Left, Right, SecondQuery}
use Rattle.saber_notes.specs.declared.outcome.Outcome.{Outcome}
use Rattle.saber_notes.specs.declared.outcome.Outcome.TheVariants.{Done, Usage, FileCount, QueryFault, SecondQueryFault, Unchainable, LineRefused, ChainLineRefused, OpenFault, ReadFault, TooWide, WriteFault, NoMemory}
use Rattle.saber_check.proofs.FaultLaws.{one_fault}
use Rattle.saber_check.proofs.TextLaws.{fault_or_plan}
use Rattle.saber_cli.specs.Outcomes.{IsQueryUnread}
use Rattle.saber_cli.specs.Endings.{chained_as, file_on}
use Rattle.saber_cli.specs.Due.{Contents, IsFaulty, contents_of, first_run, row_names, IsPlanned}
use Rattle.saber_cli.specs.Chained.{AsksChainRows, ChainsOver, HasReason, not_run, both_run}
use Rattle.saber_cli.proofs.DueLemmas.{same_refusal}

-- a file has one text
planned_or_fault : (files : Contents) (name : List ℕ) (q : Tree) (byte : ℕ) (cause : Cause) → IsPlanned files name q → IsFaulty files name byte cause → ⊥
planned_or_fault files name q byte cause p f =
    let both : Some p.text ≡ Some f.0 = sym p.there ∙ f.1 in
    let same : p.text ≡ f.0 = cc in
    fault_or_plan f.0 byte cause q f.2 (subst (λ t. HasPlan t q) same p.plan)

fault_is : (files : Contents) (name : List ℕ) (byte other : ℕ) (cause another : Cause) → IsFaulty files name byte cause → IsFaulty files name other another → QueryFault byte cause ≡ QueryFault other another
fault_is files name byte other cause another f h =
    let both : Some f.0 ≡ Some h.0 = sym f.1 ∙ h.1 in
    let same : f.0 ≡ h.0 = cc in
    same_refusal byte other cause another (one_fault h.0 byte other cause another (subst (λ t. HasFault t byte cause) same f.2) h.2)

-- a first query with a fault is told, and nothing behind it is asked for
told_fault : (files : Contents) (a : AskedChain) (o : Outcome) (byte : ℕ) (cause : Cause) → IsFaulty files a.first byte cause → HasReason files a o → (o ≡ QueryFault byte cause) ⊎ (IsQueryUnread o ⊎ (o ≡ NoMemory))
told_fault files a Done byte cause f h = absurd h
told_fault files a Usage byte cause f h = absurd h
told_fault files a (FileCount streams given) byte cause f h = absurd (planned_or_fault files a.first h.0 byte cause h.2.first f)
told_fault files a (QueryFault place why) byte cause f h = inl (fault_is files a.first place byte why cause h f)
told_fault files a (SecondQueryFault place why) byte cause f h = absurd (planned_or_fault files a.first h.0 byte cause h.1 f)
told_fault files a (Unchainable Query) byte cause f h = absurd (planned_or_fault files a.first h.0 byte cause h.2.first f)
told_fault files a (Unchainable Left) byte cause f h = absurd h
told_fault files a (Unchainable Right) byte cause f h = absurd h
told_fault files a (Unchainable SecondQuery) byte cause f h = absurd (planned_or_fault files a.first h.0 byte cause h.2.first f)
told_fault files a (LineRefused side line why) byte cause f h = absurd h
told_fault files a (ChainLineRefused line why) byte cause f h = absurd h
told_fault files a (OpenFault Query) byte cause f h = inr (inl tt)
told_fault files a (OpenFault Left) byte cause f h = absurd (planned_or_fault files a.first h.first byte cause h.plans.first f)
told_fault files a (OpenFault Right) byte cause f h = absurd (planned_or_fault files a.first h.first byte cause h.plans.first f)
told_fault files a (OpenFault SecondQuery) byte cause f h = absurd (planned_or_fault files a.first h.0 byte cause h.1 f)
told_fault files a (ReadFault Query) byte cause f h = inr (inl tt)
told_fault files a (ReadFault Left) byte cause f h = absurd h
told_fault files a (ReadFault Right) byte cause f h = absurd h
told_fault files a (ReadFault SecondQuery) byte cause f h = absurd (planned_or_fault files a.first h.0 byte cause h.1 f)
told_fault files a (TooWide task need cells) byte cause f h = absurd h
told_fault files a WriteFault byte cause f h = absurd h
told_fault files a NoMemory byte cause f h = inr (inr refl)

first_fault_told : (files : Contents) (leaves : Tree → RunEnd → ℕ → Type 0) (a : AskedChain) (o : Outcome) (tasks : ℕ) (had has : SinkSeen) (byte : ℕ) (cause : Cause) → IsFaulty files a.first byte cause → ChainsOver files leaves a o tasks had has → (o ≡ QueryFault byte cause) ⊎ (IsQueryUnread o ⊎ (o ≡ NoMemory))
first_fault_told files leaves a o tasks had has byte cause f (not_run h t n) = told_fault files a o byte cause f h
first_fault_told files leaves a o tasks had has byte cause f (both_run r all e k) = absurd (planned_or_fault files a.first r.first byte cause r.plans.first f)

-- what is told as done was run, and the text of both went out
done_is_text : (files : Contents) (leaves : Tree → RunEnd → ℕ → Type 0) (a : AskedChain) (tasks : ℕ) (had has : SinkSeen) → ChainsOver files leaves a Done tasks had has
    → (r : AsksChainRows files a) × (all : List (List ℕ)) × (contents_of files (row_names (first_run a)) ≡ Some all) × (has.written ≡ appended_text had.written (text_of_both r.first r.second (going_on (input_of r.first (limits_of a.sizes) all).rows)))
done_is_text files leaves a tasks had has (not_run h t n) = absurd h
done_is_text files leaves a tasks had has (both_run r all e k) = (r, all, e, k.whole tt)

-- where the second query's stage was stopped for want of memory, that is told whatever the first one came to; where its rows ended so, behind what cut the first
-- one off, and before a line that the first one refuses
stopped_is_first : (ring : ℕ) (first : RunEnd) → chained_as ring first ends.NoMemory true ≡ NoMemory
stopped_is_first ring first = refl

read_fault_is_first : (ring : ℕ) (side : Side) → chained_as ring (ends.ReadFault side) ends.NoMemory false ≡ ReadFault (file_on side)
read_fault_is_first ring side = refl

wide_is_first : (ring task need : ℕ) → chained_as ring (ends.TooWide task need) ends.NoMemory false ≡ TooWide task need ring
wide_is_first ring task need = refl

line_is_last : (ring line : ℕ) (side : Side) (cause : RowCause) → chained_as ring (ends.Bad side line cause) ends.NoMemory false ≡ NoMemory
line_is_last ring line side cause = refl
