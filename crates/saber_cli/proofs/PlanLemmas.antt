-- The plans of a chain's queries, and why there are none.
use Rattle.std.proofs.Common.{◌≡◌, ℕ, List, length, Option, true, false, inl, inr, sym, ◌∙◌, subst}
use Rattle.saber_io.specs.Outside.{FilesView}
use Rattle.saber_plan.specs.Trees.{Tree}
use Rattle.saber_words.specs.Chain.{AskedChain}
use Rattle.saber_notes.specs.declared.outcome.InputFile.TheVariants.{Query, Left, Right, SecondQuery}
use Rattle.saber_notes.specs.declared.outcome.Outcome.{Outcome}
use Rattle.saber_notes.specs.declared.outcome.Outcome.TheVariants.{Done, Usage, FileCount, QueryFault, SecondQueryFault, Unchainable, LineRefused, ChainLineRefused, OpenFault, ReadFault, TooWide, WriteFault, NoMemory}
use Rattle.saber_check.specs.Texts.{HasPlan}
use Rattle.saber_cli.specs.Outcomes.{IsOfPlan, IsOfPlans, IsOfRun, IsOfSecond, IsOfShow}
use Rattle.saber_cli.specs.Texts.{BeginsFile}
use Rattle.saber_cli.specs.Planned.{IsTextFault}
use Rattle.saber_cli.specs.Puts.{IsOfPut}
use Rattle.saber_cli.specs.Uses.{Uses, unasked, unopened, used, IsOpened, IsOfQuery}
use Rattle.saber_cli.specs.Due.{Contents, first_run, row_names, IsPlanned}
use Rattle.saber_cli.specs.Chained.{HasPlans, HasReason, MayBeFirst}
use Rattle.saber_cli.specs.Chaining.{IsMisfit, LacksPlan, MayNotBeFirst}
use Rattle.saber_cli.proofs.DueLemmas.{begun_plan, begun_fault}

-- ---- one query

-- the plan that was read is that of the whole text
pub planned_of : (files : Contents) (name text : List ℕ) (q : Tree) → BeginsFile files name text → HasPlan text q → IsPlanned files name q
planned_of files name text q b h = let w = begun_plan files name text q b h in record { text = w.0; there = w.1; plan = w.2 }

pub query_lacks_plan : (files : Contents) (name : List ℕ) (o : Outcome) → IsOfQuery o → LacksPlan files name o
query_lacks_plan files name Done h = absurd h
query_lacks_plan files name Usage h = absurd h
query_lacks_plan files name (FileCount streams given) h = absurd h
query_lacks_plan files name (QueryFault place why) h = absurd h
query_lacks_plan files name (SecondQueryFault place why) h = absurd h
query_lacks_plan files name (Unchainable which) h = absurd h
query_lacks_plan files name (LineRefused side line why) h = absurd h
query_lacks_plan files name (ChainLineRefused line why) h = absurd h
query_lacks_plan files name (OpenFault Query) h = tt
query_lacks_plan files name (OpenFault Left) h = absurd h
query_lacks_plan files name (OpenFault Right) h = absurd h
query_lacks_plan files name (OpenFault SecondQuery) h = absurd h
query_lacks_plan files name (ReadFault Query) h = tt
query_lacks_plan files name (ReadFault Left) h = absurd h
query_lacks_plan files name (ReadFault Right) h = absurd h
query_lacks_plan files name (ReadFault SecondQuery) h = absurd h
query_lacks_plan files name (TooWide task need cells) h = absurd h
query_lacks_plan files name WriteFault h = absurd h
query_lacks_plan files name NoMemory h = tt

pub text_lacks_plan : (files : Contents) (name text : List ℕ) (o : Outcome) → BeginsFile files name text → IsTextFault text o → LacksPlan files name o
text_lacks_plan files name text Done b h = absurd h
text_lacks_plan files name text Usage b h = absurd h
text_lacks_plan files name text (FileCount streams given) b h = absurd h
text_lacks_plan files name text (QueryFault place why) b h = begun_fault files name text place why b h
text_lacks_plan files name text (SecondQueryFault place why) b h = absurd h
text_lacks_plan files name text (Unchainable which) b h = absurd h
text_lacks_plan files name text (LineRefused side line why) b h = absurd h
text_lacks_plan files name text (ChainLineRefused line why) b h = absurd h
text_lacks_plan files name text (OpenFault file) b h = absurd h
text_lacks_plan files name text (ReadFault file) b h = absurd h
text_lacks_plan files name text (TooWide task need cells) b h = absurd h
text_lacks_plan files name text WriteFault b h = absurd h
text_lacks_plan files name text NoMemory b h = tt

pub query_kinds : (o : Outcome) → IsOfQuery o → IsOfPlan o
query_kinds Done h = absurd h
query_kinds Usage h = absurd h
query_kinds (FileCount streams given) h = absurd h
query_kinds (QueryFault place why) h = absurd h
query_kinds (SecondQueryFault place why) h = absurd h
query_kinds (Unchainable which) h = absurd h
query_kinds (LineRefused side line why) h = absurd h
query_kinds (ChainLineRefused line why) h = absurd h
query_kinds (OpenFault Query) h = tt
query_kinds (OpenFault Left) h = absurd h
query_kinds (OpenFault Right) h = absurd h
query_kinds (OpenFault SecondQuery) h = absurd h
query_kinds (ReadFault Query) h = tt
query_kinds (ReadFault Left) h = absurd h
query_kinds (ReadFault Right) h = absurd h
query_kinds (ReadFault SecondQuery) h = absurd h
query_kinds (TooWide task need cells) h = absurd h
query_kinds WriteFault h = absurd h
query_kinds NoMemory h = tt

refused_opened : (text : List ℕ) (o : Outcome) → IsTextFault text o → IsOpened o
refused_opened text Done h = absurd h
refused_opened text Usage h = absurd h
refused_opened text (FileCount streams given) h = absurd h
refused_opened text (QueryFault place why) h = tt
refused_opened text (SecondQueryFault place why) h = absurd h
refused_opened text (Unchainable which) h = absurd h
refused_opened text (LineRefused side line why) h = absurd h
refused_opened text (ChainLineRefused line why) h = absurd h
refused_opened text (OpenFault file) h = absurd h
refused_opened text (ReadFault file) h = absurd h
refused_opened text (TooWide task need cells) h = absurd h
refused_opened text WriteFault h = absurd h
refused_opened text NoMemory h = tt

-- a text that was refused came of a file that was read
pub uses_refused : (name text : List ℕ) (o : Outcome) (old new : Option FilesView) → IsTextFault text o → Uses Query name Done old new → Uses Query name o old new
uses_refused name text o old new h (unasked e s) = cc
uses_refused name text o old new h (unopened e s) = cc
uses_refused name text o old new h (used left faults f c i p s) = used left faults (λ e. absurd (subst (IsTextFault text) e h)) (λ k. c tt) i (refused_opened text o h) s

-- ---- the second query, as it is told

pub first_kinds : (o : Outcome) → IsOfPlan o → IsOfPlans o
first_kinds Done h = absurd h
first_kinds Usage h = absurd h
first_kinds (FileCount streams given) h = absurd h
first_kinds (QueryFault place why) h = tt
first_kinds (SecondQueryFault place why) h = absurd h
first_kinds (Unchainable which) h = absurd h
first_kinds (LineRefused side line why) h = absurd h
first_kinds (ChainLineRefused line why) h = absurd h
first_kinds (OpenFault Query) h = tt
first_kinds (OpenFault Left) h = absurd h
first_kinds (OpenFault Right) h = absurd h
first_kinds (OpenFault SecondQuery) h = absurd h
first_kinds (ReadFault Query) h = tt
first_kinds (ReadFault Left) h = absurd h
first_kinds (ReadFault Right) h = absurd h
first_kinds (ReadFault SecondQuery) h = absurd h
first_kinds (TooWide task need cells) h = absurd h
first_kinds WriteFault h = absurd h
first_kinds NoMemory h = tt

-- ---- why nothing is run

pub first_reason : (files : Contents) (a : AskedChain) (o : Outcome) → LacksPlan files a.first o → HasReason files a o
first_reason files a Done h = absurd h
first_reason files a Usage h = absurd h
first_reason files a (FileCount streams given) h = absurd h
first_reason files a (QueryFault place why) h = h
first_reason files a (SecondQueryFault place why) h = absurd h
first_reason files a (Unchainable which) h = absurd h
first_reason files a (LineRefused side line why) h = absurd h
first_reason files a (ChainLineRefused line why) h = absurd h
first_reason files a (OpenFault Query) h = tt
first_reason files a (OpenFault Left) h = absurd h
first_reason files a (OpenFault Right) h = absurd h
first_reason files a (OpenFault SecondQuery) h = absurd h
first_reason files a (ReadFault Query) h = tt
first_reason files a (ReadFault Left) h = absurd h
first_reason files a (ReadFault Right) h = absurd h
first_reason files a (ReadFault SecondQuery) h = absurd h
first_reason files a (TooWide task need cells) h = absurd h
first_reason files a WriteFault h = absurd h
first_reason files a NoMemory h = tt

not_first : (p : Tree) → MayNotBeFirst p → ¬ (MayBeFirst p)
not_first p (inl e) m = let clash : true ≡ false = sym m.windowed ∙ e in cc
not_first p (inr n) m = n m.in_order

pub misfit_reason : (files : Contents) (a : AskedChain) (p q : Tree) (n : ℕ) (o : Outcome) → HasPlans files a p q → n ≡ length (row_names (first_run a)) → IsMisfit p q n o → HasReason files a o
misfit_reason files a p q n Done u e h = absurd h
misfit_reason files a p q n Usage u e h = absurd h
misfit_reason files a p q n (FileCount streams given) u e h = (p, q, u, h.0, h.1, sym e ∙ h.2, h.3)
misfit_reason files a p q n (QueryFault place why) u e h = absurd h
misfit_reason files a p q n (SecondQueryFault place why) u e h = absurd h
misfit_reason files a p q n (Unchainable Query) u e h = (p, q, u, not_first p h)
misfit_reason files a p q n (Unchainable Left) u e h = absurd h
misfit_reason files a p q n (Unchainable Right) u e h = absurd h
misfit_reason files a p q n (Unchainable SecondQuery) u e h = (p, q, u, h.0, h.1)
misfit_reason files a p q n (LineRefused side line why) u e h = absurd h
misfit_reason files a p q n (ChainLineRefused line why) u e h = absurd h
misfit_reason files a p q n (OpenFault file) u e h = absurd h
misfit_reason files a p q n (ReadFault file) u e h = absurd h
misfit_reason files a p q n (TooWide task need cells) u e h = absurd h
misfit_reason files a p q n WriteFault u e h = absurd h
misfit_reason files a p q n NoMemory u e h = absurd h

-- ---- what no other command comes to

pub query_alone : (o : Outcome) → IsOfQuery o → IsOfSecond o → ⊥
query_alone Done h k = h
query_alone Usage h k = h
query_alone (FileCount streams given) h k = h
query_alone (QueryFault place why) h k = h
query_alone (SecondQueryFault place why) h k = h
query_alone (Unchainable which) h k = h
query_alone (LineRefused side line why) h k = h
query_alone (ChainLineRefused line why) h k = h
query_alone (OpenFault Query) h k = k
query_alone (OpenFault Left) h k = h
query_alone (OpenFault Right) h k = h
query_alone (OpenFault SecondQuery) h k = h
query_alone (ReadFault Query) h k = k
query_alone (ReadFault Left) h k = h
query_alone (ReadFault Right) h k = h
query_alone (ReadFault SecondQuery) h k = h
query_alone (TooWide task need cells) h k = h
query_alone WriteFault h k = h
query_alone NoMemory h k = k

pub text_alone : (text : List ℕ) (o : Outcome) → IsTextFault text o → IsOfSecond o → ⊥
text_alone text Done h k = h
text_alone text Usage h k = h
text_alone text (FileCount streams given) h k = h
text_alone text (QueryFault place why) h k = k
text_alone text (SecondQueryFault place why) h k = h
text_alone text (Unchainable which) h k = h
text_alone text (LineRefused side line why) h k = h
text_alone text (ChainLineRefused line why) h k = h
text_alone text (OpenFault file) h k = h
text_alone text (ReadFault file) h k = h
text_alone text (TooWide task need cells) h k = h
text_alone text WriteFault h k = h
text_alone text NoMemory h k = k

pub run_alone : (o : Outcome) → IsOfRun o → IsOfSecond o → ⊥
run_alone Done h k = k
run_alone Usage h k = h
run_alone (FileCount streams given) h k = h
run_alone (QueryFault place why) h k = h
run_alone (SecondQueryFault place why) h k = h
run_alone (Unchainable which) h k = h
run_alone (LineRefused side line why) h k = k
run_alone (ChainLineRefused line why) h k = h
run_alone (OpenFault Query) h k = h
run_alone (OpenFault Left) h k = k
run_alone (OpenFault Right) h k = k
run_alone (OpenFault SecondQuery) h k = h
run_alone (ReadFault Query) h k = h
run_alone (ReadFault Left) h k = k
run_alone (ReadFault Right) h k = k
run_alone (ReadFault SecondQuery) h k = h
run_alone (TooWide task need cells) h k = k
run_alone WriteFault h k = k
run_alone NoMemory h k = k

pub show_alone : (o : Outcome) → IsOfShow o → IsOfSecond o → ⊥
show_alone Done h k = k
show_alone Usage h k = h
show_alone (FileCount streams given) h k = h
show_alone (QueryFault place why) h k = k
show_alone (SecondQueryFault place why) h k = h
show_alone (Unchainable which) h k = h
show_alone (LineRefused side line why) h k = h
show_alone (ChainLineRefused line why) h k = h
show_alone (OpenFault file) h k = h
show_alone (ReadFault file) h k = h
show_alone (TooWide task need cells) h k = h
show_alone WriteFault h k = k
show_alone NoMemory h k = k

pub put_alone : (o : Outcome) → IsOfPut o → IsOfSecond o → ⊥
put_alone Done h k = k
put_alone Usage h k = h
put_alone (FileCount streams given) h k = h
put_alone (QueryFault place why) h k = h
put_alone (SecondQueryFault place why) h k = h
put_alone (Unchainable which) h k = h
put_alone (LineRefused side line why) h k = h
put_alone (ChainLineRefused line why) h k = h
put_alone (OpenFault file) h k = h
put_alone (ReadFault file) h k = h
put_alone (TooWide task need cells) h k = h
put_alone WriteFault h k = k
put_alone NoMemory h k = k
