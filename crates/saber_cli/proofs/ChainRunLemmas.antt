-- A chain over row files that are opened, run and given back.
use Rattle.std.proofs.Common.{◌≡◌, ◌≢◌, ℕ, suc, List, [], ◌∷◌, length, map, Option, Some, None, IfSome, refl, sym, ◌∙◌, ap, subst, arith}
use Rattle.std.proofs.lemmas.List.{take_all}
use Rattle.std.specs.Prelude.{Bool, true, false}
use Rattle.saber_io.specs.Outside.{FilesView, Closed}
use Rattle.saber_plan.specs.Outputs.{Rose, appended_text}
use Rattle.saber_io.specs.declared.feeds.EndMark.TheVariants as marks
use Rattle.saber_plan.specs.declared.rows.Side.{Side}
use Rattle.saber_plan.specs.declared.rows.Side.TheVariants as sides
use Rattle.saber_plan.specs.declared.sizes.Sizes.{Sizes}
use Rattle.saber_plan.specs.Sizes.{limits_of}
use Rattle.saber_plan.specs.Inputs.{going_on}
use Rattle.saber_plan.specs.Trees.{Tree}
use Rattle.saber_words.specs.Chain.{AskedChain}
use Rattle.saber_words.specs.Commands.{chain, command_of}
use Rattle.saber_words.specs.declared.commands.WordsFault.{WordsFault}
use Rattle.saber_words.specs.declared.commands.WordsFault.TheVariants as fault
use Rattle.saber_dispatch.specs.declared.inputs.Inputs.{Inputs}
use Rattle.saber_plan.specs.declared.ends.RunEnd.{RunEnd}
use Rattle.saber_plan.specs.declared.ends.RunEnd.TheVariants as ends
use Rattle.saber_engine.specs.Sources.{each_input, told_by, RoseAt, GaveAll}
use Rattle.saber_plan.specs.Files.{input_of}
use Rattle.saber_engine.specs.Endings.{MayStop}
use Rattle.saber_engine.specs.Gives as engine
use Rattle.saber_plan.specs.Runs as run_defs
use Rattle.saber_chain.specs.Sinks.{SinkSeen}
use Rattle.saber_chain.specs.Texts.{text_of_both}
use Rattle.saber_chain.specs.Marks.{IsWhole, IsShort}
use Rattle.saber_chain.specs.declared.chained.Chained.{Chained}
use Rattle.saber_chain.specs.Chains.{Chains}
use Rattle.saber_chain.specs.Stops.{SecondStops, stopped_of}
use Rattle.saber_notes.specs.declared.outcome.InputFile.TheVariants.{Query, Left, Right, SecondQuery}
use Rattle.saber_notes.specs.declared.outcome.Outcome.{Outcome}
use Rattle.saber_notes.specs.declared.outcome.Outcome.TheVariants.{Done, Usage, FileCount, QueryFault, SecondQueryFault, Unchainable, LineRefused, ChainLineRefused, OpenFault, ReadFault, TooWide, WriteFault, NoMemory}
use Rattle.saber_cli.specs.Outcomes.{IsBeforeRun, IsClean, IsFileFault, IsOfChain, IsOfRun, IsOfSecond, IsUnopened}
use Rattle.saber_cli.specs.Uses.{IsOpened}
use Rattle.saber_cli.specs.Unread.{unread}
use Rattle.saber_cli.specs.Due.{Contents, IsLike, contents_of, first_run, row_names}
use Rattle.saber_cli.specs.Endings.{chained_as, ended_as, file_on, unless_cut}
use Rattle.saber_cli.specs.Leaves.{HadFaults, HadNoFaults, Matches}
use Rattle.saber_cli.specs.RowFiles.{OpensAll, raised_by, after_use}
use Rattle.saber_cli.specs.Chained.{AnswersChain, AsksChainRows, ChainsOver, CutTakesChain, HasPlans, HasReason, IsAnswered, IsChainable, RunsChain, not_run, both_run}
use Rattle.saber_cli.specs.Taken.{TakesOf, TakesRows}
use Rattle.saber_cli.specs.Chaining.{BothRead, ChainedIn, ChainedTold, CutTakes, RunsChainSo, UsesChainRows, all_run, none_run}
use Rattle.saber_cli.proofs.FileLemmas.{rose_some}
use Rattle.saber_cli.proofs.AnsweredLemmas.{clean_by, read_by, write_by}
use Rattle.saber_cli.proofs.RowLemmas.{all_told, back_length, backs, both_used, faults_of, gave_length, lefts_of, no_faults_same, of_told, run_cause, run_takes}
use Rattle.saber_cli.proofs.RunLemmas.{some_map}

-- ---- the ends of both as one outcome

-- of a first query that ended so, an outcome that is no fault of writing
cut_write : (ring : ℕ) (o : Outcome) (e : RunEnd) → o ≢ WriteFault → unless_cut ring e o ≡ WriteFault → e ≡ ends.WriteFault
cut_write ring o ends.AllRead n k = absurd (n k)
cut_write ring o (ends.Bad side line cause) n k = absurd (n k)
cut_write ring o (ends.ReadFault side) n k = cc
cut_write ring o (ends.TooWide task need) n k = cc
cut_write ring o ends.WriteFault n k = refl
cut_write ring o ends.NoMemory n k = cc

-- a fault of writing is the second one's
pub chained_write : (ring : ℕ) (first second : RunEnd) (stopped : Bool) → first ≢ ends.WriteFault → chained_as ring first second stopped ≡ WriteFault → second ≡ ends.WriteFault
chained_write ring first ends.AllRead stopped n k = absurd (n (write_by ring first k))
chained_write ring first (ends.Bad side line cause) stopped n k = absurd (n (cut_write ring (ChainLineRefused line cause) first (λ e. cc) k))
chained_write ring first (ends.ReadFault side) stopped n k = absurd (n (write_by ring first k))
chained_write ring first (ends.TooWide task need) stopped n k = absurd (n (write_by ring first k))
chained_write ring first ends.WriteFault stopped n k = refl
chained_write ring first ends.NoMemory true n k = cc
chained_write ring first ends.NoMemory false n k = absurd (n (cut_write ring NoMemory first (λ e. cc) k))

cut_read : (ring : ℕ) (o : Outcome) (e : RunEnd) (side : Side) → o ≢ ReadFault (file_on side) → unless_cut ring e o ≡ ReadFault (file_on side) → e ≡ ends.ReadFault side
cut_read ring o ends.AllRead side n k = absurd (n k)
cut_read ring o (ends.Bad s line cause) side n k = absurd (n k)
cut_read ring o (ends.ReadFault s) side n k = read_by ring (ends.ReadFault s) side k
cut_read ring o (ends.TooWide task need) side n k = cc
cut_read ring o ends.WriteFault side n k = cc
cut_read ring o ends.NoMemory side n k = cc

-- and one of reading the first one's
pub chained_read : (ring : ℕ) (first second : RunEnd) (stopped : Bool) (side : Side) → chained_as ring first second stopped ≡ ReadFault (file_on side) → first ≡ ends.ReadFault side
chained_read ring first ends.AllRead stopped side k = read_by ring first side k
chained_read ring first (ends.Bad s line cause) stopped side k = cut_read ring (ChainLineRefused line cause) first side (λ e. cc) k
chained_read ring first (ends.ReadFault s) stopped side k = read_by ring first side k
chained_read ring first (ends.TooWide task need) stopped side k = read_by ring first side k
chained_read ring first ends.WriteFault stopped side k = cc
chained_read ring first ends.NoMemory true side k = cc
chained_read ring first ends.NoMemory false side k = cut_read ring NoMemory first side (λ e. cc) k

cut_clean : (ring : ℕ) (o : Outcome) (e : RunEnd) → IsClean (unless_cut ring e o) → run_defs.IsClean e
cut_clean ring o ends.AllRead w = tt
cut_clean ring o (ends.Bad side line cause) w = tt
cut_clean ring o (ends.ReadFault side) w = absurd w
cut_clean ring o (ends.TooWide task need) w = tt
cut_clean ring o ends.WriteFault w = absurd w
cut_clean ring o ends.NoMemory w = absurd w

pub chained_clean : (ring : ℕ) (first second : RunEnd) (stopped : Bool) → IsClean (chained_as ring first second stopped) → run_defs.IsClean first
chained_clean ring first ends.AllRead stopped w = clean_by ring first w
chained_clean ring first (ends.Bad s line cause) stopped w = cut_clean ring (ChainLineRefused line cause) first w
chained_clean ring first (ends.ReadFault s) stopped w = clean_by ring first w
chained_clean ring first (ends.TooWide task need) stopped w = clean_by ring first w
chained_clean ring first ends.WriteFault stopped w = absurd w
chained_clean ring first ends.NoMemory true w = absurd w
chained_clean ring first ends.NoMemory false w = cut_clean ring NoMemory first w

ended_kinds : (ring : ℕ) (e : RunEnd) → IsOfChain (ended_as ring e)
ended_kinds ring ends.AllRead = tt
ended_kinds ring (ends.Bad side line cause) = tt
ended_kinds ring (ends.ReadFault sides.Left) = tt
ended_kinds ring (ends.ReadFault sides.Right) = tt
ended_kinds ring (ends.TooWide task need) = tt
ended_kinds ring ends.WriteFault = tt
ended_kinds ring ends.NoMemory = tt

cut_kinds : (ring : ℕ) (o : Outcome) (e : RunEnd) → IsOfChain o → IsOfChain (unless_cut ring e o)
cut_kinds ring o ends.AllRead h = h
cut_kinds ring o (ends.Bad side line cause) h = h
cut_kinds ring o (ends.ReadFault side) h = ended_kinds ring (ends.ReadFault side)
cut_kinds ring o (ends.TooWide task need) h = tt
cut_kinds ring o ends.WriteFault h = tt
cut_kinds ring o ends.NoMemory h = tt

pub chained_kinds : (ring : ℕ) (first second : RunEnd) (stopped : Bool) → IsOfChain (chained_as ring first second stopped)
chained_kinds ring first ends.AllRead stopped = ended_kinds ring first
chained_kinds ring first (ends.Bad s line cause) stopped = cut_kinds ring (ChainLineRefused line cause) first tt
chained_kinds ring first (ends.ReadFault s) stopped = ended_kinds ring first
chained_kinds ring first (ends.TooWide task need) stopped = ended_kinds ring first
chained_kinds ring first ends.WriteFault stopped = tt
chained_kinds ring first ends.NoMemory true = tt
chained_kinds ring first ends.NoMemory false = cut_kinds ring NoMemory first tt

ended_opened : (ring : ℕ) (e : RunEnd) → IsOpened (ended_as ring e)
ended_opened ring ends.AllRead = tt
ended_opened ring (ends.Bad side line cause) = tt
ended_opened ring (ends.ReadFault side) = tt
ended_opened ring (ends.TooWide task need) = tt
ended_opened ring ends.WriteFault = tt
ended_opened ring ends.NoMemory = tt

cut_opened : (ring : ℕ) (o : Outcome) (e : RunEnd) → IsOpened o → IsOpened (unless_cut ring e o)
cut_opened ring o ends.AllRead h = h
cut_opened ring o (ends.Bad side line cause) h = h
cut_opened ring o (ends.ReadFault side) h = tt
cut_opened ring o (ends.TooWide task need) h = tt
cut_opened ring o ends.WriteFault h = tt
cut_opened ring o ends.NoMemory h = tt

pub chained_opened : (ring : ℕ) (first second : RunEnd) (stopped : Bool) → IsOpened (chained_as ring first second stopped)
chained_opened ring first ends.AllRead stopped = ended_opened ring first
chained_opened ring first (ends.Bad s line cause) stopped = cut_opened ring (ChainLineRefused line cause) first tt
chained_opened ring first (ends.ReadFault s) stopped = ended_opened ring first
chained_opened ring first (ends.TooWide task need) stopped = ended_opened ring first
chained_opened ring first ends.WriteFault stopped = tt
chained_opened ring first ends.NoMemory true = tt
chained_opened ring first ends.NoMemory false = cut_opened ring NoMemory first tt

-- ---- where all goes out, both texts are whole

ended_whole : (ring : ℕ) (e : RunEnd) → IsAnswered (ended_as ring e) → IsWhole e
ended_whole ring ends.AllRead h = refl
ended_whole ring (ends.Bad side line cause) h = refl
ended_whole ring (ends.ReadFault side) h = absurd h
ended_whole ring (ends.TooWide task need) h = absurd h
ended_whole ring ends.WriteFault h = absurd h
ended_whole ring ends.NoMemory h = absurd h

cut_whole : (ring : ℕ) (o : Outcome) (e : RunEnd) → IsAnswered (unless_cut ring e o) → IsWhole e
cut_whole ring o ends.AllRead h = refl
cut_whole ring o (ends.Bad side line cause) h = refl
cut_whole ring o (ends.ReadFault side) h = absurd h
cut_whole ring o (ends.TooWide task need) h = absurd h
cut_whole ring o ends.WriteFault h = absurd h
cut_whole ring o ends.NoMemory h = absurd h

-- behind want of memory nothing is answered to the end
lack_unanswered : (ring : ℕ) (e : RunEnd) → IsAnswered (unless_cut ring e NoMemory) → ⊥
lack_unanswered ring ends.AllRead h = h
lack_unanswered ring (ends.Bad side line cause) h = h
lack_unanswered ring (ends.ReadFault side) h = h
lack_unanswered ring (ends.TooWide task need) h = h
lack_unanswered ring ends.WriteFault h = h
lack_unanswered ring ends.NoMemory h = h

whole_or_short : (e : RunEnd) → IsWhole e → IsShort e → ⊥
whole_or_short e h k = let clash : marks.End ≡ marks.Cut = sym h ∙ k in cc

chained_whole : (ring : ℕ) (first second : RunEnd) (stopped : Bool) → ((side : Side) → second ≡ ends.ReadFault side → IsShort first) → ((task need : ℕ) → second ≢ ends.TooWide task need) → IsAnswered (chained_as ring first second stopped) → IsWhole first × IsWhole second
chained_whole ring first ends.AllRead stopped cut narrow h = (ended_whole ring first h, refl)
chained_whole ring first (ends.Bad s line cause) stopped cut narrow h = (cut_whole ring (ChainLineRefused line cause) first h, refl)
chained_whole ring first (ends.ReadFault s) stopped cut narrow h = absurd (whole_or_short first (ended_whole ring first h) (cut s refl))
chained_whole ring first (ends.TooWide task need) stopped cut narrow h = absurd (narrow task need refl)
chained_whole ring first ends.WriteFault stopped cut narrow h = absurd h
chained_whole ring first ends.NoMemory true cut narrow h = absurd h
chained_whole ring first ends.NoMemory false cut narrow h = absurd (lack_unanswered ring first h)

-- the second query's stage, as the chain tells it
may_stop : (first second : RunEnd) (told : Option Bool) → SecondStops first second told → MayStop second (stopped_of told)
may_stop first second None s = subst (λ e. MayStop e false) (sym s.1) tt
may_stop first second (Some stopped) s = s

-- both runs of a chain, by how each ended
runs_chain : {S K : Type 0} (p q : Tree) (s : Sizes) (leaves : RunEnd → ℕ → Type 0) (files : Option (List (List ℕ))) (had has : SinkSeen) (o : Outcome) (e : Chained S K) (stopped : Bool) → o ≡ chained_as s.ring e.first e.second stopped → MayStop e.second stopped → Chains p q s files had has e → leaves e.first e.first_tasks
    → e.first ≢ ends.WriteFault → (e.second ≡ ends.AllRead → IsWhole e.first) → ((side : Side) → e.second ≡ ends.ReadFault side → IsShort e.first) → ((task need : ℕ) → e.second ≢ ends.TooWide task need) → RunsChain p q s leaves files had has o e.tasks
runs_chain p q s leaves files had has o e stopped is stops g whole never all cut narrow = record {
  first = e.first;
  second = e.second;
  stopped = stopped;
  stops = stops;
  first_tasks = e.first_tasks;
  outcome = is;
  between = g.between;
  out = g.out;
  written = g.written;
  gives_first = g.gives_first;
  gives_second = g.gives_second;
  one_write = g.one_write;
  whole_tasks = g.whole_tasks;
  whole_first = whole;
  never = never;
  all = all;
  cut = cut;
  narrow = narrow;
  whole = λ h. let w = chained_whole s.ring e.first e.second stopped cut narrow (subst IsAnswered is h) in
      some_map (λ (fs : List (List ℕ)). g.out ≡ text_of_both p q (going_on (input_of p (limits_of s) fs).rows)) (λ fs. has.written ≡ appended_text had.written (text_of_both p q (going_on (input_of p (limits_of s) fs).rows))) files (λ fs k. g.written ∙ ap (appended_text had.written) k) (g.whole_text w.0 w.1);
}

-- and by what the second run tells of its stage
pub runs_so : {S K : Type 0} (p q : Tree) (s : Sizes) (leaves : RunEnd → ℕ → Type 0) (files : Option (List (List ℕ))) (had has : SinkSeen) (o : Outcome) (e : Chained S K) (stopped : Bool) → o ≡ chained_as s.ring e.first e.second stopped → stopped ≡ stopped_of e.second_stopped → SecondStops e.first e.second e.second_stopped → Chains p q s files had has e → leaves e.first e.first_tasks
    → e.first ≢ ends.WriteFault → (e.second ≡ ends.AllRead → IsWhole e.first) → ((side : Side) → e.second ≡ ends.ReadFault side → IsShort e.first) → ((task need : ℕ) → e.second ≢ ends.TooWide task need) → RunsChainSo p q s leaves files had has o e.tasks e.second_stopped
unfolding runs_chain
runs_so p q s leaves files had has o e stopped is told stops g whole never all cut narrow = (
  runs_chain p q s leaves files had has o e stopped is (subst (MayStop e.second) (sym told) (may_stop e.first e.second e.second_stopped stops)) g whole never all cut narrow,
  stops,
  told,
)

-- the same where more, or other things, are known of the first query's tasks
runs_on : (p q : Tree) (s : Sizes) (A B : RunEnd → ℕ → Type 0) (files : Option (List (List ℕ))) (had has : SinkSeen) (o : Outcome) (tasks : ℕ) → ((e : RunEnd) (n : ℕ) → A e n → B e n)
    → RunsChain p q s A files had has o tasks → RunsChain p q s B files had has o tasks
runs_on p q s A B files had has o tasks f r = record {
  first = r.first;
  second = r.second;
  stopped = r.stopped;
  stops = r.stops;
  first_tasks = r.first_tasks;
  outcome = r.outcome;
  between = r.between;
  out = r.out;
  written = r.written;
  gives_first = r.gives_first;
  gives_second = r.gives_second;
  one_write = r.one_write;
  whole_tasks = r.whole_tasks;
  whole_first = f r.first r.first_tasks r.whole_first;
  never = r.never;
  all = r.all;
  cut = r.cut;
  narrow = r.narrow;
  whole = r.whole;
}

-- ---- kinds of outcomes

pub unopened_of_chain : (o : Outcome) → IsUnopened o → IsOfChain o
unopened_of_chain Done h = absurd h
unopened_of_chain Usage h = absurd h
unopened_of_chain (FileCount streams given) h = absurd h
unopened_of_chain (QueryFault place why) h = absurd h
unopened_of_chain (SecondQueryFault place why) h = absurd h
unopened_of_chain (Unchainable which) h = absurd h
unopened_of_chain (LineRefused side line why) h = absurd h
unopened_of_chain (ChainLineRefused line why) h = absurd h
unopened_of_chain (OpenFault Query) h = absurd h
unopened_of_chain (OpenFault Left) h = tt
unopened_of_chain (OpenFault Right) h = tt
unopened_of_chain (OpenFault SecondQuery) h = absurd h
unopened_of_chain (ReadFault file) h = absurd h
unopened_of_chain (TooWide task need cells) h = absurd h
unopened_of_chain WriteFault h = absurd h
unopened_of_chain NoMemory h = tt

chain_or_run : (o : Outcome) → IsOfChain o → IsFileFault o → IsOfRun o
chain_or_run Done h k = absurd k
chain_or_run Usage h k = absurd k
chain_or_run (FileCount streams given) h k = absurd k
chain_or_run (QueryFault place why) h k = absurd k
chain_or_run (SecondQueryFault place why) h k = absurd k
chain_or_run (Unchainable which) h k = absurd k
chain_or_run (LineRefused side line why) h k = absurd k
chain_or_run (ChainLineRefused line why) h k = absurd k
chain_or_run (OpenFault file) h k = h
chain_or_run (ReadFault file) h k = h
chain_or_run (TooWide task need cells) h k = absurd k
chain_or_run WriteFault h k = absurd k
chain_or_run NoMemory h k = absurd k

pub chain_not_before : (o : Outcome) → IsOfChain o → IsOpened o → IsBeforeRun o → ⊥
chain_not_before Done h p b = b
chain_not_before Usage h p b = h
chain_not_before (FileCount streams given) h p b = h
chain_not_before (QueryFault place why) h p b = h
chain_not_before (SecondQueryFault place why) h p b = h
chain_not_before (Unchainable which) h p b = h
chain_not_before (LineRefused side line why) h p b = b
chain_not_before (ChainLineRefused line why) h p b = b
chain_not_before (OpenFault file) h p b = p
chain_not_before (ReadFault Query) h p b = h
chain_not_before (ReadFault Left) h p b = b
chain_not_before (ReadFault Right) h p b = b
chain_not_before (ReadFault SecondQuery) h p b = h
chain_not_before (TooWide task need cells) h p b = b
chain_not_before WriteFault h p b = b
chain_not_before NoMemory h p b = b

-- ---- the row files

at_left : (xs ys : List Closed) (one two : Closed) → one.1 ≡ 0 → two.1 ≡ 0 → HadNoFaults xs → RoseAt sides.Left (map (λ s. s.1) xs) (map (λ s. s.1) ys) → HadFaults 2 (one ∷ two ∷ ys) 2
at_left [] ys one two z w h r = absurd r
at_left (x ∷ xs) [] one two z w h r = absurd r
at_left (x ∷ xs) (y ∷ ys) one two z w h r = record { source = y; there = refl; faults = rose_some x.1 y.1 h.0 r; before = (z, (w, tt)) }

at_right : (xs ys : List Closed) (one two : Closed) → one.1 ≡ 0 → two.1 ≡ 0 → HadNoFaults xs → RoseAt sides.Right (map (λ s. s.1) xs) (map (λ s. s.1) ys) → HadFaults 2 (one ∷ two ∷ ys) 3
at_right [] ys one two z w h r = absurd r
at_right (x ∷ []) ys one two z w h r = absurd r
at_right (x ∷ v ∷ xs) [] one two z w h r = absurd r
at_right (x ∷ v ∷ xs) (y ∷ []) one two z w h r = absurd r
at_right (x ∷ v ∷ xs) (y ∷ u ∷ ys) one two z w h r = record { source = u; there = refl; faults = rose_some v.1 u.1 h.1.0 r; before = (z, (w, tt)) }

run_matches : (n : ℕ) (o : Outcome) (xs ys : List Closed) (one two : Closed) → IsOfChain o → IsOpened o → length ys ≡ n → HadNoFaults xs → (IsClean o → map (λ s. s.1) ys ≡ map (λ s. s.1) xs)
    → ((side : Side) → o ≡ ReadFault (file_on side) → RoseAt side (map (λ s. s.1) xs) (map (λ s. s.1) ys)) → one.1 ≡ 0 → two.1 ≡ 0 → Matches 2 (suc (suc n)) o (suc (suc n)) (one ∷ two ∷ ys)
run_matches n Done xs ys one two h p len y c r z w = record { asked_for = refl; all = omega (arith, len); good = (z, (w, no_faults_same xs ys (c tt) y)) }
run_matches n Usage xs ys one two h p len y c r z w = absurd h
run_matches n (FileCount streams given) xs ys one two h p len y c r z w = absurd h
run_matches n (QueryFault place why) xs ys one two h p len y c r z w = absurd h
run_matches n (SecondQueryFault place why) xs ys one two h p len y c r z w = absurd h
run_matches n (Unchainable which) xs ys one two h p len y c r z w = absurd h
run_matches n (LineRefused side line why) xs ys one two h p len y c r z w = record { asked_for = refl; all = omega (arith, len); good = (z, (w, no_faults_same xs ys (c tt) y)) }
run_matches n (ChainLineRefused line why) xs ys one two h p len y c r z w = record { asked_for = refl; all = omega (arith, len); good = (z, (w, no_faults_same xs ys (c tt) y)) }
run_matches n (OpenFault file) xs ys one two h p len y c r z w = absurd p
run_matches n (ReadFault Query) xs ys one two h p len y c r z w = absurd h
run_matches n (ReadFault Left) xs ys one two h p len y c r z w = (refl, omega (arith, len), at_left xs ys one two z w y (r sides.Left refl))
run_matches n (ReadFault Right) xs ys one two h p len y c r z w = (refl, omega (arith, len), at_right xs ys one two z w y (r sides.Right refl))
run_matches n (ReadFault SecondQuery) xs ys one two h p len y c r z w = absurd h
run_matches n (TooWide task need cells) xs ys one two h p len y c r z w = record { asked_for = refl; all = omega (arith, len); good = (z, (w, no_faults_same xs ys (c tt) y)) }
run_matches n WriteFault xs ys one two h p len y c r z w = (refl, omega (arith, len))
run_matches n NoMemory xs ys one two h p len y c r z w = omega (arith, len)

module _ {S : Type 0} (left : S → Option (List ℕ)) (faults : S → ℕ) where
  pub chain_uses : (names : List (List ℕ)) (o : Outcome) (i j : Inputs S) (a b c : Option FilesView) → length (each_input left i) ≡ length names → IfSome a (λ t. OpensAll t.contents names (each_input left i)) → HadNoFaults (backs left faults i)
      → b ≡ after_use a names [] → c ≡ after_use b [] (backs left faults j) → IsOfChain o → IsOpened o → (taken : List (List ℕ)) × GaveAll (each_input left i) taken (each_input left j)
      → (IsClean o → each_input faults j ≡ each_input faults i) → ((side : Side) → o ≡ ReadFault (file_on side) → RoseAt side (each_input faults i) (each_input faults j)) → UsesChainRows names o a c
  chain_uses names o i j a b c number opens fresh asked closed kinds opened takes good read =
      let len : length (backs left faults j) ≡ length names = back_length left faults j ∙ sym (gave_length (each_input left i) (each_input left j) takes.0 takes.1) ∙ number in
      let gave : GaveAll (each_input left i) takes.0 (map (λ s. s.0) (backs left faults j)) = subst (GaveAll (each_input left i) takes.0) (sym (lefts_of left faults j)) takes.1 in
      record {
        count = length names;
        few = omega arith;
        given_back = backs left faults j;
        told = both_used a b c names (backs left faults j) asked closed ∙ ap (λ x. after_use a x (backs left faults j)) (sym (take_all (length names) names (omega arith)));
        are_of = of_told a names (each_input left i) takes.0 (backs left faults j) opens gave;
        matches = λ one two z w. run_matches (length names) o (backs left faults i) (backs left faults j) one two kinds opened len fresh (λ k. faults_of left faults j ∙ good k ∙ sym (faults_of left faults i))
            (λ side e. subst (λ x. RoseAt side x (map (λ s. s.1) (backs left faults j))) (sym (faults_of left faults i)) (subst (RoseAt side (each_input faults i)) (sym (faults_of left faults j)) (read side e))) z w;
      }

  pub chain_cause : (o : Outcome) (i j : Inputs S) (a b c : ℕ) → HadNoFaults (backs left faults i) → b ≡ a → c ≡ raised_by b (backs left faults j) → IsOfChain o → IsOpened o
      → ((side : Side) → o ≡ ReadFault (file_on side) → RoseAt side (each_input faults i) (each_input faults j)) → IsFileFault o → Rose a c
  chain_cause o i j a b c fresh e f h p r k = run_cause left faults o i j a b c fresh e f (chain_or_run o h k) p r k

  -- what both runs come to over open sources is what they come to over their files
  pub chain_runs : (p q : Tree) (s : Sizes) (names : List (List ℕ)) (had has : SinkSeen) (o : Outcome) (tasks : ℕ) (i j : Inputs S) (a b c : Option FilesView) → IfSome a (λ t. OpensAll t.contents names (each_input left i))
      → b ≡ after_use a names [] → c ≡ after_use b [] (backs left faults j) → RunsChain p q s (engine.LeavesWhole p s (each_input left i) (each_input left j)) (told_by left i) had has o tasks
      → ChainedTold p q s names a c had has o tasks
  chain_runs p q s names had has o tasks i j None b c opens asked closed h = tt
  chain_runs p q s names had has o tasks i j (Some t) b c opens asked closed h =
      let a = all_told left faults t.contents names i opens in
      all_run a.0 a.1 (runs_on p q s (engine.LeavesWhole p s (each_input left i) (each_input left j)) (CutTakes p s names (Some t) c) (Some a.0) had has o tasks
      (λ e n l side k. run_takes left faults p s.task (limits_of s) n names i j (Some t) b c opens asked closed (l side k))
      (subst (λ x. RunsChain p q s (engine.LeavesWhole p s (each_input left i) (each_input left j)) x had has o tasks) a.2 h))

-- ---- the whole

-- row files that weren't opened
unopened_reason : (files : Contents) (a : AskedChain) (o : Outcome) → AsksChainRows files a → IsUnopened o → HasReason files a o
unopened_reason files a Done r h = absurd h
unopened_reason files a Usage r h = absurd h
unopened_reason files a (FileCount streams given) r h = absurd h
unopened_reason files a (QueryFault place why) r h = absurd h
unopened_reason files a (SecondQueryFault place why) r h = absurd h
unopened_reason files a (Unchainable which) r h = absurd h
unopened_reason files a (LineRefused side line why) r h = absurd h
unopened_reason files a (ChainLineRefused line why) r h = absurd h
unopened_reason files a (OpenFault Query) r h = absurd h
unopened_reason files a (OpenFault Left) r h = r
unopened_reason files a (OpenFault Right) r h = r
unopened_reason files a (OpenFault SecondQuery) r h = absurd h
unopened_reason files a (ReadFault file) r h = absurd h
unopened_reason files a (TooWide task need cells) r h = absurd h
unopened_reason files a WriteFault r h = absurd h
unopened_reason files a NoMemory r h = tt

-- what is known of the first query's tasks, in other words
pub chained_on : (p q : Tree) (s : Sizes) (A B : RunEnd → ℕ → Type 0) (content : Option (List (List ℕ))) (had has : SinkSeen) (o : Outcome) (tasks : ℕ) → ((e : RunEnd) (n : ℕ) → A e n → B e n)
    → ChainedIn p q s A content had has o tasks → ChainedIn p q s B content had has o tasks
chained_on p q s A B content had has o tasks f (none_run h t n) = none_run h t n
chained_on p q s A B content had has o tasks f (all_run all e r) = all_run all e (runs_on p q s A B (Some all) had has o tasks f r)

-- what was taken of the row files, behind both queries' files
pub cut_takes : (a : AskedChain) (p : Tree) (old mid new : Option FilesView) → BothRead a.first a.second old mid
    → IfSome old (λ t. (e : RunEnd) (n : ℕ) → CutTakes p a.sizes (row_names (first_run a)) mid new e n → CutTakesChain a t new p e n)
cut_takes a p None mid new b = tt
cut_takes a p (Some t) mid new b = λ e n h side k.
    let w : TakesRows p a.sizes.task (limits_of a.sizes) n (row_names (first_run a)) mid new = h side k in (
      _,
      w.told ∙ ap (λ o. after_use o (row_names (first_run a)) w.given_back) b.told,
      record {
        before = b.one ∷ b.two ∷ [];
        as_many = refl;
        given_back = w.given_back;
        closed = refl;
        takes = subst (λ o. IfSome o (λ (u : FilesView). TakesOf p a.sizes.task (limits_of a.sizes) n u.contents (row_names (first_run a)) w.given_back)) b.told w.takes;
      },
    )

-- the run over the row files, behind two plans that chain
pub chain_over : (files : Contents) (leaves : Tree → RunEnd → ℕ → Type 0) (a : AskedChain) (p q : Tree) (o : Outcome) (tasks : ℕ) (had has : SinkSeen) → HasPlans files a p q → IsChainable p q → IsLike (first_run a) p → ChainedIn p q a.sizes (leaves p) (contents_of files (row_names (first_run a))) had has o tasks → ChainsOver files leaves a o tasks had has
chain_over files leaves a p q o tasks had has u k l (none_run h t n) = not_run (unopened_reason files a o (record { first = p; second = q; plans = u; chains = k; like = l }) h) t n
chain_over files leaves a p q o tasks had has u k l (all_run all e r) = both_run (record { first = p; second = q; plans = u; chains = k; like = l }) all e r

-- two queries' files that were read leave the contents
pub read_contents : (P : Contents → Type 0) (first second : List ℕ) (old new : Option FilesView) → BothRead first second old new → IfSome new (λ u. P u.contents) → IfSome old (λ t. P t.contents)
read_contents P first second None new b h = tt
read_contents P first second (Some t) new b h = subst (λ m. IfSome m (λ u. P u.contents)) b.told h

-- ---- words that were not read

pub unread_chained : (ws : List (List ℕ)) (a : AskedChain) (f : WordsFault) (told new : Option FilesView) (w : SinkSeen) → (f ≡ fault.Usage → command_of ws ≡ None) → command_of ws ≡ Some (chain a) → AnswersChain a (unread f) 0 told new w w
unread_chained ws a fault.NoMemory None new w h is = tt
unread_chained ws a fault.NoMemory (Some t) new w h is = not_run tt refl refl
unread_chained ws a fault.Usage told new w h is = let clash : Some (chain a) ≡ None = sym is ∙ h refl in cc

pub unread_alone : (f : WordsFault) → IsOfSecond (unread f) → ⊥
unread_alone fault.NoMemory k = k
unread_alone fault.Usage k = k
