-- What a run gives, from each way in which it ends.
use Rattle.std.proofs.Common.{Bool, ◌≡◌, ◌⊎◌, inl, inr, ℕ, List, [], length, Option, Some, None, IfSome, refl, sym, ◌∙◌, ap, subst}
use Rattle.saber_plan.specs.Sizes.{limits_of}
use Rattle.saber_plan.specs.Rows.{Read}
use Rattle.saber_plan.specs.Trees.{Tree}
use Rattle.saber_io.specs.Outside.{FilesView, content_in}
use Rattle.saber_query.specs.declared.fault.Cause.{Cause}
use Rattle.saber_check.specs.Texts.{HasPlan, HasFault}
use Rattle.saber_words.specs.Commands.{Asked, run, AskedRun}
use Rattle.saber_notes.specs.declared.outcome.InputFile.TheVariants.{Query}
use Rattle.saber_notes.specs.declared.outcome.Outcome.{Outcome}
use Rattle.saber_notes.specs.declared.outcome.Outcome.TheVariants.{Done, Usage, FileCount, QueryFault, SecondQueryFault, Unchainable, LineRefused, ChainLineRefused, OpenFault, ReadFault, TooWide, WriteFault, NoMemory}
use Rattle.saber_plan.specs.Files.{input_of}
use Rattle.saber_check.proofs.FaultLaws.{one_fault}
use Rattle.saber_cli.specs.Outcomes.{IsEarly, IsFileFault, IsQueryUnread, IsOfRun, IsNoEnd}
use Rattle.saber_cli.specs.Uses.{Uses, unasked, unopened, used, IsOfQuery}
use Rattle.saber_cli.specs.Texts.{BeginsFile}
use Rattle.saber_cli.specs.Endings.{EndsSo}
use Rattle.saber_cli.specs.Answered.{Answered, AnsweredIn}
use Rattle.saber_cli.specs.Planned.{IsTextFault}
use Rattle.saber_cli.specs.Leaving.{AsksFile}
use Rattle.saber_cli.specs.Due.{Contents, Due, usage, missing, faulty, unlike, shows, tells, runs, IsDueFor, HasRun, IsLike, row_names, contents_of}
use Rattle.saber_cli.specs.Causes.{Allows}
use Rattle.saber_cli.specs.Puts.{PutsOut}
use Rattle.saber_cli.specs.Gives.{Gives}
use Rattle.saber_cli.proofs.LeavesLemmas.{IsRefused}
use Rattle.saber_cli.proofs.SomeDue.{some_due, no_chain}
use Rattle.saber_cli.proofs.DueLemmas.{HasQuery, early_puts, lacks_allowed, run_plan, run_or_fault, same_refusal, there_not_missing, begun_plan, begun_fault}

-- ---- no text of a query

query_lacks : (o : Outcome) → IsOfQuery o → IsQueryUnread o ⊎ (o ≡ NoMemory)
query_lacks Done h = absurd h
query_lacks Usage h = absurd h
query_lacks (SecondQueryFault place why) h = absurd h
query_lacks (Unchainable which) h = absurd h
query_lacks (ChainLineRefused place why) h = absurd h
query_lacks (FileCount s g) h = absurd h
query_lacks (QueryFault b c) h = absurd h
query_lacks (LineRefused s n c) h = absurd h
query_lacks (OpenFault f) h = inl h
query_lacks (ReadFault f) h = inl h
query_lacks (TooWide t n r) h = absurd h
query_lacks WriteFault h = absurd h
query_lacks NoMemory h = inr refl

query_no_end : (o : Outcome) → IsOfQuery o → IsNoEnd o
query_no_end Done h = absurd h
query_no_end Usage h = absurd h
query_no_end (SecondQueryFault place why) h = absurd h
query_no_end (Unchainable which) h = absurd h
query_no_end (ChainLineRefused place why) h = absurd h
query_no_end (FileCount s g) h = absurd h
query_no_end (QueryFault b c) h = absurd h
query_no_end (LineRefused s n c) h = absurd h
query_no_end (OpenFault f) h = tt
query_no_end (ReadFault f) h = tt
query_no_end (TooWide t n r) h = absurd h
query_no_end WriteFault h = absurd h
query_no_end NoMemory h = tt

no_end_early : (o : Outcome) → IsNoEnd o → IsEarly o
no_end_early Done h = absurd h
no_end_early Usage h = absurd h
no_end_early (SecondQueryFault place why) h = absurd h
no_end_early (Unchainable which) h = absurd h
no_end_early (ChainLineRefused place why) h = absurd h
no_end_early (FileCount s g) h = absurd h
no_end_early (QueryFault b c) h = absurd h
no_end_early (LineRefused s n c) h = absurd h
no_end_early (OpenFault f) h = tt
no_end_early (ReadFault f) h = tt
no_end_early (TooWide t n r) h = absurd h
no_end_early WriteFault h = absurd h
no_end_early NoMemory h = tt

-- a query file that could not be read, or memory that lacked
pub gives_no_text : (files : Contents) (c : Asked) → HasQuery c → (o : Outcome) → IsOfQuery o → Gives files c o 0 []
gives_no_text files c a o h = record {
  something = some_due files c (no_chain c a);
  allows = λ d k. lacks_allowed files c o d a (query_lacks o h) k;
  puts = λ d k. early_puts files c o d (no_end_early o (query_no_end o h)) k;
}

-- ---- a text that is refused

-- a query file that is there, with a text that has this fault
refused_allowed : (files : Contents) (r : AskedRun) (whole : List ℕ) (byte : ℕ) (cause : Cause) (d : Due) → content_in files r.query ≡ Some whole → HasFault whole byte cause → IsDueFor files (run r) d → Allows d (QueryFault byte cause)
refused_allowed files r whole byte cause usage e f d = absurd d
refused_allowed files r whole byte cause missing e f (inl m) = absurd (there_not_missing files r.query whole e m)
refused_allowed files r whole byte cause missing e f (inr m) = absurd (run_or_fault files r m.0 whole byte cause m.1 e f)
refused_allowed files r whole byte cause (tells t n) e f d = absurd d
refused_allowed files r whole byte cause (faulty b k) e f d =
    let same : d.0 ≡ whole = let g : Some d.0 ≡ Some whole = sym d.1 ∙ e in cc in
    inl (same_refusal byte b cause k (one_fault whole byte b cause k f (subst (λ t. HasFault t b k) same d.2)))
refused_allowed files r whole byte cause (unlike s g) e f d = absurd (run_or_fault files r d.0 whole byte cause d.1 e f)
refused_allowed files r whole byte cause (shows out) e f d = absurd d
refused_allowed files r whole byte cause (runs q size ring flush read) e f d = absurd (run_or_fault files r q whole byte cause d.1 e f)

gives_refusal : (files : Contents) (r : AskedRun) (whole : List ℕ) (byte : ℕ) (cause : Cause) → content_in files r.query ≡ Some whole → HasFault whole byte cause → Gives files (run r) (QueryFault byte cause) 0 []
gives_refusal files r whole byte cause e f = record {
  something = some_due files (run r) tt;
  allows = λ d k. refused_allowed files r whole byte cause d e f k;
  puts = λ d k. early_puts files (run r) (QueryFault byte cause) d tt k;
}

-- a text without a plan
pub gives_text_fault : (files : Contents) (r : AskedRun) (text : List ℕ) (o : Outcome) → BeginsFile files r.query text → IsTextFault text o → Gives files (run r) o 0 []
gives_text_fault files r text Done b h = absurd h
gives_text_fault files r text Usage b h = absurd h
gives_text_fault files r text (SecondQueryFault place why) b h = absurd h
gives_text_fault files r text (Unchainable which) b h = absurd h
gives_text_fault files r text (ChainLineRefused place why) b h = absurd h
gives_text_fault files r text (FileCount s g) b h = absurd h
gives_text_fault files r text (LineRefused s n c) b h = absurd h
gives_text_fault files r text (OpenFault f) b h = absurd h
gives_text_fault files r text (ReadFault f) b h = absurd h
gives_text_fault files r text (TooWide t n k) b h = absurd h
gives_text_fault files r text WriteFault b h = absurd h
gives_text_fault files r text NoMemory b h = gives_no_text files (run r) tt NoMemory tt
gives_text_fault files r text (QueryFault byte cause) b h = let w = begun_fault files r.query text byte cause b h in gives_refusal files r w.0 byte cause w.1 w.2

-- a text that is refused ends the run behind its file
pub text_fault_after : (text : List ℕ) (o : Outcome) → IsTextFault text o → IsRefused o
text_fault_after text Done h = absurd h
text_fault_after text Usage h = absurd h
text_fault_after text (SecondQueryFault place why) h = absurd h
text_fault_after text (Unchainable which) h = absurd h
text_fault_after text (ChainLineRefused place why) h = absurd h
text_fault_after text (FileCount s g) h = absurd h
text_fault_after text (QueryFault b c) h = tt
text_fault_after text (LineRefused s n c) h = absurd h
text_fault_after text (OpenFault f) h = absurd h
text_fault_after text (ReadFault f) h = absurd h
text_fault_after text (TooWide t n r) h = absurd h
text_fault_after text WriteFault h = absurd h
text_fault_after text NoMemory h = tt

-- ---- a text with a plan

-- the plan that was read is that of the whole text
pub run_of : (files : Contents) (r : AskedRun) (text : List ℕ) (p : Tree) → BeginsFile files r.query text → HasPlan text p → HasRun files r p
run_of files r text p b h = let w = begun_plan files r.query text p b h in record { text = w.0; there = w.1; plan = w.2 }

run_is : (files : Contents) (r : AskedRun) (p q : Tree) → HasRun files r p → HasRun files r q → q ≡ p
run_is files r p q k h = run_plan files r q p k.text h k.there k.plan

-- no fault is due
not_faulty : (files : Contents) (r : AskedRun) (p : Tree) (b : ℕ) (k : Cause) → HasRun files r p → IsDueFor files (run r) (faulty b k) → ⊥
not_faulty files r p b k u (text, e, f) = run_or_fault files r p text b k u e f

-- ---- not as many files as streams

like_again : (files : Contents) (r : AskedRun) (p q : Tree) → HasRun files r p → HasRun files r q → IsLike r q → IsLike r p
like_again files r p q u h l = subst (IsLike r) (run_is files r p q u h) l

unlike_allowed : (files : Contents) (r : AskedRun) (p : Tree) (d : Due) → HasRun files r p → (IsLike r p → ⊥) → IsDueFor files (run r) d → Allows d (FileCount (length p.streams) (length (row_names r)))
unlike_allowed files r p usage u n d = absurd d
unlike_allowed files r p missing u n (inl m) = absurd (there_not_missing files r.query u.text u.there m)
unlike_allowed files r p missing u n (inr m) = absurd (n (like_again files r p m.0 u m.1 m.2))
unlike_allowed files r p (tells t k) u n d = absurd d
unlike_allowed files r p (faulty b k) u n d = absurd (not_faulty files r p b k u d)
unlike_allowed files r p (unlike s g) u n d =
    let streams : s ≡ length p.streams = sym d.2 ∙ ap (λ (t : Tree). length t.streams) (run_is files r p d.0 u d.1) in
    inl (λ i. FileCount (sym streams i) (d.3 i))
unlike_allowed files r p (shows out) u n d = absurd d
unlike_allowed files r p (runs q size ring flush read) u n d = absurd (n (like_again files r p q u d.1 d.2))

pub gives_unlike : (files : Contents) (r : AskedRun) (p : Tree) → HasRun files r p → (IsLike r p → ⊥) → Gives files (run r) (FileCount (length p.streams) (length (row_names r))) 0 []
gives_unlike files r p u n = record {
  something = some_due files (run r) tt;
  allows = λ d k. unlike_allowed files r p d u n k;
  puts = λ d k. early_puts files (run r) (FileCount (length p.streams) (length (row_names r))) d tt k;
}

-- ---- a run over its row files

-- the number of files isn't refused
alike : (files : Contents) (r : AskedRun) (p : Tree) (s g : ℕ) → HasRun files r p → IsLike r p → IsDueFor files (run r) (unlike s g) → ⊥
alike files r p s g u l d = d.4 (sym d.2 ∙ ap (λ (t : Tree). length t.streams) (run_is files r p d.0 u d.1) ∙ l ∙ d.3)

-- the row files are asked for
pub asks_rows : (files : Contents) (r : AskedRun) (p : Tree) → HasRun files r p → IsLike r p → AsksFile files (run r) 1
asks_rows files r p u l = (p, u, l)

-- the run of a plan over row files that are there
record Over (files : Contents) (r : AskedRun) (p : Tree) (all : List (List ℕ)) : Type 0 where
  has : HasRun files r p
  like : IsLike r p
  there : contents_of files (row_names r) ≡ Some all

-- and nothing else is
due_is : (files : Contents) (r : AskedRun) (p : Tree) (all : List (List ℕ)) (q : Tree) (n ring : ℕ) (flush : Bool) (read : Read) → Over files r p all → IsDueFor files (run r) (runs q n ring flush read) → runs p r.sizes.task r.sizes.ring r.sizes.flush (input_of p (limits_of r.sizes) all) ≡ runs q n ring flush read
due_is files r p all q n ring flush read u d =
    let same : q ≡ p = run_is files r p q u.has d.1 in
    let f : Some d.0 ≡ Some all = sym d.3 ∙ u.there in
    let same_all : d.0 ≡ all = cc in
    let rows : read ≡ input_of p (limits_of r.sizes) all = d.7 ∙ (λ i. input_of (same i) (limits_of r.sizes) (same_all i)) in
    sym (λ i. runs (same i) (d.4 i) (d.5 i) (d.6 i) (rows i))

-- no file is missing
over_there : (files : Contents) (r : AskedRun) (p : Tree) (all : List (List ℕ)) → Over files r p all → IsDueFor files (run r) missing → ⊥
over_there files r p all u (inl m) = there_not_missing files r.query u.has.text u.has.there m
over_there files r p all u (inr m) = let clash : Some all ≡ None = sym u.there ∙ m.3 in cc

run_allows : (o : Outcome) (q : Tree) (n ring : ℕ) (flush : Bool) (read : Read) → IsOfRun o → EndsSo q n ring flush read o → Allows (runs q n ring flush read) o
run_allows Done q n ring flush read k f = inl (tt, f)
run_allows Usage q n ring flush read k f = absurd k
run_allows (SecondQueryFault place why) q n ring flush read k f = absurd k
run_allows (Unchainable which) q n ring flush read k f = absurd k
run_allows (ChainLineRefused place why) q n ring flush read k f = absurd k
run_allows (FileCount s g) q n ring flush read k f = absurd k
run_allows (QueryFault b x) q n ring flush read k f = absurd k
run_allows (LineRefused s l x) q n ring flush read k f = inl (tt, f)
run_allows (OpenFault file) q n ring flush read k f = inr (inl tt)
run_allows (ReadFault file) q n ring flush read k f = inr (inl tt)
run_allows (TooWide t l r) q n ring flush read k f = inl (tt, f)
run_allows WriteFault q n ring flush read k f = inr (inr (inl refl))
run_allows NoMemory q n ring flush read k f = inr (inr (inr refl))

over_allowed : (files : Contents) (r : AskedRun) (p : Tree) (all : List (List ℕ)) (o : Outcome) (d : Due) → Over files r p all → IsOfRun o → EndsSo p r.sizes.task r.sizes.ring r.sizes.flush (input_of p (limits_of r.sizes) all) o → IsDueFor files (run r) d → Allows d o
over_allowed files r p all o usage u k f d = absurd d
over_allowed files r p all o missing u k f d = absurd (over_there files r p all u d)
over_allowed files r p all o (tells t n) u k f d = absurd d
over_allowed files r p all o (faulty b x) u k f d = absurd (not_faulty files r p b x u.has d)
over_allowed files r p all o (unlike s g) u k f d = absurd (alike files r p s g u.has u.like d)
over_allowed files r p all o (shows out) u k f d = absurd d
over_allowed files r p all o (runs q n ring flush read) u k f d = subst (λ x. Allows x o) (due_is files r p all q n ring flush read u d) (run_allows o p r.sizes.task r.sizes.ring r.sizes.flush (input_of p (limits_of r.sizes) all) k f)

over_puts : (files : Contents) (r : AskedRun) (p : Tree) (all : List (List ℕ)) (o : Outcome) (tasks : ℕ) (out : List ℕ) (d : Due) → Over files r p all → PutsOut (runs p r.sizes.task r.sizes.ring r.sizes.flush (input_of p (limits_of r.sizes) all)) o tasks out → IsDueFor files (run r) d → PutsOut d o tasks out
over_puts files r p all o tasks out usage u a d = absurd d
over_puts files r p all o tasks out missing u a d = absurd (over_there files r p all u d)
over_puts files r p all o tasks out (tells t n) u a d = absurd d
over_puts files r p all o tasks out (faulty b x) u a d = absurd (not_faulty files r p b x u.has d)
over_puts files r p all o tasks out (unlike s g) u a d = absurd (alike files r p s g u.has u.like d)
over_puts files r p all o tasks out (shows t) u a d = absurd d
over_puts files r p all o tasks out (runs q n ring flush read) u a d = subst (λ x. PutsOut x o tasks out) (due_is files r p all q n ring flush read u d) a

over_gives : (files : Contents) (r : AskedRun) (p : Tree) (all : List (List ℕ)) (o : Outcome) (tasks : ℕ) (out : List ℕ) → Over files r p all → IsOfRun o → Answered p r.sizes.task r.sizes.ring r.sizes.flush (input_of p (limits_of r.sizes) all) o tasks out → Gives files (run r) o tasks out
over_gives files r p all o tasks out u k a = record {
  something = some_due files (run r) tt;
  allows = λ d x. over_allowed files r p all o d u k a.ends x;
  puts = λ d x. over_puts files r p all o tasks out d u a.puts x;
}

-- ---- a row file that isn't there

no_end_lacks : (o : Outcome) → IsNoEnd o → IsFileFault o ⊎ (o ≡ NoMemory)
no_end_lacks Done h = absurd h
no_end_lacks Usage h = absurd h
no_end_lacks (SecondQueryFault place why) h = absurd h
no_end_lacks (Unchainable which) h = absurd h
no_end_lacks (ChainLineRefused place why) h = absurd h
no_end_lacks (FileCount s g) h = absurd h
no_end_lacks (QueryFault b c) h = absurd h
no_end_lacks (LineRefused s n c) h = absurd h
no_end_lacks (OpenFault f) h = inl tt
no_end_lacks (ReadFault f) h = inl tt
no_end_lacks (TooWide t n r) h = absurd h
no_end_lacks WriteFault h = absurd h
no_end_lacks NoMemory h = inr refl

gone_allowed : (files : Contents) (r : AskedRun) (p : Tree) (o : Outcome) (d : Due) → HasRun files r p → IsLike r p → contents_of files (row_names r) ≡ None → IsNoEnd o → IsDueFor files (run r) d → Allows d o
gone_allowed files r p o usage u l e h d = absurd d
gone_allowed files r p o missing u l e h d = no_end_lacks o h
gone_allowed files r p o (tells t n) u l e h d = absurd d
gone_allowed files r p o (faulty b k) u l e h d = absurd (not_faulty files r p b k u d)
gone_allowed files r p o (unlike s g) u l e h d = absurd (alike files r p s g u l d)
gone_allowed files r p o (shows out) u l e h d = absurd d
gone_allowed files r p o (runs q n ring flush read) u l e h d = let clash : Some d.0 ≡ None = sym d.3 ∙ e in cc

gone_gives : (files : Contents) (r : AskedRun) (p : Tree) (o : Outcome) (tasks : ℕ) (out : List ℕ) → HasRun files r p → IsLike r p → contents_of files (row_names r) ≡ None → IsNoEnd o → tasks ≡ 0 → out ≡ [] → Gives files (run r) o tasks out
gone_gives files r p o tasks out u l e h t n = subst (λ x. Gives files (run r) o x out) (sym t) (subst (Gives files (run r) o 0) (sym n) (record {
  something = some_due files (run r) tt;
  allows = λ d k. gone_allowed files r p o d u l e h k;
  puts = λ d k. early_puts files (run r) o d (no_end_early o h) k;
}))

answered_gives : (files : Contents) (r : AskedRun) (p : Tree) (content : Option (List (List ℕ))) (o : Outcome) (tasks : ℕ) (out : List ℕ) → HasRun files r p → IsLike r p → contents_of files (row_names r) ≡ content → IsOfRun o
    → AnsweredIn p r.sizes.task r.sizes.ring (limits_of r.sizes) r.sizes.flush content o tasks out → Gives files (run r) o tasks out
answered_gives files r p None o tasks out u l e k a = gone_gives files r p o tasks out u l e a.0 a.1 a.2
answered_gives files r p (Some all) o tasks out u l e k a = over_gives files r p all o tasks out (record { has = u; like = l; there = e }) k a

-- a run over its row files, behind a query with as many streams
pub gives_answer : (files : Contents) (r : AskedRun) (p : Tree) (o : Outcome) (tasks : ℕ) (out : List ℕ) → HasRun files r p → IsLike r p → IsOfRun o → AnsweredIn p r.sizes.task r.sizes.ring (limits_of r.sizes) r.sizes.flush (contents_of files (row_names r)) o tasks out → Gives files (run r) o tasks out
gives_answer files r p o tasks out u l k a = answered_gives files r p (contents_of files (row_names r)) o tasks out u l refl k a

-- ---- where files tell

pub some_map : {X : Type 0} (P Q : X → Type 0) (o : Option X) → ((x : X) → P x → Q x) → IfSome o P → IfSome o Q
some_map P Q None f h = tt
some_map P Q (Some x) f h = f x h

pub some_both : {X : Type 0} (P Q R : X → Type 0) (o : Option X) → ((x : X) → P x → Q x → R x) → IfSome o P → IfSome o Q → IfSome o R
some_both P Q R None f h k = tt
some_both P Q R (Some x) f h k = f x h k

-- a query file that was read and given back leaves the contents
pub used_contents : (P : Contents → Type 0) (name : List ℕ) (old mid : Option FilesView) → Uses Query name Done old mid → IfSome mid (λ u. P u.contents) → IfSome old (λ t. P t.contents)
used_contents P name old mid (unasked e s) h = cc
used_contents P name old mid (unopened e s) h = cc
used_contents P name None mid (used left faults f c i p s) h = tt
used_contents P name (Some t) mid (used left faults f c i p s) h = subst (λ m. IfSome m (λ u. P u.contents)) s h
