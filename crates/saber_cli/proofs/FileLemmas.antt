-- One file that is opened, read and given back.
use Rattle.std.proofs.Common.{Result, Ok, Err, IfOk, IfErr, OnOk, refl, sym, ◌≡◌, ℕ, ◌<◌, List, take, Option, Some, None, IfSome, ◌∙◌, ap, subst, arith}
use Rattle.saber_io.specs.Outside.{FilesView, after_asking, after_closing, raised_faults, Opens}
use Rattle.saber_plan.specs.Outputs.{Rose}
use Rattle.saber_notes.specs.declared.outcome.InputFile.{InputFile}
use Rattle.saber_notes.specs.declared.outcome.InputFile.TheVariants.{Query}
use Rattle.saber_notes.specs.declared.outcome.Outcome.{Outcome}
use Rattle.saber_notes.specs.declared.outcome.Outcome.TheVariants.{Done, Usage, FileCount, QueryFault, SecondQueryFault, Unchainable, LineRefused, ChainLineRefused, OpenFault, ReadFault, TooWide, WriteFault, NoMemory}
use Rattle.saber_cli.specs.Outcomes.{IsClean}
use Rattle.saber_cli.specs.Texts.{BeginsFile, TakesFew, read_limit}
use Rattle.saber_cli.specs.Uses.{Uses, used, IsOfQueryFile, IsOpened, IsOfText, outcome_of, KeepsFaults}

-- what was read of a source that was opened is the beginning of its file
pub opened_front : (told : Option FilesView) (name : List ℕ) (left : Option (List ℕ)) (text : List ℕ) → Opens told name left → IfSome left (λ whole. text ≡ take read_limit whole) → IfSome told (λ t. BeginsFile t.contents name text)
opened_front None name left text o h = tt
opened_front (Some t) name left text o h = record { whole = o.0; there = o.1; front = subst (λ l. IfSome l (λ whole. text ≡ take read_limit whole)) o.2 h }

-- a source that was opened, and of which few bytes were taken, is of its query's file
pub opened_of : (told : Option FilesView) (name : List ℕ) (had has : Option (List ℕ)) (faults : ℕ) → Opens told name had → TakesFew read_limit had has → IfSome told (λ t. IsOfQueryFile t.contents name (has, faults))
opened_of None name had has faults o k = tt
opened_of (Some t) name had None faults o k = let clash : Some o.0 ≡ None = sym o.2 ∙ k.2 in cc
opened_of (Some t) name had (Some rest) faults o k = record { file = record { taken = k.0; rest = rest; there = o.1 ∙ sym o.2 ∙ k.2; left = refl }; few = k.1 }

-- a file that was opened, and whose source was given back
pub used_by : (file : InputFile) (name : List ℕ) (o : Outcome) (old mid new : Option FilesView) (left : Option (List ℕ)) (faults : ℕ) → (o ≡ ReadFault file → 0 < faults) → (IsClean o → faults ≡ 0) → IfSome old (λ t. IsOfQueryFile t.contents name (left, faults)) → IsOpened o → mid ≡ after_asking old name → new ≡ after_closing mid left faults → Uses file name o old new
used_by file name o old mid new left faults read clean is_of opened asked closed = used left faults read clean is_of opened (closed ∙ ap (λ t. after_closing t left faults) asked)

-- what was read of a source, or why there is nothing
read_opened : (o : Outcome) → IsOfText o → IsOpened o
read_opened Done h = absurd h
read_opened Usage h = absurd h
read_opened (SecondQueryFault place why) h = absurd h
read_opened (Unchainable which) h = absurd h
read_opened (ChainLineRefused place why) h = absurd h
read_opened (FileCount s g) h = absurd h
read_opened (QueryFault b c) h = absurd h
read_opened (LineRefused s n c) h = absurd h
read_opened (OpenFault f) h = absurd h
read_opened (ReadFault f) h = tt
read_opened (TooWide t n r) h = absurd h
read_opened WriteFault h = absurd h
read_opened NoMemory h = tt

text_not_clean : (o : Outcome) → IsOfText o → IsClean o → ⊥
text_not_clean Done h c = h
text_not_clean Usage h c = h
text_not_clean (SecondQueryFault place why) h c = h
text_not_clean (Unchainable which) h c = h
text_not_clean (ChainLineRefused place why) h c = h
text_not_clean (FileCount s g) h c = h
text_not_clean (QueryFault b k) h c = h
text_not_clean (LineRefused s n k) h c = h
text_not_clean (OpenFault f) h c = h
text_not_clean (ReadFault f) h c = c
text_not_clean (TooWide t n r) h c = h
text_not_clean WriteFault h c = h
text_not_clean NoMemory h c = c

-- of a result
pub map_err : {X P Q : Type 0} (r : Result X Outcome) (p : Outcome) → (P → Q) → IfErr r (λ o. o ≡ p → P) → IfErr r (λ o. o ≡ p → Q)
map_err (Ok x) p f h = tt
map_err (Err o) p f h = λ e. f (h e)

pub text_front : {X : Type 0} (bytes : X → List ℕ) (r : Result X Outcome) (told : Option FilesView) (name : List ℕ) (left : Option (List ℕ)) → Opens told name left → IfOk r (λ x. IfSome left (λ whole. bytes x ≡ take read_limit whole))
    → IfOk r (λ x. IfSome told (λ t. BeginsFile t.contents name (bytes x)))
text_front bytes (Ok x) told name left o h = opened_front told name left (bytes x) o h
text_front bytes (Err e) told name left o h = tt

pub text_used : {X : Type 0} (name : List ℕ) (r : Result X Outcome) (old mid new : Option FilesView) (left : Option (List ℕ)) (faults : ℕ) → IfErr r IsOfText → IfErr r (λ o. o ≡ ReadFault Query → 0 < faults) → OnOk r (faults ≡ 0) → IfSome old (λ t. IsOfQueryFile t.contents name (left, faults))
    → mid ≡ after_asking old name → new ≡ after_closing mid left faults → Uses Query name (outcome_of r) old new
text_used name (Ok x) old mid new left faults h k z i asked closed = used_by Query name Done old mid new left faults (λ e. cc) (λ c. z) i tt asked closed
text_used name (Err o) old mid new left faults h k z i asked closed = used_by Query name o old mid new left faults k (λ c. absurd (text_not_clean o h c)) i (read_opened o h) asked closed

pub on_ok : {X P Q : Type 0} (r : Result X Outcome) → (P → Q) → OnOk r P → OnOk r Q
on_ok (Ok x) f h = f h
on_ok (Err o) f h = tt

-- no fault of a text, so none of its files
pub text_good : {X : Type 0} (r : Result X Outcome) (a b c f : ℕ) → IfErr r IsOfText → OnOk r (f ≡ 0) → b ≡ a → c ≡ raised_faults b f → IsClean (outcome_of r) → c ≡ a
text_good (Ok x) a b c f h z e k n = k ∙ ap (raised_faults b) z ∙ e
text_good (Err o) a b c f h z e k n = absurd (text_not_clean o h n)

-- ---- counts of faults

-- a count that rose from nothing is above nothing
pub rose_some : (a b : ℕ) → a ≡ 0 → Rose a b → 0 < b
rose_some a b e h = omega arith

-- a count that rose later rose from before too
pub keeps_rose : (a b c : ℕ) → KeepsFaults a b → Rose b c → Rose a c
keeps_rose a b c h k = omega arith
