-- What a check gives, from what became of its query's text.
use Rattle.std.proofs.Common.{◌≡◌, ◌⊎◌, inl, inr, ◌≤◌, ℕ, List, [], ◌∷◌, ◌++◌, length, map, take, Some, refl, sym, ◌∙◌, ap, subst, arith}
use Rattle.std.proofs.lemmas.List.{take_all}
use Rattle.saber_io.specs.Outside.{content_in}
use Rattle.saber_query.specs.declared.token.Token.{Token}
use Rattle.saber_query.specs.declared.fault.Cause.{Cause}
use Rattle.saber_query.specs.declared.fault.QueryFault.{QueryFault as Fault}
use Rattle.saber_query.specs.declared.fault.QueryFault.TheVariants as fault
use Rattle.saber_query.specs.Parsed.{Parsed}
use Rattle.saber_query.specs.Trees.{query_of}
use Rattle.saber_query.specs.Words.{words}
use Rattle.saber_query.specs.Reading.{token_of}
use Rattle.saber_query.specs.Means.{MeansTree}
use Rattle.saber_query.specs.Spelling.{spelled_text}
use Rattle.saber_query.proofs.LongestLemmas.{same_placed}
use Rattle.saber_check.specs.Outcome.{IsFaultOf}
use Rattle.saber_check.specs.Texts.{HasPlan, HasFault, fails_checks, IsFaultIn}
use Rattle.saber_words.specs.Commands.{check, AskedCheck}
use Rattle.saber_notes.specs.declared.outcome.Outcome.{Outcome}
use Rattle.saber_notes.specs.declared.outcome.Outcome.TheVariants.{Done, Usage, FileCount, QueryFault, SecondQueryFault, Unchainable, LineRefused, ChainLineRefused, OpenFault, ReadFault, TooWide, WriteFault, NoMemory}
use Rattle.saber_check.proofs.FaultLaws.{one_fault}
use Rattle.saber_check.proofs.FrontLaws.{front_has_plan}
use Rattle.saber_check.proofs.TextLaws.{fault_or_plan}
use Rattle.saber_cli.specs.Outcomes.{IsBeforeRun, IsFileFault, IsQueryFault, IsOfShow}
use Rattle.saber_cli.specs.Texts.{BeginsFile}
use Rattle.saber_cli.specs.Planned.{IsTextFault}
use Rattle.saber_cli.specs.Due.{Contents, Due, usage, missing, faulty, unlike, shows, tells, runs, IsDueFor, Shows}
use Rattle.saber_cli.specs.Causes.{Allows}
use Rattle.saber_cli.specs.Puts.{PutsOut, IsOfPut, PutsText, whole_text, part, no_text}
use Rattle.saber_cli.specs.Gives.{Gives}
use Rattle.saber_cli.specs.Shown.{Showed, all_shown, cut_short, not_shown}
use Rattle.saber_cli.proofs.DueLemmas.{there_not_missing, same_refusal, begun_fault, early_puts}
use Rattle.saber_cli.proofs.SomeDue.{some_due}
use Rattle.saber_cli.proofs.RunLemmas.{gives_no_text}

-- ---- a query that fails its checks

-- a fault of the query is one of the text
pub check_fault : (text : List ℕ) (p : Parsed) (f : Fault) → MeansTree text p → IsFaultOf p f → IsFaultIn text f
check_fault text p fault.NoMemory m h = tt
check_fault text p (fault.At byte cause) m h = fails_checks (record { query = p; means = m; fails = h })

-- ---- a text that shows

-- a text whose front shows is its front
front_shows : (text out : List ℕ) → Shows (take 65537 text) out → Shows text out
front_shows text out s =
    let p : HasPlan text s.0 = front_has_plan text s.0 s.1 in
    let short : length text ≤ 65536 = p.means.short in
    let same : take 65537 text ≡ text = take_all 65537 text (omega (arith, short)) in
    subst (λ t. Shows t out) same s

-- a text that shows is the whole of its file
begun_shows : (files : Contents) (name text out : List ℕ) → BeginsFile files name text → Shows text out → (whole : List ℕ) × (content_in files name ≡ Some whole) × Shows whole out
begun_shows files name text out b s = (b.whole, b.there, front_shows b.whole out (subst (λ t. Shows t out) b.front s))

-- a text that shows has no fault
shows_or_fault : (text out : List ℕ) (byte : ℕ) (cause : Cause) → Shows text out → HasFault text byte cause → ⊥
shows_or_fault text out byte cause s f = fault_or_plan text byte cause s.0 f s.1

same_words : (text : List ℕ) (p r : Parsed) → MeansTree text p → MeansTree text r → words (query_of p.select) ≡ words (query_of r.select)
same_words text p r m n = m.words ∙ ap (map token_of) (same_placed text m.placed n.placed m.lexed n.lexed) ∙ sym n.words

-- a text shows in one way
one_text : (text out other : List ℕ) → Shows text out → Shows text other → out ≡ other
one_text text out other s t = s.2 ∙ ap (λ (ws : List Token). spelled_text ws ++ 10 ∷ []) (same_words text s.1.query t.1.query s.1.means t.1.means) ∙ sym t.2

-- ---- what is due for a check

not_missing : (files : Contents) (c : AskedCheck) (whole : List ℕ) → content_in files c.query ≡ Some whole → IsDueFor files (check c) missing → ⊥
not_missing files c whole e m = there_not_missing files c.query whole e m

-- a fault that is due is that of the query's text
due_fault : (files : Contents) (c : AskedCheck) (whole : List ℕ) (byte : ℕ) (cause : Cause) → content_in files c.query ≡ Some whole → IsDueFor files (check c) (faulty byte cause) → HasFault whole byte cause
due_fault files c whole byte cause e d =
    let same : d.0 ≡ whole = let f : Some d.0 ≡ Some whole = sym d.1 ∙ e in cc in
    subst (λ t. HasFault t byte cause) same d.2

-- a text that is due is that of the query's text
due_shows : (files : Contents) (c : AskedCheck) (whole out : List ℕ) → content_in files c.query ≡ Some whole → IsDueFor files (check c) (shows out) → Shows whole out
due_shows files c whole out e d =
    let same : d.0 ≡ whole = let f : Some d.0 ≡ Some whole = sym d.1 ∙ e in cc in
    subst (λ t. Shows t out) same d.2

-- ---- a text that is shown

shown_allowed : (files : Contents) (c : AskedCheck) (whole shown : List ℕ) (o : Outcome) (d : Due) → content_in files c.query ≡ Some whole → Shows whole shown → (o ≡ Done) ⊎ (o ≡ WriteFault) → IsDueFor files (check c) d → Allows d o
shown_allowed files c whole shown o usage e s k d = absurd d
shown_allowed files c whole shown o missing e s k d = absurd (not_missing files c whole e d)
shown_allowed files c whole shown o (tells t n) e s k d = absurd d
shown_allowed files c whole shown o (faulty b x) e s k d = absurd (shows_or_fault whole shown b x s (due_fault files c whole b x e d))
shown_allowed files c whole shown o (unlike x g) e s k d = absurd d
shown_allowed files c whole shown o (shows t) e s (inl k) d = inl k
shown_allowed files c whole shown o (shows t) e s (inr k) d = inr (inr (inl k))
shown_allowed files c whole shown o (runs q n ring flush read) e s k d = absurd d

shown_puts : (files : Contents) (c : AskedCheck) (whole shown : List ℕ) (o : Outcome) (out : List ℕ) (d : Due) → content_in files c.query ≡ Some whole → Shows whole shown → PutsText shown o out → IsDueFor files (check c) d → PutsOut d o 0 out
shown_puts files c whole shown o out usage e s p d = absurd d
shown_puts files c whole shown o out missing e s p d = absurd (not_missing files c whole e d)
shown_puts files c whole shown o out (tells t n) e s p d = absurd d
shown_puts files c whole shown o out (faulty b x) e s p d = absurd (shows_or_fault whole shown b x s (due_fault files c whole b x e d))
shown_puts files c whole shown o out (unlike x g) e s p d = absurd d
shown_puts files c whole shown o out (shows t) e s p d = (refl, subst (λ x. PutsText x o out) (one_text whole shown t s (due_shows files c whole t e d)) p)
shown_puts files c whole shown o out (runs q n ring flush read) e s p d = absurd d

gives_shown : (files : Contents) (c : AskedCheck) (whole shown : List ℕ) (o : Outcome) (out : List ℕ) → content_in files c.query ≡ Some whole → Shows whole shown → (o ≡ Done) ⊎ (o ≡ WriteFault) → PutsText shown o out → Gives files (check c) o 0 out
gives_shown files c whole shown o out e s k p = record {
  something = some_due files (check c) tt;
  allows = λ d x. shown_allowed files c whole shown o d e s k x;
  puts = λ d x. shown_puts files c whole shown o out d e s p x;
}

-- ---- a text that is refused

refused_allowed : (files : Contents) (c : AskedCheck) (whole : List ℕ) (byte : ℕ) (cause : Cause) (d : Due) → content_in files c.query ≡ Some whole → HasFault whole byte cause → IsDueFor files (check c) d → Allows d (QueryFault byte cause)
refused_allowed files c whole byte cause usage e f d = absurd d
refused_allowed files c whole byte cause missing e f d = absurd (not_missing files c whole e d)
refused_allowed files c whole byte cause (tells t n) e f d = absurd d
refused_allowed files c whole byte cause (faulty b x) e f d = inl (same_refusal byte b cause x (one_fault whole byte b cause x f (due_fault files c whole b x e d)))
refused_allowed files c whole byte cause (unlike x g) e f d = absurd d
refused_allowed files c whole byte cause (shows t) e f d = absurd (shows_or_fault whole t byte cause (due_shows files c whole t e d) f)
refused_allowed files c whole byte cause (runs q n ring flush read) e f d = absurd d

gives_refused : (files : Contents) (c : AskedCheck) (whole : List ℕ) (byte : ℕ) (cause : Cause) → content_in files c.query ≡ Some whole → HasFault whole byte cause → Gives files (check c) (QueryFault byte cause) 0 []
gives_refused files c whole byte cause e f = record {
  something = some_due files (check c) tt;
  allows = λ d x. refused_allowed files c whole byte cause d e f x;
  puts = λ d x. early_puts files (check c) (QueryFault byte cause) d tt x;
}

gives_not_shown : (files : Contents) (c : AskedCheck) (text : List ℕ) (o : Outcome) → BeginsFile files c.query text → IsTextFault text o → Gives files (check c) o 0 []
gives_not_shown files c text Done b h = absurd h
gives_not_shown files c text Usage b h = absurd h
gives_not_shown files c text (SecondQueryFault place why) b h = absurd h
gives_not_shown files c text (Unchainable which) b h = absurd h
gives_not_shown files c text (ChainLineRefused place why) b h = absurd h
gives_not_shown files c text (FileCount s g) b h = absurd h
gives_not_shown files c text (LineRefused s n k) b h = absurd h
gives_not_shown files c text (OpenFault f) b h = absurd h
gives_not_shown files c text (ReadFault f) b h = absurd h
gives_not_shown files c text (TooWide t n k) b h = absurd h
gives_not_shown files c text WriteFault b h = absurd h
gives_not_shown files c text NoMemory b h = gives_no_text files (check c) tt NoMemory tt
gives_not_shown files c text (QueryFault byte cause) b h = let w = begun_fault files c.query text byte cause b h in gives_refused files c w.0 byte cause w.1 w.2

-- ---- a check

-- the text that shows, or a prefix of it, goes out
pub put_showed : (text shown : List ℕ) (o : Outcome) (out : List ℕ) → Shows text shown → IsOfPut o → PutsText shown o out → Showed text o out
put_showed text shown o out s k (whole_text e w) = all_shown e (subst (Shows text) (sym w) s)
put_showed text shown o out s k (part n e w) = cut_short shown n e s w
put_showed text shown Done out s k (no_text n w) = absurd (n refl)
put_showed text shown WriteFault out s k (no_text n w) = cut_short shown 0 refl s w
put_showed text shown NoMemory out s k (no_text n w) = not_shown tt w
put_showed text shown Usage out s k (no_text n w) = absurd k
put_showed text shown (SecondQueryFault place why) out s k (no_text n w) = absurd k
put_showed text shown (Unchainable which) out s k (no_text n w) = absurd k
put_showed text shown (ChainLineRefused place why) out s k (no_text n w) = absurd k
put_showed text shown (FileCount a b) out s k (no_text n w) = absurd k
put_showed text shown (QueryFault a b) out s k (no_text n w) = absurd k
put_showed text shown (LineRefused a b d) out s k (no_text n w) = absurd k
put_showed text shown (OpenFault f) out s k (no_text n w) = absurd k
put_showed text shown (ReadFault f) out s k (no_text n w) = absurd k
put_showed text shown (TooWide a b d) out s k (no_text n w) = absurd k

-- a check gives what became of its query's text
pub gives_show : (files : Contents) (c : AskedCheck) (text : List ℕ) (o : Outcome) (out : List ℕ) → BeginsFile files c.query text → Showed text o out → Gives files (check c) o 0 out
gives_show files c text o out b (all_shown e s) = let w = begun_shows files c.query text out b s in gives_shown files c w.0 out o out w.1 w.2 (inl e) (whole_text e refl)
gives_show files c text o out b (cut_short shown n e s k) = let w = begun_shows files c.query text shown b s in gives_shown files c w.0 shown o out w.1 w.2 (inr e) (part n e k)
gives_show files c text o out b (not_shown h k) = subst (Gives files (check c) o 0) (sym k) (gives_not_shown files c text o b h)

-- where nothing was run, the text was refused
pub show_early : (o : Outcome) → IsOfShow o → IsBeforeRun o → IsQueryFault o
show_early Done h b = b
show_early Usage h b = h
show_early (SecondQueryFault place why) h b = h
show_early (Unchainable which) h b = h
show_early (ChainLineRefused place why) h b = h
show_early (FileCount s g) h b = h
show_early (QueryFault b c) h k = tt
show_early (LineRefused s n c) h b = b
show_early (OpenFault f) h b = h
show_early (ReadFault f) h b = absurd h
show_early (TooWide t n r) h b = b
show_early WriteFault h b = b
show_early NoMemory h b = b

-- the check of a text reads no file
pub show_reads : (o : Outcome) → IsOfShow o → IsFileFault o → ⊥
show_reads Done h f = f
show_reads Usage h f = f
show_reads (SecondQueryFault place why) h f = f
show_reads (Unchainable which) h f = f
show_reads (ChainLineRefused place why) h f = f
show_reads (FileCount s g) h f = f
show_reads (QueryFault b c) h f = f
show_reads (LineRefused s n c) h f = f
show_reads (OpenFault file) h f = h
show_reads (ReadFault file) h f = h
show_reads (TooWide t n r) h f = f
show_reads WriteFault h f = f
show_reads NoMemory h f = f
