-- What a command leaves of its files, from what it did with each.
use Rattle.std.proofs.Common.{◌≡◌, ◌<◌, ℕ, suc, List, [], ◌∷◌, ◌++◌, length, take, Option, Some, None, IfSome, refl, sym, ◌∙◌, ap, subst, arith, append-nil, append_assoc}
use Rattle.saber_io.specs.Outside.{FilesView, after_asking, after_closing}
use Rattle.saber_words.specs.Commands.{run, AskedRun}
use Rattle.saber_notes.specs.declared.outcome.InputFile.TheVariants.{Query, Left, Right, SecondQuery}
use Rattle.saber_notes.specs.declared.outcome.Outcome.{Outcome}
use Rattle.saber_notes.specs.declared.outcome.Outcome.TheVariants.{Done, Usage, FileCount, QueryFault, SecondQueryFault, Unchainable, LineRefused, ChainLineRefused, OpenFault, ReadFault, TooWide, WriteFault, NoMemory}
use Rattle.saber_cli.specs.Due.{row_names}
use Rattle.saber_cli.specs.Outcomes.{IsOfShow}
use Rattle.saber_cli.specs.Uses.{Uses, unasked, unopened, used, IsOfQueryFile, IsOpened, IsOfQuery}
use Rattle.saber_cli.specs.Leaves.{AreOf, Leaves, Matches}
use Rattle.saber_cli.specs.Leaving.{AsksFile, LeavesTold}
use Rattle.saber_cli.specs.RowFiles.{UsesRows, after_use}

-- ---- told or not

-- files with these names, of which the first is a query's, and others are due where G holds
abbrev pub LeavesAt : List (List ℕ) → Type 0 → Outcome → FilesView → FilesView → Type 0
LeavesAt names G o old new = Leaves 1 names (λ n. G) (Matches 1 (length names) o) old new

-- the same where files tell
abbrev pub LeavesBy : List (List ℕ) → (FilesView → Type 0) → Outcome → Option FilesView → Option FilesView → Type 0
LeavesBy names G o old new = IfSome old (λ t. (u : FilesView) × (new ≡ Some u) × LeavesAt names (G t) o t u)

told_by : (names : List (List ℕ)) (G : FilesView → Type 0) (o : Outcome) (old new : Option FilesView) → ((t : FilesView) → old ≡ Some t → (u : FilesView) × (new ≡ Some u) × LeavesAt names (G t) o t u) → LeavesBy names G o old new
told_by names G o None new h = tt
told_by names G o (Some t) new h = h t refl

-- what files tell when a source of theirs was given back
abbrev back : FilesView → List ℕ → Option (List ℕ) → ℕ → FilesView
back t name left faults = record { contents = t.contents; asked = t.asked ++ name ∷ []; closed = t.closed ++ (left, faults) ∷ [] }

-- a source is of its query's file, where files tell
abbrev IsOfTold : Option FilesView → List ℕ → Option (List ℕ) → ℕ → Type 0
IsOfTold old name left faults = IfSome old (λ t. IsOfQueryFile t.contents name (left, faults))

is_of : (old : Option FilesView) (t : FilesView) (name : List ℕ) (left : Option (List ℕ)) (faults : ℕ) → old ≡ Some t → IsOfTold old name left faults → IsOfQueryFile t.contents name (left, faults)
is_of old t name left faults e h = subst (λ o. IsOfTold o name left faults) e h

-- ---- no file

pub none_asked : (queries : ℕ) (names : List (List ℕ)) (G : FilesView → ℕ → Type 0) (o : Outcome) (old : Option FilesView) → Matches queries (length names) o 0 []
    → IfSome old (λ t. (u : FilesView) × (old ≡ Some u) × Leaves queries names (G t) (Matches queries (length names) o) t u)
none_asked queries names G o None m = tt
none_asked queries names G o (Some t) m = (
  t,
  refl,
  record { contents = refl; count = 0; few = omega arith; due = λ n some few. absurd (omega (arith, some, few)); asked = sym (append-nil t.asked); given_back = []; closed = sym (append-nil t.closed); are_of = tt; matches = m },
)

pub none_left : (names : List (List ℕ)) (G : FilesView → Type 0) (o : Outcome) (old : Option FilesView) → Matches 1 (length names) o 0 [] → LeavesBy names G o old old
none_left names G o old m = none_asked 1 names (λ t n. G t) o old m

-- ---- the query's file alone

one_back : (name : List ℕ) (rest : List (List ℕ)) (G : Type 0) (o : Outcome) (t : FilesView) (left : Option (List ℕ)) (faults : ℕ) → IsOfQueryFile t.contents name (left, faults) → Matches 1 (length (name ∷ rest)) o 1 ((left, faults) ∷ []) → LeavesAt (name ∷ rest) G o t (back t name left faults)
one_back name rest G o t left faults h m = record { contents = refl; count = 1; few = omega arith; due = λ n some few. absurd (omega (arith, some, few)); asked = refl; given_back = (left, faults) ∷ []; closed = refl; are_of = (h, tt); matches = m }

one_open : (name : List ℕ) (rest : List (List ℕ)) (G : Type 0) (t : FilesView) → LeavesAt (name ∷ rest) G (OpenFault Query) t (record { contents = t.contents; asked = t.asked ++ name ∷ []; closed = t.closed })
one_open name rest G t = record { contents = refl; count = 1; few = omega arith; due = λ n some few. absurd (omega (arith, some, few)); asked = refl; given_back = []; closed = sym (append-nil t.closed); are_of = tt; matches = (refl, refl, tt) }

query_matches : (all : ℕ) (o : Outcome) (left : Option (List ℕ)) (faults : ℕ) → IsOfQuery o → IsOpened o → (o ≡ ReadFault Query → 0 < faults) → Matches 1 all o 1 ((left, faults) ∷ [])
query_matches all Done left faults h p f = absurd h
query_matches all Usage left faults h p f = absurd h
query_matches all (SecondQueryFault place why) left faults h p f = absurd h
query_matches all (Unchainable which) left faults h p f = absurd h
query_matches all (ChainLineRefused place why) left faults h p f = absurd h
query_matches all (FileCount s c) left faults h p f = absurd h
query_matches all (QueryFault b c) left faults h p f = absurd h
query_matches all (LineRefused s l c) left faults h p f = absurd h
query_matches all (OpenFault file) left faults h p f = absurd p
query_matches all (ReadFault Query) left faults h p f = (refl, refl, record { source = (left, faults); there = refl; faults = f refl; before = tt })
query_matches all (ReadFault Left) left faults h p f = absurd h
query_matches all (ReadFault SecondQuery) left faults h p f = absurd h
query_matches all (ReadFault Right) left faults h p f = absurd h
query_matches all (TooWide t n r) left faults h p f = absurd h
query_matches all WriteFault left faults h p f = absurd h
query_matches all NoMemory left faults h p f = refl

-- a query file that gave no text
pub query_leaves : (name : List ℕ) (rest : List (List ℕ)) (G : FilesView → Type 0) (o : Outcome) (old new : Option FilesView) → IsOfQuery o → Uses Query name o old new → LeavesBy (name ∷ rest) G o old new
query_leaves name rest G o old new h (unasked e s) = subst (λ n. LeavesBy (name ∷ rest) G o old n) (sym s) (none_left (name ∷ rest) G o old (subst (λ p. Matches 1 (length (name ∷ rest)) p 0 []) (sym e) refl))
query_leaves name rest G o old new h (unopened e s) = told_by (name ∷ rest) G o old new (λ t k. (_, s ∙ ap (λ p. after_asking p name) k, subst (λ p. LeavesAt (name ∷ rest) (G t) p t (record { contents = t.contents; asked = t.asked ++ name ∷ []; closed = t.closed })) (sym e) (one_open name rest (G t) t)))
query_leaves name rest G o old new h (used left faults f c i p s) = told_by (name ∷ rest) G o old new (λ t k. (_, s ∙ ap (λ q. after_closing (after_asking q name) left faults) k, one_back name rest (G t) o t left faults (is_of old t name left faults k i) (query_matches (length (name ∷ rest)) o left faults h p f)))

-- a query file that was read, where nothing else is asked for
after_query : (name : List ℕ) (rest : List (List ℕ)) (G : FilesView → Type 0) (o : Outcome) (old new : Option FilesView) → ((left : Option (List ℕ)) (faults : ℕ) → faults ≡ 0 → Matches 1 (length (name ∷ rest)) o 1 ((left, faults) ∷ []))
    → Uses Query name Done old new → LeavesBy (name ∷ rest) G o old new
after_query name rest G o old new m (unasked e s) = cc
after_query name rest G o old new m (unopened e s) = cc
after_query name rest G o old new m (used left faults f c i p s) = told_by (name ∷ rest) G o old new (λ t k. (_, s ∙ ap (λ q. after_closing (after_asking q name) left faults) k, one_back name rest (G t) o t left faults (is_of old t name left faults k i) (m left faults (c tt))))

-- outcomes of a run that end it behind its query's file
abbrev pub IsRefused : Outcome → Type 0
IsRefused (FileCount streams given) = Unit {0}
IsRefused (QueryFault byte cause) = Unit {0}
IsRefused NoMemory = Unit {0}
IsRefused _ = ⊥

refused_matches : (all : ℕ) (o : Outcome) → IsRefused o → (left : Option (List ℕ)) (faults : ℕ) → faults ≡ 0 → Matches 1 all o 1 ((left, faults) ∷ [])
refused_matches all Done h left faults z = absurd h
refused_matches all Usage h left faults z = absurd h
refused_matches all (SecondQueryFault place why) h left faults z = absurd h
refused_matches all (Unchainable which) h left faults z = absurd h
refused_matches all (ChainLineRefused place why) h left faults z = absurd h
refused_matches all (FileCount s c) h left faults z = record { asked_for = refl; all = refl; good = (z, tt) }
refused_matches all (QueryFault b c) h left faults z = record { asked_for = refl; all = refl; good = (z, tt) }
refused_matches all (LineRefused s l c) h left faults z = absurd h
refused_matches all (OpenFault file) h left faults z = absurd h
refused_matches all (ReadFault file) h left faults z = absurd h
refused_matches all (TooWide t n r) h left faults z = absurd h
refused_matches all WriteFault h left faults z = absurd h
refused_matches all NoMemory h left faults z = refl

pub refused_leaves : (name : List ℕ) (rest : List (List ℕ)) (G : FilesView → Type 0) (o : Outcome) (old new : Option FilesView) → IsRefused o → Uses Query name Done old new → LeavesBy (name ∷ rest) G o old new
refused_leaves name rest G o old new h u = after_query name rest G o old new (refused_matches (length (name ∷ rest)) o h) u

show_matches : (o : Outcome) → IsOfShow o → (left : Option (List ℕ)) (faults : ℕ) → faults ≡ 0 → Matches 1 1 o 1 ((left, faults) ∷ [])
show_matches Done h left faults z = record { asked_for = refl; all = refl; good = (z, tt) }
show_matches Usage h left faults z = absurd h
show_matches (SecondQueryFault place why) h left faults z = absurd h
show_matches (Unchainable which) h left faults z = absurd h
show_matches (ChainLineRefused place why) h left faults z = absurd h
show_matches (FileCount s c) h left faults z = absurd h
show_matches (QueryFault b c) h left faults z = record { asked_for = refl; all = refl; good = (z, tt) }
show_matches (LineRefused s l c) h left faults z = absurd h
show_matches (OpenFault file) h left faults z = absurd h
show_matches (ReadFault file) h left faults z = absurd h
show_matches (TooWide t n r) h left faults z = absurd h
show_matches WriteFault h left faults z = (refl, refl)
show_matches NoMemory h left faults z = refl

pub show_leaves : (name : List ℕ) (G : FilesView → Type 0) (o : Outcome) (old new : Option FilesView) → IsOfShow o → Uses Query name Done old new → LeavesBy (name ∷ []) G o old new
show_leaves name G o old new h u = after_query name [] G o old new (show_matches o h) u

-- ---- the query's file and then the row files

-- a query's source that had no faults, and was given back before a row file was asked for
behind_query : (query : List ℕ) (names : List (List ℕ)) (G : FilesView → Type 0) (o : Outcome) (old mid new : Option FilesView) (left : Option (List ℕ)) (faults : ℕ) → faults ≡ 0 → IsOfTold old query left faults → IfSome old G → mid ≡ after_closing (after_asking old query) left faults → UsesRows names o mid new
    → LeavesBy (query ∷ names) G o old new
behind_query query names G o old mid new left faults z i g s u = told_by (query ∷ names) G o old new (λ t k. let m = s ∙ ap (λ x. after_closing (after_asking x query) left faults) k in (
  _,
  u.told ∙ ap (λ x. after_use x (take u.count names) u.given_back) m,
  record {
    contents = refl;
    count = suc u.count;
    few = omega (arith, u.few);
    due = λ n some few. subst (λ x. IfSome x G) k g;
    asked = append_assoc t.asked (query ∷ []) (take u.count names);
    given_back = (left, faults) ∷ u.given_back;
    closed = append_assoc t.closed ((left, faults) ∷ []) u.given_back;
    are_of = (is_of old t query left faults k i, subst (λ x. IfSome x (λ v. AreOf 0 v.contents u.given_back names)) m u.are_of);
    matches = u.matches (left, faults) z;
  },
))

-- row files that were asked for behind a query that was read
pub rows_leaves : (r : AskedRun) (o : Outcome) (old mid new : Option FilesView) → IfSome old (λ t. AsksFile t.contents (run r) 1) → Uses Query r.query Done old mid → UsesRows (row_names r) o mid new → LeavesTold (run r) o old new
rows_leaves r o old mid new g (unasked e s) u = cc
rows_leaves r o old mid new g (unopened e s) u = cc
rows_leaves r o old mid new g (used left faults f c i p s) u = behind_query r.query (row_names r) (λ t. AsksFile t.contents (run r) 1) o old mid new left faults (c tt) i g s u
