-- What a chain leaves of its files, from what it did with each.
use Rattle.std.proofs.Common.{◌≡◌, ◌<◌, ℕ, zero, suc, List, [], ◌∷◌, ◌++◌, length, take, Option, Some, None, IfSome, refl, sym, ◌∙◌, ap, subst, arith, append-nil, append_assoc}
use Rattle.saber_io.specs.Outside.{FilesView, Closed, after_asking, after_closing}
use Rattle.saber_plan.specs.Trees.{Tree}
use Rattle.saber_words.specs.Chain.{AskedChain}
use Rattle.saber_words.specs.Commands.{chain}
use Rattle.saber_notes.specs.declared.outcome.InputFile.TheVariants.{Query, Left, Right, SecondQuery}
use Rattle.saber_notes.specs.declared.outcome.Outcome.{Outcome}
use Rattle.saber_notes.specs.declared.outcome.Outcome.TheVariants.{Done, Usage, FileCount, QueryFault, SecondQueryFault, Unchainable, LineRefused, ChainLineRefused, OpenFault, ReadFault, TooWide, WriteFault, NoMemory}
use Rattle.saber_cli.specs.Outcomes.{IsClean, IsOfPlan, IsUnopened}
use Rattle.saber_cli.specs.Uses.{Uses, unasked, unopened, used, IsOfQueryFile, IsOpened}
use Rattle.saber_cli.specs.Due.{Contents, first_run, names_of, row_names, IsPlanned}
use Rattle.saber_cli.specs.Leaves.{AreOf, Leaves, Matches}
use Rattle.saber_cli.specs.Leaving.{AsksFile, LeavesTold}
use Rattle.saber_cli.specs.RowFiles.{UsesRows, after_use}
use Rattle.saber_cli.specs.Chained.{AsksChainRows}
use Rattle.saber_cli.specs.Chaining.{BothRead, IsMisfit, UsesChainRows, as_second}
use Rattle.saber_cli.proofs.LeavesLemmas.{none_asked}
use Rattle.saber_cli.proofs.RunLemmas.{used_contents}

-- the files of a chain
abbrev pub LeavesBoth : AskedChain → Outcome → FilesView → FilesView → Type 0
LeavesBoth a o old new = Leaves 2 (names_of (chain a)) (AsksFile old.contents (chain a)) (Matches 2 (length (names_of (chain a))) o) old new

-- ---- told or not

told_chain : (a : AskedChain) (o : Outcome) (old new : Option FilesView) → ((t : FilesView) → old ≡ Some t → (u : FilesView) × (new ≡ Some u) × LeavesBoth a o t u) → LeavesTold (chain a) o old new
told_chain a o None new h = tt
told_chain a o (Some t) new h = h t refl

-- a source is of its query's file, where files tell
abbrev IsOfTold : Option FilesView → List ℕ → Option (List ℕ) → ℕ → Type 0
IsOfTold old name left faults = IfSome old (λ t. IsOfQueryFile t.contents name (left, faults))

is_of : (old : Option FilesView) (t : FilesView) (name : List ℕ) (left : Option (List ℕ)) (faults : ℕ) → old ≡ Some t → IsOfTold old name left faults → IsOfQueryFile t.contents name (left, faults)
is_of old t name left faults e h = subst (λ o. IsOfTold o name left faults) e h

-- the first query has a plan
abbrev IsFirstPlanned : AskedChain → Contents → Type 0
IsFirstPlanned a files = (p : Tree) × IsPlanned files a.first p

-- the second query's file is due behind a first one with a plan
second_due : (a : AskedChain) (files : Contents) → IsFirstPlanned a files → (n : ℕ) → 0 < n → n < 2 → AsksFile files (chain a) n
second_due a files g zero some few = absurd (omega (arith, some))
second_due a files g (suc zero) some few = g
second_due a files g (suc (suc n)) some few = absurd (omega (arith, few))

-- and all are where both chain
rows_due : (a : AskedChain) (files : Contents) → AsksChainRows files a → (n : ℕ) → 0 < n → AsksFile files (chain a) n
rows_due a files r zero some = absurd (omega (arith, some))
rows_due a files r (suc zero) some = (r.first, r.plans.first)
rows_due a files r (suc (suc n)) some = r

-- ---- the first query's file alone

-- what files tell when a source of theirs was given back
abbrev back : FilesView → List ℕ → Option (List ℕ) → ℕ → FilesView
back t name left faults = record { contents = t.contents; asked = t.asked ++ name ∷ []; closed = t.closed ++ (left, faults) ∷ [] }

-- what they tell when one wasn't opened
abbrev lost : FilesView → List ℕ → FilesView
lost t name = record { contents = t.contents; asked = t.asked ++ name ∷ []; closed = t.closed }

one_back : (a : AskedChain) (o : Outcome) (t : FilesView) (left : Option (List ℕ)) (faults : ℕ) → IsOfQueryFile t.contents a.first (left, faults) → Matches 2 (length (names_of (chain a))) o 1 ((left, faults) ∷ []) → LeavesBoth a o t (back t a.first left faults)
one_back a o t left faults h m = record { contents = refl; count = 1; few = omega arith; due = λ n some few. absurd (omega (arith, some, few)); asked = refl; given_back = (left, faults) ∷ []; closed = refl; are_of = (h, tt); matches = m }

one_lost : (a : AskedChain) (t : FilesView) → LeavesBoth a (OpenFault Query) t (lost t a.first)
one_lost a t = record { contents = refl; count = 1; few = omega arith; due = λ n some few. absurd (omega (arith, some, few)); asked = refl; given_back = []; closed = sym (append-nil t.closed); are_of = tt; matches = (refl, refl, tt) }

plan_matches : (all : ℕ) (o : Outcome) (left : Option (List ℕ)) (faults : ℕ) → IsOfPlan o → IsOpened o → (o ≡ ReadFault Query → 0 < faults) → (IsClean o → faults ≡ 0) → Matches 2 all o 1 ((left, faults) ∷ [])
plan_matches all Done left faults h p f c = absurd h
plan_matches all Usage left faults h p f c = absurd h
plan_matches all (FileCount streams given) left faults h p f c = absurd h
plan_matches all (QueryFault place why) left faults h p f c = record { asked_for = refl; all = refl; good = (c tt, tt) }
plan_matches all (SecondQueryFault place why) left faults h p f c = absurd h
plan_matches all (Unchainable which) left faults h p f c = absurd h
plan_matches all (LineRefused side line why) left faults h p f c = absurd h
plan_matches all (ChainLineRefused line why) left faults h p f c = absurd h
plan_matches all (OpenFault file) left faults h p f c = absurd p
plan_matches all (ReadFault Query) left faults h p f c = (refl, refl, record { source = (left, faults); there = refl; faults = f refl; before = tt })
plan_matches all (ReadFault Left) left faults h p f c = absurd h
plan_matches all (ReadFault Right) left faults h p f c = absurd h
plan_matches all (ReadFault SecondQuery) left faults h p f c = absurd h
plan_matches all (TooWide task need cells) left faults h p f c = absurd h
plan_matches all WriteFault left faults h p f c = absurd h
plan_matches all NoMemory left faults h p f c = refl

-- a first query that gave no plan
pub first_leaves : (a : AskedChain) (o : Outcome) (old new : Option FilesView) → IsOfPlan o → Uses Query a.first o old new → LeavesTold (chain a) o old new
first_leaves a o old new h (unasked e s) = subst (λ n. LeavesTold (chain a) o old n) (sym s) (none_asked 2 (names_of (chain a)) (λ t. AsksFile t.contents (chain a)) o old (subst (λ p. Matches 2 (length (names_of (chain a))) p 0 []) (sym e) refl))
first_leaves a o old new h (unopened e s) = told_chain a o old new (λ t k. (_, s ∙ ap (λ p. after_asking p a.first) k, subst (λ p. LeavesBoth a p t (lost t a.first)) (sym e) (one_lost a t)))
first_leaves a o old new h (used left faults f c i p s) = told_chain a o old new (λ t k. (_, s ∙ ap (λ q. after_closing (after_asking q a.first) left faults) k, one_back a o t left faults (is_of old t a.first left faults k i) (plan_matches (length (names_of (chain a))) o left faults h p f c)))

-- ---- the second query's file behind it

second_matches : (all : ℕ) (o : Outcome) (l : Option (List ℕ)) (z : ℕ) (left : Option (List ℕ)) (faults : ℕ) → z ≡ 0 → IsOfPlan o → IsOpened o → (o ≡ ReadFault Query → 0 < faults) → (IsClean o → faults ≡ 0) → Matches 2 all (as_second o) 2 ((l, z) ∷ (left, faults) ∷ [])
second_matches all Done l z left faults n h p f c = absurd h
second_matches all Usage l z left faults n h p f c = absurd h
second_matches all (FileCount streams given) l z left faults n h p f c = absurd h
second_matches all (QueryFault place why) l z left faults n h p f c = record { asked_for = refl; all = refl; good = (n, (c tt, tt)) }
second_matches all (SecondQueryFault place why) l z left faults n h p f c = absurd h
second_matches all (Unchainable which) l z left faults n h p f c = absurd h
second_matches all (LineRefused side line why) l z left faults n h p f c = absurd h
second_matches all (ChainLineRefused line why) l z left faults n h p f c = absurd h
second_matches all (OpenFault file) l z left faults n h p f c = absurd p
second_matches all (ReadFault Query) l z left faults n h p f c = (refl, refl, record { source = (left, faults); there = refl; faults = f refl; before = (n, tt) })
second_matches all (ReadFault Left) l z left faults n h p f c = absurd h
second_matches all (ReadFault Right) l z left faults n h p f c = absurd h
second_matches all (ReadFault SecondQuery) l z left faults n h p f c = absurd h
second_matches all (TooWide task need cells) l z left faults n h p f c = absurd h
second_matches all WriteFault l z left faults n h p f c = absurd h
second_matches all NoMemory l z left faults n h p f c = refl

two_back : (a : AskedChain) (o : Outcome) (t : FilesView) (l : Option (List ℕ)) (z : ℕ) (left : Option (List ℕ)) (faults : ℕ) → IsFirstPlanned a t.contents → IsOfQueryFile t.contents a.first (l, z) → IsOfQueryFile t.contents a.second (left, faults)
    → Matches 2 (length (names_of (chain a))) o 2 ((l, z) ∷ (left, faults) ∷ []) → LeavesBoth a o t (back (back t a.first l z) a.second left faults)
two_back a o t l z left faults g h i m = record {
  contents = refl;
  count = 2;
  few = omega arith;
  due = second_due a t.contents g;
  asked = append_assoc t.asked (a.first ∷ []) (a.second ∷ []);
  given_back = (l, z) ∷ (left, faults) ∷ [];
  closed = append_assoc t.closed ((l, z) ∷ []) ((left, faults) ∷ []);
  are_of = (h, (i, tt));
  matches = m;
}

two_lost : (a : AskedChain) (t : FilesView) (l : Option (List ℕ)) (z : ℕ) → z ≡ 0 → IsFirstPlanned a t.contents → IsOfQueryFile t.contents a.first (l, z) → LeavesBoth a (OpenFault SecondQuery) t (lost (back t a.first l z) a.second)
two_lost a t l z n g h = record {
  contents = refl;
  count = 2;
  few = omega arith;
  due = second_due a t.contents g;
  asked = append_assoc t.asked (a.first ∷ []) (a.second ∷ []);
  given_back = (l, z) ∷ [];
  closed = refl;
  are_of = (h, tt);
  matches = (refl, refl, (n, tt));
}

-- behind a first query's source that had no faults
behind_first : (a : AskedChain) (o : Outcome) (old mid new : Option FilesView) (l : Option (List ℕ)) (z : ℕ) → z ≡ 0 → IsOfTold old a.first l z → IfSome old (λ t. IsFirstPlanned a t.contents) → mid ≡ after_closing (after_asking old a.first) l z → IsOfPlan o → Uses Query a.second o mid new
    → LeavesTold (chain a) (as_second o) old new
behind_first a o old mid new l z n i g s h (unasked e s') = told_chain a (as_second o) old new (λ t k. (_, s' ∙ s ∙ ap (λ q. after_closing (after_asking q a.first) l z) k, subst (λ p. LeavesBoth a (as_second p) t (back t a.first l z)) (sym e) (one_back a NoMemory t l z (is_of old t a.first l z k i) refl)))
behind_first a o old mid new l z n i g s h (unopened e s') = told_chain a (as_second o) old new (λ t k. (
  _,
  s' ∙ ap (λ x. after_asking x a.second) (s ∙ ap (λ q. after_closing (after_asking q a.first) l z) k),
  subst (λ p. LeavesBoth a (as_second p) t (lost (back t a.first l z) a.second)) (sym e) (two_lost a t l z n (subst (λ x. IfSome x (λ v. IsFirstPlanned a v.contents)) k g) (is_of old t a.first l z k i)),
))
behind_first a o old mid new l z n i g s h (used left faults f c j p s') = told_chain a (as_second o) old new (λ t k. let m : mid ≡ Some (back t a.first l z) = s ∙ ap (λ q. after_closing (after_asking q a.first) l z) k in (
  _,
  s' ∙ ap (λ x. after_closing (after_asking x a.second) left faults) m,
  two_back a (as_second o) t l z left faults (subst (λ x. IfSome x (λ v. IsFirstPlanned a v.contents)) k g) (is_of old t a.first l z k i) (is_of mid (back t a.first l z) a.second left faults m j) (second_matches (length (names_of (chain a))) o l z left faults n h p f c),
))

-- a second query that gave no plan
pub second_leaves : (a : AskedChain) (o : Outcome) (old mid new : Option FilesView) → IsOfPlan o → IfSome old (λ t. IsFirstPlanned a t.contents) → Uses Query a.first Done old mid → Uses Query a.second o mid new → LeavesTold (chain a) (as_second o) old new
second_leaves a o old mid new h g (unasked e s) u = cc
second_leaves a o old mid new h g (unopened e s) u = cc
second_leaves a o old mid new h g (used l z f c i p s) u = behind_first a o old mid new l z (c tt) i g s h u

-- ---- both queries' files, read

two_used : (old : Option FilesView) (first second : List ℕ) (one two : Closed) → after_closing (after_asking (after_closing (after_asking old first) one.0 one.1) second) two.0 two.1 ≡ after_use old (first ∷ second ∷ []) (one ∷ two ∷ [])
two_used None first second one two = refl
two_used (Some t) first second one two = λ i. Some (record { contents = t.contents; asked = append_assoc t.asked (first ∷ []) (second ∷ []) i; closed = append_assoc t.closed (one ∷ []) (two ∷ []) i })

both_used_by : (first second : List ℕ) (old mid new : Option FilesView) (l : Option (List ℕ)) (z : ℕ) (left : Option (List ℕ)) (faults : ℕ) → z ≡ 0 → faults ≡ 0 → IsOfTold old first l z → IsOfTold old second left faults → mid ≡ after_closing (after_asking old first) l z → new ≡ after_closing (after_asking mid second) left faults
    → BothRead first second old new
both_used_by first second old mid new l z left faults n m i j s s' = record {
  one = (l, z);
  two = (left, faults);
  one_good = n;
  two_good = m;
  told = s' ∙ ap (λ x. after_closing (after_asking x second) left faults) s ∙ two_used old first second (l, z) (left, faults);
  one_of = i;
  two_of = j;
}

pub both_read : (first second : List ℕ) (old mid new : Option FilesView) → Uses Query first Done old mid → Uses Query second Done mid new → BothRead first second old new
both_read first second old mid new (unasked e s) v = cc
both_read first second old mid new (unopened e s) v = cc
both_read first second old mid new (used l z f c i p s) (unasked e s') = cc
both_read first second old mid new (used l z f c i p s) (unopened e s') = cc
both_read first second old mid new (used l z f c i p s) (used left faults f' c' j p' s') =
    both_used_by first second old mid new l z left faults (c tt) (c' tt) i (used_contents (λ files. IsOfQueryFile files second (left, faults)) first old mid (used l z f c i p s) j) s s'

misfit_matches : (all : ℕ) (p q : Tree) (n : ℕ) (o : Outcome) (one two : Closed) → IsMisfit p q n o → one.1 ≡ 0 → two.1 ≡ 0 → Matches 2 all o 2 (one ∷ two ∷ [])
misfit_matches all p q n Done one two h z w = absurd h
misfit_matches all p q n Usage one two h z w = absurd h
misfit_matches all p q n (FileCount streams given) one two h z w = record { asked_for = refl; all = refl; good = (z, (w, tt)) }
misfit_matches all p q n (QueryFault place why) one two h z w = absurd h
misfit_matches all p q n (SecondQueryFault place why) one two h z w = absurd h
misfit_matches all p q n (Unchainable which) one two h z w = record { asked_for = refl; all = refl; good = (z, (w, tt)) }
misfit_matches all p q n (LineRefused side line why) one two h z w = absurd h
misfit_matches all p q n (ChainLineRefused line why) one two h z w = absurd h
misfit_matches all p q n (OpenFault file) one two h z w = absurd h
misfit_matches all p q n (ReadFault file) one two h z w = absurd h
misfit_matches all p q n (TooWide task need cells) one two h z w = absurd h
misfit_matches all p q n WriteFault one two h z w = absurd h
misfit_matches all p q n NoMemory one two h z w = absurd h

-- two plans that make no chain
pub misfit_leaves : (a : AskedChain) (p q : Tree) (n : ℕ) (o : Outcome) (old new : Option FilesView) → IsMisfit p q n o → IfSome old (λ t. IsFirstPlanned a t.contents) → BothRead a.first a.second old new → LeavesTold (chain a) o old new
misfit_leaves a p q n o old new h g b = told_chain a o old new (λ t k. (
  _,
  b.told ∙ ap (λ x. after_use x (a.first ∷ a.second ∷ []) (b.one ∷ b.two ∷ [])) k,
  record {
    contents = refl;
    count = 2;
    few = omega arith;
    due = second_due a t.contents (subst (λ x. IfSome x (λ v. IsFirstPlanned a v.contents)) k g);
    asked = refl;
    given_back = b.one ∷ b.two ∷ [];
    closed = refl;
    are_of = (subst (λ x. IfSome x (λ v. IsOfQueryFile v.contents a.first b.one)) k b.one_of, (subst (λ x. IfSome x (λ v. IsOfQueryFile v.contents a.second b.two)) k b.two_of, tt));
    matches = misfit_matches (length (names_of (chain a))) p q n o b.one b.two h b.one_good b.two_good;
  },
))

-- ---- the row files behind them

-- row files that were asked for behind two queries that were read
pub chain_rows_leave : (a : AskedChain) (o : Outcome) (old mid new : Option FilesView) → IfSome old (λ t. AsksChainRows t.contents a) → BothRead a.first a.second old mid → UsesChainRows (row_names (first_run a)) o mid new → LeavesTold (chain a) o old new
chain_rows_leave a o old mid new g b u = told_chain a o old new (λ t k. let m = b.told ∙ ap (λ x. after_use x (a.first ∷ a.second ∷ []) (b.one ∷ b.two ∷ [])) k in let r : AsksChainRows t.contents a = subst (λ x. IfSome x (λ v. AsksChainRows v.contents a)) k g in (
  _,
  u.told ∙ ap (λ x. after_use x (take u.count (row_names (first_run a))) u.given_back) m,
  record {
    contents = refl;
    count = suc (suc u.count);
    few = omega (arith, u.few);
    due = λ n some few. rows_due a t.contents r n some;
    asked = append_assoc t.asked (a.first ∷ a.second ∷ []) (take u.count (row_names (first_run a)));
    given_back = b.one ∷ b.two ∷ u.given_back;
    closed = append_assoc t.closed (b.one ∷ b.two ∷ []) u.given_back;
    are_of = (
      subst (λ x. IfSome x (λ v. IsOfQueryFile v.contents a.first b.one)) k b.one_of,
      (subst (λ x. IfSome x (λ v. IsOfQueryFile v.contents a.second b.two)) k b.two_of, subst (λ x. IfSome x (λ v. AreOf 0 v.contents u.given_back (row_names (first_run a)))) m u.are_of),
    );
    matches = u.matches b.one b.two b.one_good b.two_good;
  },
))

unopened_matches : (n : ℕ) (o : Outcome) (k : ℕ) (one two : Closed) (given_back : List Closed) → IsUnopened o → one.1 ≡ 0 → Matches 1 (suc n) o (suc k) (two ∷ given_back) → Matches 2 (suc (suc n)) o (suc (suc k)) (one ∷ two ∷ given_back)
unopened_matches n Done k one two given_back h z m = absurd h
unopened_matches n Usage k one two given_back h z m = absurd h
unopened_matches n (FileCount streams given) k one two given_back h z m = absurd h
unopened_matches n (QueryFault place why) k one two given_back h z m = absurd h
unopened_matches n (SecondQueryFault place why) k one two given_back h z m = absurd h
unopened_matches n (Unchainable which) k one two given_back h z m = absurd h
unopened_matches n (LineRefused side line why) k one two given_back h z m = absurd h
unopened_matches n (ChainLineRefused line why) k one two given_back h z m = absurd h
unopened_matches n (OpenFault Query) k one two given_back h z m = absurd h
unopened_matches n (OpenFault Left) k one two given_back h z m = (omega (arith, m.0), omega (arith, m.1), (z, m.2))
unopened_matches n (OpenFault Right) k one two given_back h z m = (omega (arith, m.0), omega (arith, m.1), (z, m.2))
unopened_matches n (OpenFault SecondQuery) k one two given_back h z m = absurd h
unopened_matches n (ReadFault file) k one two given_back h z m = absurd h
unopened_matches n (TooWide task need cells) k one two given_back h z m = absurd h
unopened_matches n WriteFault k one two given_back h z m = absurd h
unopened_matches n NoMemory k one two given_back h z m = omega (arith, m)

-- one of them wasn't opened
pub unopened_uses : (names : List (List ℕ)) (o : Outcome) (old new : Option FilesView) → IsUnopened o → UsesRows names o old new → UsesChainRows names o old new
unopened_uses names o old new h u = record {
  count = u.count;
  few = u.few;
  given_back = u.given_back;
  told = u.told;
  are_of = u.are_of;
  matches = λ one two z w. unopened_matches (length names) o u.count one two u.given_back h z (u.matches two w);
}
