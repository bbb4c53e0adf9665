-- What several queries over the left file come to, from what each part of the command did.
use Rattle.std.proofs.Common.{◌≡◌, ◌≤◌, ◌≢◌, inl, inr, ℕ, zero, suc, ◌+◌, ◌-◌, List, [], ◌∷◌, ◌++◌, length, map, take, Option, Some, None, IfSome, refl, sym, ◌∙◌, ap, subst, arith, append-nil, append_assoc}
use Rattle.std.specs.Prelude.{option_and_then, slice_get, min}
use Rattle.std.specs.List.{AllByRecursion, AllZip}
use Rattle.saber_io.specs.Outside.{FilesView, Closed}
use Rattle.saber_plan.specs.Outputs.{Rose, raised_by}
use Rattle.saber_plan.specs.declared.plans.Plan.{Plan}
use Rattle.saber_plan.specs.declared.rows.Side.TheVariants as sides
use Rattle.saber_plan.specs.declared.ends.RunEnd.{RunEnd}
use Rattle.saber_plan.specs.declared.ends.RunEnd.TheVariants as ends
use Rattle.saber_plan.specs.Runs.{GivesOver, writes_over}
use Rattle.saber_plan.specs.Sizes.{limits_of}
use Rattle.saber_plan.specs.Trees.{Tree, tree_of}
use Rattle.saber_words.specs.Commands.{run}
use Rattle.saber_words.specs.declared.commands.WordsFault.{WordsFault}
use Rattle.saber_words.specs.declared.commands.WordsFault.TheVariants as fault
use Rattle.saber_words.specs.Many.{AskedMany, many_of}
use Rattle.saber_notes.specs.Notes.{status_of}
use Rattle.saber_notes.specs.declared.early.Early.{Early}
use Rattle.saber_notes.specs.declared.early.Early.TheVariants.{Usage, QueryUnopened, QueryUnread, QueryFault, Unshareable, LeftUnopened, CreateFault, NoMemory}
use Rattle.saber_notes.specs.declared.outcome.Outcome.{Outcome}
use Rattle.saber_notes.specs.declared.outcome.Outcome.TheVariants.{WriteFault}
use Rattle.saber_cli.proofs.AloneLemmas.{runs_tell}
use Rattle.saber_cli.proofs.WriteLemmas.{same_run, told_writes}
use Rattle.saber_cli.specs.Due.{Contents, HasRun, contents_of, IsPlanned}
use Rattle.saber_cli.specs.Endings.{ended_as}
use Rattle.saber_cli.specs.Gives.{Gives}
use Rattle.saber_cli.specs.Leaves.{AreOf, HadFaults, HadNoFaults, Leaves}
use Rattle.saber_cli.specs.RowFiles.{after_use}
use Rattle.saber_cli.specs.Taken.{TakesOf}
use Rattle.saber_top.specs.declared.ended.TopEnd.TheVariants.{Before, Each}
use Rattle.saber_top.specs.declared.parts.Part.{Part}
use Rattle.saber_top.specs.Alone.{AnswersAlone, CutTakesLeft, EachAnswers, TakesLeft}
use Rattle.saber_top.specs.Commands.{alone, many_names, out_names}
use Rattle.saber_top.specs.Comes.{ComesTo, IsTrueOf}
use Rattle.saber_top.specs.Ends.{EndsUnreadMany, IsCreateEnd, unread_many}
use Rattle.saber_top.specs.Made.{EarlyMade, IsOfLeft, MadeFirst, naming_all}
use Rattle.saber_top.specs.ManyLeaves.{AllRead, AsksMany, EarlyFits, LastHadFaults, LeavesManyTold, LeftAlone, LeftRan, PlannedBefore, RanFits, SharedFits, UsesFirst, UsesLeft}
use Rattle.saber_top.specs.Queries.{ArePlanned, EndsEarly, HasStream, IsThere, LackShared, MayShare, first_columns}
use Rattle.saber_top.specs.Shared.{RunsOver}
use Rattle.saber_top.proofs.LeftLemmas.{read_by}
use Rattle.saber_top.proofs.QueryLemmas.{for_all, kept, planned_front, some_map, used_twice}

-- ---- lists

take_behind : (xs ys : List (List ℕ)) (n : ℕ) → take (length xs + n) (xs ++ ys) ≡ xs ++ take n ys
take_behind [] ys n = let none : length {A = List ℕ} [] + n ≡ n = omega arith in ap (λ k. take k ys) none
take_behind (x ∷ xs) ys n =
    let one : length (x ∷ xs) + n ≡ suc (length xs + n) = omega arith in
    ap (λ k. take k (x ∷ (xs ++ ys))) one ∙ ap (λ z. x ∷ z) (take_behind xs ys n)

take_front : (xs ys : List (List ℕ)) (n : ℕ) → n ≤ length xs → take n (xs ++ ys) ≡ take n xs
take_front xs ys zero h = refl
take_front [] ys (suc n) h = absurd (omega (arith, h))
take_front (x ∷ xs) ys (suc n) h = ap (λ z. x ∷ z) (take_front xs ys n (omega (arith, h)))

no_faults_both : (xs ys : List Closed) → HadNoFaults xs → HadNoFaults ys → HadNoFaults (xs ++ ys)
no_faults_both [] ys h k = k
no_faults_both (x ∷ xs) ys h k = (h.0, no_faults_both xs ys h.1 k)

long_both : (xs ys : List Closed) → length (xs ++ ys) ≡ length xs + length ys
long_both [] ys = omega arith
long_both (x ∷ xs) ys = omega (arith, long_both xs ys)

-- sources of queries' files, and those of others behind them
are_of_both : (files : Contents) (names others : List (List ℕ)) (xs ys : List Closed) → length xs ≡ length names → AreOf (length names) files xs names → AreOf 0 files ys others → AreOf (length names) files (xs ++ ys) (names ++ others)
are_of_both files [] others [] ys e h k = k
are_of_both files [] others (x ∷ xs) ys e h k = absurd h
are_of_both files (name ∷ names) others [] ys e h k = absurd (omega (arith, e))
are_of_both files (name ∷ names) others (x ∷ xs) ys e h k = (h.0, are_of_both files names others xs ys (omega (arith, e)) h.1 k)

are_of_more : (files : Contents) (names others : List (List ℕ)) (xs : List Closed) → AreOf (length names) files xs names → AreOf (length names) files xs (names ++ others)
are_of_more files names others [] h = tt
are_of_more files [] others (x ∷ xs) h = absurd h
are_of_more files (name ∷ names) others (x ∷ xs) h = (h.0, are_of_more files names others xs h.1)

-- ---- the files: behind queries that were all read

-- what the left file's part of an end comes to, behind those of all queries
abbrev pub Follows : ℕ → (ℕ → List Closed → Type 0) → (ℕ → List Closed → Type 0) → Type 0
Follows all mine whole = (count : ℕ) (queries more : List Closed) → length queries ≡ all → HadNoFaults queries → mine count more → whole (all + count) (queries ++ more)

-- all files of the call
abbrev pub LeavesMany : AskedMany → (ℕ → List Closed → Type 0) → FilesView → FilesView → Type 0
LeavesMany m fits old new = Leaves (length m.queries) (many_names m) (AsksMany old.contents m) fits old new

told_leaves : (m : AskedMany) (fits : ℕ → List Closed → Type 0) (old new : Option FilesView) → ((t : FilesView) → old ≡ Some t → (u : FilesView) × (new ≡ Some u) × LeavesMany m fits t u) → LeavesManyTold m fits old new
told_leaves m fits None new h = tt
told_leaves m fits (Some t) new h = h t refl

told_at : (P : FilesView → Type 0) (old : Option FilesView) (t : FilesView) → old ≡ Some t → IfSome old P → P t
told_at P old t e h = subst (λ o. IfSome o P) e h

pub left_leaves : (m : AskedMany) (mine whole : ℕ → List Closed → Type 0) (plans : List Tree) (old mid new : Option FilesView) → Follows (length m.queries) mine whole → IfSome old (λ t. ArePlanned t.contents m.queries plans) → MayShare plans
    → AllRead m.queries old mid → UsesLeft m.left mine mid new → LeavesManyTold m whole old new
left_leaves m mine whole plans old mid new f p share all u = told_leaves m whole old new (λ t k.
    let planned : ArePlanned t.contents m.queries plans = told_at (λ v. ArePlanned v.contents m.queries plans) old t k p in
    let used = used_twice old mid new m.queries (take u.count (m.left ∷ [])) all.given_back u.given_back all.told u.told in (
      _,
      used ∙ ap (λ o. after_use o (m.queries ++ take u.count (m.left ∷ [])) (all.given_back ++ u.given_back)) k,
      record {
        contents = refl;
        count = length m.queries + u.count;
        few = few_both m.queries m.left u.count u.few;
        asked = ap (λ x. t.asked ++ x) (sym (take_behind m.queries (m.left ∷ []) u.count));
        due = λ n some l. (planned_front t.contents n m.queries plans planned, λ all_read. record { plans = plans; planned = planned; share = share });
        given_back = all.given_back ++ u.given_back;
        closed = refl;
        are_of = are_of_both t.contents m.queries (m.left ∷ []) all.given_back u.given_back all.as_many (told_at (λ v. AreOf (length m.queries) v.contents all.given_back m.queries) old t k all.are_of)
            (told_at (λ v. AreOf 0 v.contents u.given_back (m.left ∷ [])) old t k (kept (λ files. AreOf 0 files u.given_back (m.left ∷ [])) m.queries all.given_back old mid all.told u.are_of));
        matches = f u.count all.given_back u.given_back all.as_many all.good u.matches;
      },
    ))
  where
    few_both : (names : List (List ℕ)) (name : List ℕ) (n : ℕ) → n ≤ 1 → length names + n ≤ length (names ++ name ∷ [])
    few_both [] name n h = omega (arith, h)
    few_both (x ∷ xs) name n h = omega (arith, few_both xs name n h)

pub ran_follows : (all : ℕ) (outcomes : List Outcome) → Follows all (LeftRan outcomes) (RanFits all outcomes)
ran_follows all outcomes count queries more e good h = record {
  asked_for = omega (arith, h.asked_for);
  queries = queries;
  left = h.left;
  are = ap (λ x. queries ++ x) h.are;
  as_many = e;
  good = good;
  fits = h.fits;
}

pub early_follows : (all : ℕ) (e : Early) → Follows all (LeftAlone e) (EarlyFits all e)
early_follows all Usage count queries more n good h = absurd h
early_follows all (QueryUnopened number) count queries more n good h = absurd h
early_follows all (QueryUnread number) count queries more n good h = absurd h
early_follows all (QueryFault number byte cause) count queries more n good h = absurd h
early_follows all (Unshareable number) count queries more n good h = absurd h
early_follows all LeftUnopened count queries more n good h =
    let none : length more ≡ 0 = ap length h.1 in
    (omega (arith, h.0), omega (arith, long_both queries more, n, none, h.0), no_faults_both queries more good (subst HadNoFaults (sym h.1) tt))
early_follows all (CreateFault number) count queries more n good h = record { asked_for = omega (arith, h.asked_for); all = omega (arith, long_both queries more, n, h.all); good = no_faults_both queries more good h.good }
early_follows all NoMemory count queries more n good h = omega (arith, long_both queries more, n, h)

-- ---- the files: where a query is at fault

last_there : (xs : List Closed) (x : Closed) → slice_get (xs ++ x ∷ []) (length xs) ≡ Some x
last_there [] x = refl
last_there (y ∷ xs) x = last_there xs x

front_good : (n : ℕ) (xs ys : List Closed) → n ≤ length xs → HadNoFaults xs → HadNoFaults (take n (xs ++ ys))
front_good zero xs ys l h = tt
front_good (suc n) [] ys l h = absurd (omega (arith, l))
front_good (suc n) (x ∷ xs) ys l h = (h.0, front_good n xs ys (omega (arith, l)) h.1)

-- the source that was given back last is the one at the place of the query
last_at : (all number : ℕ) (back : List Closed) → length back ≡ number → LastHadFaults back → HadFaults all back (number - 1)
last_at all number back e h =
    let place : length h.before ≡ number - 1 = omega (arith, e, ap length h.are, long_both h.before (h.last ∷ [])) in
    record {
      source = h.last;
      there = ap (slice_get back) (sym place) ∙ ap (λ l. slice_get l (length h.before)) h.are ∙ last_there h.before h.last;
      faults = h.faults;
      before = subst HadNoFaults (ap (take (min (number - 1) all)) (sym h.are)) (front_good (min (number - 1) all) h.before (h.last ∷ []) (omega (arith, place)) h.good);
    }

shared_fits : (names : List (List ℕ)) (count : ℕ) (e : Early) (back : List Closed) → SharedFits names e count back → EarlyFits (length names) e count back
shared_fits names count Usage back h = absurd h
shared_fits names count (QueryUnopened number) back h = (omega (arith, h.0), h.1, h.2)
shared_fits names count (QueryUnread number) back h = (omega (arith, h.0), h.1, last_at (length names) number back (omega (arith, h.0, h.1)) h.2)
shared_fits names count (QueryFault number byte cause) back h = record { asked_for = omega (arith, h.0); all = h.1; good = h.2 }
shared_fits names count (Unshareable number) back h = h
shared_fits names count LeftUnopened back h = absurd h
shared_fits names count (CreateFault number) back h = absurd h
shared_fits names count NoMemory back h = h

pub shared_no_create : (names : List (List ℕ)) (e : Early) (old new : Option FilesView) → UsesFirst names (SharedFits names e) old new → IsCreateEnd e → ⊥
shared_no_create names Usage old new u k = k
shared_no_create names (QueryUnopened number) old new u k = k
shared_no_create names (QueryUnread number) old new u k = k
shared_no_create names (QueryFault number byte cause) old new u k = k
shared_no_create names (Unshareable number) old new u k = k
shared_no_create names LeftUnopened old new u k = k
shared_no_create names (CreateFault number) old new u k = u.matches
shared_no_create names NoMemory old new u k = k

pub shared_no_usage : (names : List (List ℕ)) (e : Early) (old new : Option FilesView) → UsesFirst names (SharedFits names e) old new → e ≢ Usage
shared_no_usage names e old new u k = subst (λ x. SharedFits names x u.count u.given_back) k u.matches

pub shared_leaves : (m : AskedMany) (e : Early) (old new : Option FilesView) → UsesFirst m.queries (SharedFits m.queries e) old new → LeavesManyTold m (EarlyFits (length m.queries) e) old new
shared_leaves m e old new u = told_leaves m (EarlyFits (length m.queries) e) old new (λ t k. (
  _,
  u.told ∙ ap (λ o. after_use o (take u.count m.queries) u.given_back) k,
  record {
    contents = refl;
    count = u.count;
    few = few_front m.queries m.left u.count u.few;
    asked = ap (λ x. t.asked ++ x) (sym (take_front m.queries (m.left ∷ []) u.count u.few));
    due = λ n some l. (told_at (λ v. PlannedBefore v.contents u.count m.queries) old t k u.behind n l, λ all_read. absurd (omega (arith, all_read, l, u.few)));
    given_back = u.given_back;
    closed = refl;
    are_of = are_of_more t.contents m.queries (m.left ∷ []) u.given_back (told_at (λ v. AreOf (length m.queries) v.contents u.given_back m.queries) old t k u.are_of);
    matches = shared_fits m.queries u.count e u.given_back u.matches;
  },
))
  where
    few_front : (names : List (List ℕ)) (name : List ℕ) (n : ℕ) → n ≤ length names → n ≤ length (names ++ name ∷ [])
    few_front [] name n h = omega (arith, h)
    few_front (x ∷ xs) name zero h = omega arith
    few_front (x ∷ xs) name (suc n) h = let l : n ≤ length xs = omega (arith, h) in omega (arith, few_front xs name n l)

-- ---- why none was run

pub shared_early : (files : Contents) (m : AskedMany) (e : Early) → LackShared files m.queries e → EndsEarly files m e
shared_early files m Usage h = absurd h
shared_early files m (QueryUnopened number) h = h
shared_early files m (QueryUnread number) h = h
shared_early files m (QueryFault number byte cause) h = h
shared_early files m (Unshareable number) h = h
shared_early files m LeftUnopened h = absurd h
shared_early files m (CreateFault number) h = absurd h
shared_early files m NoMemory h = tt

-- ---- the parts

write_by : (ring : ℕ) (e : RunEnd) → ended_as ring e ≡ WriteFault → e ≡ ends.WriteFault
write_by ring ends.AllRead k = cc
write_by ring (ends.Bad side line cause) k = cc
write_by ring (ends.ReadFault side) k = cc
write_by ring (ends.TooWide task need) k = cc
write_by ring ends.WriteFault k = refl
write_by ring ends.NoMemory k = cc

has_run : (files : Contents) (m : AskedMany) (query : List ℕ) (q : Tree) → IsPlanned files query q → HasRun files (alone m query) q
has_run files m query q p = record { text = p.text; there = p.there; plan = p.plan }

module _ {T : Type 0} (written : T → Option (List ℕ)) (failed made : T → ℕ) (m : AskedMany) (old mid new : Option FilesView) where
  abbrev pub Over : Tree → Part T → Type 0
  Over q part = RunsOver written failed made q m.sizes m.left mid new part

  answers_one : (t : FilesView) (query : List ℕ) (q : Tree) (part : Part T) (bytes : List ℕ) → IsPlanned t.contents query q → length q.streams ≡ 1 → contents_of t.contents (m.left ∷ []) ≡ Some (bytes ∷ [])
      → (r : Over q part) → IfSome (contents_of t.contents (m.left ∷ [])) (λ all. GivesOver q m.sizes all r.end part.tasks r.out)
      → IfSome (contents_of t.contents (m.left ∷ [])) (λ all. made part.out ≡ raised_by 0 (writes_over q m.sizes all r.end part.tasks)) → AnswersAlone written made t.contents (alone m query) part
  answers_one t query q part bytes p one there r g w = record {
    out = r.out;
    holds = r.holds;
    gives = subst (λ o. Gives t.contents (run (alone m query)) o part.tasks r.out) (sym r.tells.outcome_is)
        (runs_tell t.contents (alone m query) q (bytes ∷ []) r.end part.tasks r.out (has_run t.contents m query q p) one there (subst (λ x. IfSome x (λ all. GivesOver q m.sizes all r.end part.tasks r.out)) there g));
    one_write = same_run t.contents (alone m query) q part.outcome part.tasks 0 (made part.out) (contents_of t.contents (m.left ∷ [])) (has_run t.contents m query q p)
        (told_writes q m.sizes (contents_of t.contents (m.left ∷ [])) r.end part.outcome part.tasks 0 (made part.out) r.tells.outcome_is w);
  }

  answers_each : (t u : FilesView) (names : List (List ℕ)) (plans : List Plan) (parts : List (Part T)) (columns : ℕ) (bytes : List ℕ) → mid ≡ Some u → u.contents ≡ t.contents → ArePlanned t.contents names (map tree_of plans)
      → AllByRecursion (HasStream columns) (map tree_of plans) → contents_of t.contents (m.left ∷ []) ≡ Some (bytes ∷ []) → AllZip (λ plan part. Over (tree_of plan) part) plans parts → AllZip (λ query part. AnswersAlone written made t.contents (alone m query) part) names parts
  answers_each t u [] [] [] columns bytes e same p share there r = tt
  answers_each t u [] [] (part ∷ parts) columns bytes e same p share there r = absurd r
  answers_each t u [] (plan ∷ plans) parts columns bytes e same p share there r = absurd p
  answers_each t u (name ∷ names) [] parts columns bytes e same p share there r = absurd p
  answers_each t u (name ∷ names) (plan ∷ plans) [] columns bytes e same p share there r = absurd r
  answers_each t u (name ∷ names) (plan ∷ plans) (part ∷ parts) columns bytes e same p share there r =
      let gives = subst (λ o. IfSome o (λ (v : FilesView). IfSome (contents_of v.contents (m.left ∷ [])) (λ all. GivesOver (tree_of plan) m.sizes all r.0.end part.tasks r.0.out))) e r.0.gives in
      let writes = subst (λ o. IfSome o (λ (v : FilesView). IfSome (contents_of v.contents (m.left ∷ [])) (λ all. made part.out ≡ raised_by 0 (writes_over (tree_of plan) m.sizes all r.0.end part.tasks)))) e r.0.one_write in (
        answers_one t name (tree_of plan) part bytes p.0 share.0.one there r.0 (subst (λ files. IfSome (contents_of files (m.left ∷ [])) (λ all. GivesOver (tree_of plan) m.sizes all r.0.end part.tasks r.0.out)) same gives)
            (subst (λ files. IfSome (contents_of files (m.left ∷ [])) (λ all. made part.out ≡ raised_by 0 (writes_over (tree_of plan) m.sizes all r.0.end part.tasks))) same writes),
        answers_each t u names plans parts columns bytes e same p.1 share.1 there r.1,
      )

  -- the parts say what runs of the queries alone say
  pub answers_told : (plans : List Plan) (parts : List (Part T)) → IfSome old (λ t. ArePlanned t.contents m.queries (map tree_of plans)) → MayShare (map tree_of plans) → AllRead m.queries old mid → IfSome mid (λ u. IsThere u.contents m.left)
      → AllZip (λ plan part. Over (tree_of plan) part) plans parts → EachAnswers written made m old parts
  answers_told plans parts p share all left r = some_told old refl
    where
      some_told : (o : Option FilesView) → old ≡ o → IfSome o (λ t. AllZip (λ query part. AnswersAlone written made t.contents (alone m query) part) m.queries parts)
      some_told None e = tt
      some_told (Some t) e =
          let u : FilesView = record { contents = t.contents; asked = t.asked ++ m.queries; closed = t.closed ++ all.given_back } in
          let mid_is : mid ≡ Some u = all.told ∙ ap (λ x. after_use x m.queries all.given_back) e in
          let there : IsThere t.contents m.left = told_at (λ v. IsThere v.contents m.left) mid u mid_is left in
          answers_each t u m.queries plans parts (first_columns (map tree_of plans)) there.0 mid_is refl (told_at (λ v. ArePlanned v.contents m.queries (map tree_of plans)) old t e p) share (ap (option_and_then (λ bytes. Some (bytes ∷ []))) there.1) r

  takes_one : (query : List ℕ) (q : Tree) (part : Part T) → IfSome old (λ t. IsPlanned t.contents query q) → AllRead m.queries old mid → Over q part → CutTakesLeft m old new query part
  takes_one query q part p all r k = some_told old refl
    where
      some_told : (o : Option FilesView) → old ≡ o → IfSome o (λ t. (u : FilesView) × (new ≡ Some u) × TakesLeft m (alone m query) part.tasks t u)
      some_told None e = tt
      some_told (Some t) e =
          let one = r.taken sides.Left (read_by m.sizes.ring r.end sides.Left (sym r.tells.outcome_is ∙ k)) in (
            _,
            used_twice old mid new m.queries (m.left ∷ []) all.given_back (one.source ∷ []) all.told one.told ∙ ap (λ x. after_use x (m.queries ++ m.left ∷ []) (all.given_back ++ one.source ∷ [])) e,
            (
              q,
              has_run t.contents m query q (subst (λ x. IfSome x (λ v. IsPlanned v.contents query q)) e p),
              record {
                before = all.given_back;
                as_many = all.as_many;
                given_back = one.source ∷ [];
                closed = sym (append_assoc t.closed all.given_back (one.source ∷ []));
                takes = subst (λ x. IfSome x (λ v. TakesOf q m.sizes.task (limits_of m.sizes) part.tasks v.contents (m.left ∷ []) (one.source ∷ []))) e
                    (kept (λ files. TakesOf q m.sizes.task (limits_of m.sizes) part.tasks files (m.left ∷ []) (one.source ∷ [])) m.queries all.given_back old mid all.told one.takes);
              },
            ),
          )

  takes_each : (names : List (List ℕ)) (plans : List Plan) (parts : List (Part T)) → IfSome old (λ t. ArePlanned t.contents names (map tree_of plans)) → length names ≡ length plans → AllRead m.queries old mid → AllZip (λ plan part. Over (tree_of plan) part) plans parts
      → AllZip (CutTakesLeft m old new) names parts
  takes_each [] [] [] p n all r = tt
  takes_each [] [] (part ∷ parts) p n all r = absurd r
  takes_each [] (plan ∷ plans) parts p n all r = absurd (omega (arith, n))
  takes_each (name ∷ names) [] parts p n all r = absurd (omega (arith, n))
  takes_each (name ∷ names) (plan ∷ plans) [] p n all r = absurd r
  takes_each (name ∷ names) (plan ∷ plans) (part ∷ parts) p n all r = (
    takes_one name (tree_of plan) part (some_map (λ (t : FilesView). ArePlanned t.contents (name ∷ names) (map tree_of (plan ∷ plans))) (λ t. IsPlanned t.contents name (tree_of plan)) old (λ t h. h.0) p) all r.0,
    takes_each names plans parts (some_map (λ (t : FilesView). ArePlanned t.contents (name ∷ names) (map tree_of (plan ∷ plans))) (λ t. ArePlanned t.contents names (map tree_of plans)) old (λ t h. h.1) p) (omega (arith, n)) all r.1,
  )

  -- what was taken of the left file
  pub takes_told : (plans : List Plan) (parts : List (Part T)) → IfSome old (λ t. ArePlanned t.contents m.queries (map tree_of plans)) → length plans ≡ length m.queries → AllRead m.queries old mid → AllZip (λ plan part. Over (tree_of plan) part) plans parts
      → AllZip (CutTakesLeft m old new) m.queries parts
  takes_told plans parts p n all r = takes_each m.queries plans parts p (sym n) all r

  -- ---- each part by itself

  pub statuses : (plans : List Plan) (parts : List (Part T)) → AllZip (λ plan part. Over (tree_of plan) part) plans parts → AllByRecursion (λ part. part.status ≡ status_of part.outcome) parts
  statuses [] [] r = tt
  statuses [] (part ∷ parts) r = absurd r
  statuses (plan ∷ plans) [] r = absurd r
  statuses (plan ∷ plans) (part ∷ parts) r = (r.0.tells.status_is, statuses plans parts r.1)

  pub writes : (plans : List Plan) (parts : List (Part T)) → AllZip (λ plan part. Over (tree_of plan) part) plans parts → AllByRecursion (λ part. part.outcome ≡ WriteFault → Rose 0 (failed part.out)) parts
  writes [] [] r = tt
  writes [] (part ∷ parts) r = absurd r
  writes (plan ∷ plans) [] r = absurd r
  writes (plan ∷ plans) (part ∷ parts) r = (λ e. r.0.tells.write (write_by m.sizes.ring r.0.end (sym r.0.tells.outcome_is ∙ e)), writes plans parts r.1)

  pub writes_good : (plans : List Plan) (parts : List (Part T)) → AllZip (λ plan part. Over (tree_of plan) part) plans parts → AllByRecursion (λ part. part.outcome ≢ WriteFault → failed part.out ≡ 0) parts
  writes_good [] [] r = tt
  writes_good [] (part ∷ parts) r = absurd r
  writes_good (plan ∷ plans) [] r = absurd r
  writes_good (plan ∷ plans) (part ∷ parts) r = (λ n. r.0.tells.write_good (λ e. n (r.0.tells.outcome_is ∙ ap (ended_as m.sizes.ring) e)), writes_good plans parts r.1)

-- ---- where nothing was done

-- no file is created where a query is at fault
pub made_none : (m : AskedMany) (e : Early) (asked : Option (List (List ℕ))) → ((number : ℕ) → e ≢ CreateFault number) → MadeFirst m.queries (EarlyMade 0 e) asked asked
made_none m e asked n = record { count = 0; few = omega arith; asked = no_names asked; matches = none_matches e n }
  where
    no_names : (o : Option (List (List ℕ))) → o ≡ naming_all o (take 0 (out_names m.queries))
    no_names None = refl
    no_names (Some all) = ap Some (sym (append-nil all))

    none_matches : (e : Early) → ((number : ℕ) → e ≢ CreateFault number) → EarlyMade 0 e 0
    none_matches Usage n = refl
    none_matches (QueryUnopened number) n = refl
    none_matches (QueryUnread number) n = refl
    none_matches (QueryFault number byte cause) n = refl
    none_matches (Unshareable number) n = refl
    none_matches LeftUnopened n = refl
    none_matches (CreateFault number) n = absurd (n number refl)
    none_matches NoMemory n = tt

-- and none is asked for where memory lacks first of all
pub nothing_left : (m : AskedMany) (old : Option FilesView) → LeavesManyTold m (EarlyFits (length m.queries) NoMemory) old old
nothing_left m old = told_leaves m (EarlyFits (length m.queries) NoMemory) old old (λ t k. (
  t,
  k,
  record {
    contents = refl;
    count = 0;
    few = omega arith;
    asked = sym (append-nil t.asked);
    due = λ n some l. absurd (omega (arith, l));
    given_back = [];
    closed = sym (append-nil t.closed);
    are_of = tt;
    matches = refl;
  },
))

-- ---- behind the left file

left_reason : (m : AskedMany) (plans : List Tree) (e : Early) (t : FilesView) → IsOfLeft e → ArePlanned t.contents m.queries plans → MayShare plans → (IsCreateEnd e → IsThere t.contents m.left) → ((number : ℕ) → e ≡ CreateFault number → (1 ≤ number) × (number ≤ length m.queries)) → EndsEarly t.contents m e
left_reason m plans Usage t k p share there few = absurd k
left_reason m plans (QueryUnopened number) t k p share there few = absurd k
left_reason m plans (QueryUnread number) t k p share there few = absurd k
left_reason m plans (QueryFault number byte cause) t k p share there few = absurd k
left_reason m plans (Unshareable number) t k p share there few = absurd k
left_reason m plans LeftUnopened t k p share there few = record { plans = plans; planned = p; share = share }
left_reason m plans (CreateFault number) t k p share there few = let n = few number refl in (record { plans = plans; planned = p; share = share }, there tt, n.0, n.1)
left_reason m plans NoMemory t k p share there few = tt

pub left_early : (m : AskedMany) (plans : List Tree) (e : Early) (old mid : Option FilesView) → IsOfLeft e → IfSome old (λ t. ArePlanned t.contents m.queries plans) → MayShare plans → AllRead m.queries old mid → (IsCreateEnd e → IfSome mid (λ u. IsThere u.contents m.left))
    → ((number : ℕ) → e ≡ CreateFault number → (1 ≤ number) × (number ≤ length m.queries)) → IfSome old (λ t. EndsEarly t.contents m e)
left_early m plans e None mid k p share all there few = tt
left_early m plans e (Some t) mid k p share all there few = left_reason m plans e t k p share (λ c. kept (λ files. IsThere files m.left) m.queries all.given_back (Some t) mid all.told (there c)) few

-- the number of one that was not created is that of a query
pub made_number : (m : AskedMany) (e : Early) (old new : Option (List (List ℕ))) → MadeFirst m.queries (EarlyMade 0 e) old new → (number : ℕ) → e ≡ CreateFault number → (1 ≤ number) × (number ≤ length m.queries)
made_number m e old new h number k =
    let at_count : EarlyMade 0 (CreateFault number) h.count = subst (λ x. EarlyMade 0 x h.count) k h.matches in
    (omega (arith, at_count.0, at_count.1), omega (arith, at_count.0, h.few))

-- a call that lacked memory before anything else
pub comes_to_nothing : {F U T : Type 0} (told : F → Option FilesView) (asked : U → Option (List (List ℕ))) (written : T → Option (List ℕ)) (made : T → ℕ) (m : AskedMany) (files : F) (outs : U) → ComesTo told asked written made m files files outs outs (Before NoMemory) []
comes_to_nothing told asked written made m files outs = record {
  early = for_all (λ t. EndsEarly t.contents m NoMemory) (told files) (λ t. tt);
  each = λ k. let clash : Before NoMemory ≡ Each = k in cc;
  answers = λ k. let clash : Before NoMemory ≡ Each = k in cc;
  taken = λ k. let clash : Before NoMemory ≡ Each = k in cc;
  leaves = nothing_left m (told files);
  leaves_each = λ k. let clash : Before NoMemory ≡ Each = k in cc;
  made = made_none m NoMemory (asked outs) (λ number k. cc);
  made_each = λ k. let clash : Before NoMemory ≡ Each = k in cc;
}

-- ---- words that were not read

pub unread_comes : {F U T : Type 0} (told : F → Option FilesView) (asked : U → Option (List (List ℕ))) (written : T → Option (List ℕ)) (made : T → ℕ) (ws : List (List ℕ)) (m : AskedMany) (files : F) (outs : U) (f : WordsFault) → (f ≡ fault.Usage → many_of ws ≡ None) → many_of ws ≡ Some m
    → ComesTo told asked written made m files files outs outs (Before (unread_many f)) []
unread_comes told asked written made ws m files outs fault.NoMemory u is = comes_to_nothing told asked written made m files outs
unread_comes told asked written made ws m files outs fault.Usage u is = let clash : Some m ≡ None = sym is ∙ u refl in cc

pub unread_true : {F T : Type 0} (faults : F → ℕ) (failed : T → ℕ) (files : F) (f : WordsFault) → IsTrueOf faults failed files files (Before (unread_many f)) []
unread_true faults failed files fault.NoMemory = record { none = refl; statuses = tt; files = λ k. absurd k; files_good = λ k. refl; reads = tt; reads_good = tt; writes = tt; writes_good = tt }
unread_true faults failed files fault.Usage = record { none = refl; statuses = tt; files = λ k. absurd k; files_good = λ k. refl; reads = tt; reads_good = tt; writes = tt; writes_good = tt }

pub unread_usage : (f : WordsFault) → Before (unread_many f) ≡ Before Usage → f ≡ fault.Usage
unread_usage fault.NoMemory k = let clash : Before NoMemory ≡ Before Usage = k in cc
unread_usage fault.Usage k = refl

pub unread_no_create : (f : WordsFault) → IsCreateEnd (unread_many f) → ⊥
unread_no_create fault.NoMemory k = k
unread_no_create fault.Usage k = k

pub unread_ends : {F U : Type 0} (files : F) (outs : U) (f : WordsFault) → EndsUnreadMany (Before (unread_many f)) files files outs outs
unread_ends files outs fault.NoMemory = record { outcome = inr refl; files = refl; outs = refl }
unread_ends files outs fault.Usage = record { outcome = inl refl; files = refl; outs = refl }
