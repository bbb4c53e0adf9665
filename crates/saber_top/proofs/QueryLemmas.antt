-- Queries that are read one after another.
use Rattle.std.proofs.Common.{◌≡◌, ℕ, zero, suc, ◌+◌, List, [], ◌∷◌, ◌++◌, length, take, Option, Some, None, IfSome, refl, sym, ◌∙◌, ap, subst, arith, append-nil, append_assoc}
use Rattle.std.proofs.lemmas.List.{take_all}
use Rattle.std.specs.Prelude.{Result, Ok, Err, IfOk, IfErr, OnOk}
use Rattle.saber_io.specs.Outside.{FilesView, Closed, after_asking, after_closing}
use Rattle.saber_plan.specs.declared.windows.Stream.{Stream}
use Rattle.saber_plan.specs.declared.rows.Side.TheVariants as sides
use Rattle.saber_plan.specs.Checked.{columns_on}
use Rattle.saber_plan.specs.Trees.{Tree}
use Rattle.saber_notes.specs.declared.outcome.InputFile.TheVariants.{Query, Left, Right, SecondQuery}
use Rattle.saber_notes.specs.declared.outcome.Outcome.{Outcome}
use Rattle.saber_notes.specs.declared.outcome.Outcome.TheVariants as outcomes
use Rattle.saber_notes.specs.declared.outcome.Outcome.TheVariants.{Done}
use Rattle.saber_notes.specs.declared.early.Early.{Early}
use Rattle.saber_notes.specs.declared.early.Early.TheVariants.{Usage, QueryUnopened, QueryUnread, QueryFault, Unshareable, LeftUnopened, CreateFault, NoMemory}
use Rattle.saber_cli.specs.Outcomes.{IsOfPlan}
use Rattle.saber_cli.specs.Due.{Contents, IsFaulty, IsPlanned}
use Rattle.saber_cli.specs.Uses.{Uses, unasked, unopened, used, IsOfQueryFile}
use Rattle.saber_cli.specs.Leaves.{AreOf}
use Rattle.saber_cli.specs.RowFiles.{after_use}
use Rattle.saber_cli.specs.Chaining.{LacksPlan}
use Rattle.saber_top.specs.Queries.{ArePlanned, HasStream, IsReached, IsFirstUnlike, LackPlans, LackShared, as_early}
use Rattle.saber_top.specs.ManyLeaves.{AllRead, LackFits, PlannedBefore, SharedFits, UsesFirst}

-- ---- where files tell

pub some_map : {X : Type 0} (P Q : X → Type 0) (o : Option X) → ((x : X) → P x → Q x) → IfSome o P → IfSome o Q
some_map P Q None f h = tt
some_map P Q (Some x) f h = f x h

pub some_both : {X : Type 0} (P Q R : X → Type 0) (o : Option X) → ((x : X) → P x → Q x → R x) → IfSome o P → IfSome o Q → IfSome o R
some_both P Q R None f h k = tt
some_both P Q R (Some x) f h k = f x h k

pub for_all : {X : Type 0} (P : X → Type 0) (o : Option X) → ((x : X) → P x) → IfSome o P
for_all P None f = tt
for_all P (Some x) f = f x

pub ok_map : {X E : Type 0} (P Q : X → Type 0) (r : Result X E) → ((x : X) → P x → Q x) → IfOk r P → IfOk r Q
ok_map P Q (Ok x) f h = f x h
ok_map P Q (Err e) f h = tt

pub err_map : {X E : Type 0} (P Q : E → Type 0) (r : Result X E) → ((e : E) → P e → Q e) → IfErr r P → IfErr r Q
err_map P Q (Ok x) f h = tt
err_map P Q (Err e) f h = f e h

pub on_ok : {X E : Type 0} (P : Type 0) (r : Result X E) → P → OnOk r P
on_ok P (Ok x) p = p
on_ok P (Err e) p = tt

pub no_items : {X : Type 0} (xs : List X) → length xs ≡ 0 → xs ≡ []
no_items [] e = refl
no_items (x ∷ xs) e = absurd (omega (arith, e))

-- used files have the contents that they had
pub kept : (P : Contents → Type 0) (names : List (List ℕ)) (back : List Closed) (old new : Option FilesView) → new ≡ after_use old names back → IfSome new (λ u. P u.contents) → IfSome old (λ t. P t.contents)
kept P names back None new e h = tt
kept P names back (Some t) new e h = subst (λ o. IfSome o (λ u. P u.contents)) e h

-- they were used once and once more
pub used_twice : (old mid new : Option FilesView) (names others : List (List ℕ)) (back more : List Closed) → mid ≡ after_use old names back → new ≡ after_use mid others more → new ≡ after_use old (names ++ others) (back ++ more)
used_twice None mid new names others back more e f = f ∙ ap (λ o. after_use o others more) e
used_twice (Some t) mid new names others back more e f = f ∙ ap (λ o. after_use o others more) e ∙ (λ i. Some (record { contents = t.contents; asked = append_assoc t.asked names others i; closed = append_assoc t.closed back more i }))

pub unused : (old : Option FilesView) → old ≡ after_use old [] []
unused None = refl
unused (Some t) = λ i. Some (record { contents = t.contents; asked = sym (append-nil t.asked) i; closed = sym (append-nil t.closed) i })

-- ---- one file

-- it was read and given back, and nothing failed
pub record ReadsOne (name : List ℕ) (old new : Option FilesView) : Type 0 where
  pub source : Closed
  pub good : source.1 ≡ 0
  pub told : new ≡ after_use old (name ∷ []) (source ∷ [])
  pub is_of : IfSome old (λ t. IsOfQueryFile t.contents name source)

one_back : (old : Option FilesView) (name : List ℕ) (left : Option (List ℕ)) (faults : ℕ) → after_closing (after_asking old name) left faults ≡ after_use old (name ∷ []) ((left, faults) ∷ [])
one_back None name left faults = refl
one_back (Some t) name left faults = refl

pub one_lost : (old : Option FilesView) (name : List ℕ) → after_asking old name ≡ after_use old (name ∷ []) []
one_lost None name = refl
one_lost (Some t) name = λ i. Some (record { contents = t.contents; asked = t.asked ++ name ∷ []; closed = sym (append-nil t.closed) i })

pub reads_one : (name : List ℕ) (old new : Option FilesView) → Uses Query name Done old new → ReadsOne name old new
reads_one name old new (unasked e s) = cc
reads_one name old new (unopened e s) = cc
reads_one name old new (used left faults f c i p s) = record { source = (left, faults); good = c tt; told = s ∙ one_back old name left faults; is_of = i }

-- ---- all were read

pub none_read : (old : Option FilesView) → AllRead [] old old
none_read old = record { given_back = []; told = unused old; as_many = refl; good = tt; are_of = for_all (λ t. AreOf 0 t.contents [] []) old (λ t. tt) }

pub more_read : (name : List ℕ) (names : List (List ℕ)) (old mid new : Option FilesView) → ReadsOne name old mid → AllRead names mid new → AllRead (name ∷ names) old new
more_read name names old mid new one all = record {
  given_back = one.source ∷ all.given_back;
  told = used_twice old mid new (name ∷ []) names (one.source ∷ []) all.given_back one.told all.told;
  as_many = ap suc all.as_many;
  good = (one.good, all.good);
  are_of = some_both (λ (t : FilesView). IsOfQueryFile t.contents name one.source) (λ t. AreOf (length names) t.contents all.given_back names) (λ t. AreOf (suc (length names)) t.contents (one.source ∷ all.given_back) (name ∷ names)) old (λ t h k. (h, k)) one.is_of
      (kept (λ files. AreOf (length names) files all.given_back names) (name ∷ []) (one.source ∷ []) old mid one.told all.are_of);
}

-- ---- the first at fault is this one

here : (P : List ℕ → Type 0) (others : ℕ) (name : List ℕ) (names : List (List ℕ)) (files : Contents) → P name → IsReached files P others (name ∷ names) (others + 1)
here P others name names files h = record { before = []; one = name; behind = names; all_are = refl; number_is = omega arith; before_fine = tt; at_fault = h }

pub first_lacks : (files : Contents) (others : ℕ) (name : List ℕ) (names : List (List ℕ)) (o : Outcome) → LacksPlan files name o → LackPlans files others (name ∷ names) (as_early (others + 1) o)
first_lacks files others name names Done h = absurd h
first_lacks files others name names outcomes.Usage h = absurd h
first_lacks files others name names (outcomes.FileCount streams given) h = absurd h
first_lacks files others name names (outcomes.QueryFault byte cause) h = here (λ n. IsFaulty files n byte cause) others name names files h
first_lacks files others name names (outcomes.SecondQueryFault byte cause) h = absurd h
first_lacks files others name names (outcomes.Unchainable file) h = absurd h
first_lacks files others name names (outcomes.LineRefused side line cause) h = absurd h
first_lacks files others name names (outcomes.ChainLineRefused line cause) h = absurd h
first_lacks files others name names (outcomes.OpenFault file) h = here (λ n. Unit {0}) others name names files tt
first_lacks files others name names (outcomes.ReadFault file) h = here (λ n. Unit {0}) others name names files tt
first_lacks files others name names (outcomes.TooWide task need ring) h = absurd h
first_lacks files others name names outcomes.WriteFault h = absurd h
first_lacks files others name names outcomes.NoMemory h = tt

-- what was used of its file
nothing_used : (others : ℕ) (name : List ℕ) (names : List (List ℕ)) (old : Option FilesView) → UsesFirst (name ∷ names) (LackFits others NoMemory) old old
nothing_used others name names old = record {
  count = 0;
  few = omega arith;
  given_back = [];
  told = unused old;
  are_of = for_all (λ t. AreOf (suc (length names)) t.contents [] (name ∷ names)) old (λ t. tt);
  behind = for_all (λ t. PlannedBefore t.contents 0 (name ∷ names)) old (λ t n h. absurd (omega (arith, h)));
  matches = refl;
}

-- before the first one there is none
before_one : (files : Contents) (names : List (List ℕ)) → PlannedBefore files 1 names
before_one files names zero h = ([], tt)
before_one files names (suc n) h = absurd (omega (arith, h))

lost_one : (others number : ℕ) (name : List ℕ) (names : List (List ℕ)) (old new : Option FilesView) → others + 1 ≡ number → new ≡ after_asking old name → UsesFirst (name ∷ names) (LackFits others (QueryUnopened number)) old new
lost_one others number name names old new e s = record {
  count = 1;
  few = omega arith;
  given_back = [];
  told = s ∙ one_lost old name;
  are_of = for_all (λ t. AreOf (suc (length names)) t.contents [] (name ∷ names)) old (λ t. tt);
  behind = for_all (λ t. PlannedBefore t.contents 1 (name ∷ names)) old (λ t. before_one t.contents (name ∷ names));
  matches = (e, refl, tt);
}

back_one : (others : ℕ) (e : Early) (name : List ℕ) (names : List (List ℕ)) (left : Option (List ℕ)) (faults : ℕ) (old new : Option FilesView) → IfSome old (λ t. IsOfQueryFile t.contents name (left, faults)) → new ≡ after_closing (after_asking old name) left faults
    → LackFits others e 1 ((left, faults) ∷ []) → UsesFirst (name ∷ names) (LackFits others e) old new
back_one others e name names left faults old new i s m = record {
  count = 1;
  few = omega arith;
  given_back = (left, faults) ∷ [];
  told = s ∙ one_back old name left faults;
  are_of = some_map (λ (t : FilesView). IsOfQueryFile t.contents name (left, faults)) (λ t. AreOf (suc (length names)) t.contents ((left, faults) ∷ []) (name ∷ names)) old (λ t h. (h, tt)) i;
  behind = for_all (λ t. PlannedBefore t.contents 1 (name ∷ names)) old (λ t. before_one t.contents (name ∷ names));
  matches = m;
}

pub first_used : (others : ℕ) (name : List ℕ) (names : List (List ℕ)) (o : Outcome) (old new : Option FilesView) → IsOfPlan o → Uses Query name o old new → UsesFirst (name ∷ names) (LackFits others (as_early (others + 1) o)) old new
first_used others name names Done old new h u = absurd h
first_used others name names outcomes.Usage old new h u = absurd h
first_used others name names (outcomes.FileCount streams given) old new h u = absurd h
first_used others name names (outcomes.QueryFault byte cause) old new h (unasked e s) = cc
first_used others name names (outcomes.QueryFault byte cause) old new h (unopened e s) = cc
first_used others name names (outcomes.QueryFault byte cause) old new h (used left faults f c i p s) = back_one others (QueryFault (others + 1) byte cause) name names left faults old new i s (refl, refl, (c tt, tt))
first_used others name names (outcomes.SecondQueryFault byte cause) old new h u = absurd h
first_used others name names (outcomes.Unchainable file) old new h u = absurd h
first_used others name names (outcomes.LineRefused side line cause) old new h u = absurd h
first_used others name names (outcomes.ChainLineRefused line cause) old new h u = absurd h
first_used others name names (outcomes.OpenFault file) old new h (unasked e s) = cc
first_used others name names (outcomes.OpenFault file) old new h (unopened e s) = lost_one others (others + 1) name names old new refl s
first_used others name names (outcomes.OpenFault file) old new h (used left faults f c i p s) = absurd p
first_used others name names (outcomes.ReadFault Query) old new h (unasked e s) = cc
first_used others name names (outcomes.ReadFault Query) old new h (unopened e s) = cc
first_used others name names (outcomes.ReadFault Query) old new h (used left faults f c i p s) = back_one others (QueryUnread (others + 1)) name names left faults old new i s (refl, refl, record { before = []; last = (left, faults); are = refl; good = tt; faults = f refl })
first_used others name names (outcomes.ReadFault Left) old new h u = absurd h
first_used others name names (outcomes.ReadFault Right) old new h u = absurd h
first_used others name names (outcomes.ReadFault SecondQuery) old new h u = absurd h
first_used others name names (outcomes.TooWide task need ring) old new h u = absurd h
first_used others name names outcomes.WriteFault old new h u = absurd h
first_used others name names outcomes.NoMemory old new h (unasked e s) = subst (UsesFirst (name ∷ names) (LackFits others NoMemory) old) (sym s) (nothing_used others name names old)
first_used others name names outcomes.NoMemory old new h (unopened e s) = cc
first_used others name names outcomes.NoMemory old new h (used left faults f c i p s) = back_one others NoMemory name names left faults old new i s refl

-- ---- or a later one

later : (files : Contents) (P : List ℕ → Type 0) (others number : ℕ) (name : List ℕ) (names : List (List ℕ)) (plan : Tree) → IsPlanned files name plan → IsReached files P (others + 1) names number → IsReached files P others (name ∷ names) number
later files P others number name names plan p r = record {
  before = name ∷ r.before;
  one = r.one;
  behind = r.behind;
  all_are = ap (λ x. name ∷ x) r.all_are;
  number_is = r.number_is ∙ omega arith;
  before_fine = ((plan, p), r.before_fine);
  at_fault = r.at_fault;
}

pub later_lacks : (files : Contents) (others : ℕ) (name : List ℕ) (names : List (List ℕ)) (plan : Tree) (e : Early) → IsPlanned files name plan → LackPlans files (others + 1) names e → LackPlans files others (name ∷ names) e
later_lacks files others name names plan Usage p h = absurd h
later_lacks files others name names plan (QueryUnopened number) p h = later files (λ n. Unit {0}) others number name names plan p h
later_lacks files others name names plan (QueryUnread number) p h = later files (λ n. Unit {0}) others number name names plan p h
later_lacks files others name names plan (QueryFault number byte cause) p h = later files (λ n. IsFaulty files n byte cause) others number name names plan p h
later_lacks files others name names plan (Unshareable number) p h = absurd h
later_lacks files others name names plan LeftUnopened p h = absurd h
later_lacks files others name names plan (CreateFault number) p h = absurd h
later_lacks files others name names plan NoMemory p h = tt

later_fits : (others : ℕ) (e : Early) (asked : ℕ) (back : List Closed) (source : Closed) → source.1 ≡ 0 → LackFits (others + 1) e asked back → LackFits others e (suc asked) (source ∷ back)
later_fits others Usage asked back source z h = absurd h
later_fits others (QueryUnopened number) asked back source z h = (omega (arith, h.0), omega (arith, h.1), (z, h.2))
later_fits others (QueryUnread number) asked back source z h = (omega (arith, h.0), omega (arith, h.1), record { before = source ∷ h.2.before; last = h.2.last; are = ap (λ x. source ∷ x) h.2.are; good = (z, h.2.good); faults = h.2.faults })
later_fits others (QueryFault number byte cause) asked back source z h = (omega (arith, h.0), omega (arith, h.1), (z, h.2))
later_fits others (Unshareable number) asked back source z h = absurd h
later_fits others LeftUnopened asked back source z h = absurd h
later_fits others (CreateFault number) asked back source z h = absurd h
later_fits others NoMemory asked back source z h = omega (arith, h)

later_behind : (files : Contents) (name : List ℕ) (names : List (List ℕ)) (plan : Tree) (count : ℕ) → IsPlanned files name plan → PlannedBefore files count names → PlannedBefore files (suc count) (name ∷ names)
later_behind files name names plan count p h zero l = ([], tt)
later_behind files name names plan count p h (suc n) l = let more = h n (omega (arith, l)) in (plan ∷ more.0, (p, more.1))

pub later_used : (others : ℕ) (name : List ℕ) (names : List (List ℕ)) (plan : Tree) (e : Early) (old mid new : Option FilesView) → ReadsOne name old mid → IfSome old (λ t. IsPlanned t.contents name plan) → UsesFirst names (LackFits (others + 1) e) mid new
    → UsesFirst (name ∷ names) (LackFits others e) old new
later_used others name names plan e old mid new one p u = record {
  count = suc u.count;
  few = omega (arith, u.few);
  given_back = one.source ∷ u.given_back;
  told = used_twice old mid new (name ∷ []) (take u.count names) (one.source ∷ []) u.given_back one.told u.told;
  are_of = some_both (λ (t : FilesView). IsOfQueryFile t.contents name one.source) (λ t. AreOf (length names) t.contents u.given_back names) (λ t. AreOf (suc (length names)) t.contents (one.source ∷ u.given_back) (name ∷ names)) old (λ t h k. (h, k)) one.is_of
      (kept (λ files. AreOf (length names) files u.given_back names) (name ∷ []) (one.source ∷ []) old mid one.told u.are_of);
  behind = some_both (λ (t : FilesView). IsPlanned t.contents name plan) (λ t. PlannedBefore t.contents u.count names) (λ t. PlannedBefore t.contents (suc u.count) (name ∷ names)) old
      (λ t h k. later_behind t.contents name names plan u.count h k) p (kept (λ files. PlannedBefore files u.count names) (name ∷ []) (one.source ∷ []) old mid one.told u.behind);
  matches = later_fits others e u.count u.given_back one.source one.good u.matches;
}

-- ---- memory lacks behind all

-- the first of some files have plans where all have
pub planned_front : (files : Contents) (n : ℕ) (names : List (List ℕ)) (plans : List Tree) → ArePlanned files names plans → (some : List Tree) × ArePlanned files (take n names) some
planned_front files zero names plans h = ([], tt)
planned_front files (suc n) [] plans h = ([], tt)
planned_front files (suc n) (name ∷ names) [] h = absurd h
planned_front files (suc n) (name ∷ names) (plan ∷ plans) h = let more = planned_front files n names plans h.1 in (plan ∷ more.0, (h.0, more.1))

pub lacking : (others : ℕ) (names : List (List ℕ)) (plans : List Tree) (old new : Option FilesView) → IfSome old (λ t. ArePlanned t.contents names plans) → AllRead names old new → UsesFirst names (LackFits others NoMemory) old new
lacking others names plans old new p all = record {
  count = length names;
  few = omega arith;
  given_back = all.given_back;
  told = all.told ∙ ap (λ x. after_use old x all.given_back) (sym (take_all (length names) names (omega arith)));
  are_of = all.are_of;
  behind = some_map (λ (t : FilesView). ArePlanned t.contents names plans) (λ t. PlannedBefore t.contents (length names) names) old (λ t h n l. planned_front t.contents n names plans h) p;
  matches = all.as_many;
}

-- ---- shapes

pub columns_first : (streams rest : List Stream) (stream : Stream) → streams ≡ stream ∷ rest → stream.columns ≡ columns_on streams sides.Left
columns_first streams [] stream e = ap (λ s. columns_on s sides.Left) (sym e)
columns_first streams (other ∷ rest) stream e = ap (λ s. columns_on s sides.Left) (sym e)

pub unlike_here : (columns others : ℕ) (plan : Tree) (plans : List Tree) → (HasStream columns plan → ⊥) → IsFirstUnlike columns others (plan ∷ plans) (others + 1)
unlike_here columns others plan plans n = record { before = []; one = plan; behind = plans; all_are = refl; number_is = omega arith; before_fine = tt; at_fault = n }

pub unlike_later : (columns others number : ℕ) (plan : Tree) (plans : List Tree) → HasStream columns plan → IsFirstUnlike columns (others + 1) plans number → IsFirstUnlike columns others (plan ∷ plans) number
unlike_later columns others number plan plans h u = record {
  before = plan ∷ u.before;
  one = u.one;
  behind = u.behind;
  all_are = ap (λ x. plan ∷ x) u.all_are;
  number_is = u.number_is ∙ omega arith;
  before_fine = (h, u.before_fine);
  at_fault = u.at_fault;
}

-- ---- of all queries

pub lack_shared : (files : Contents) (names : List (List ℕ)) (e : Early) → LackPlans files 0 names e → LackShared files names e
lack_shared files names Usage h = absurd h
lack_shared files names (QueryUnopened number) h = h
lack_shared files names (QueryUnread number) h = h
lack_shared files names (QueryFault number byte cause) h = h
lack_shared files names (Unshareable number) h = absurd h
lack_shared files names LeftUnopened h = absurd h
lack_shared files names (CreateFault number) h = absurd h
lack_shared files names NoMemory h = tt

fits_shared : (names : List (List ℕ)) (e : Early) (asked : ℕ) (back : List Closed) → LackFits 0 e asked back → SharedFits names e asked back
fits_shared names Usage asked back h = absurd h
fits_shared names (QueryUnopened number) asked back h = h
fits_shared names (QueryUnread number) asked back h = h
fits_shared names (QueryFault number byte cause) asked back h = h
fits_shared names (Unshareable number) asked back h = absurd h
fits_shared names LeftUnopened asked back h = absurd h
fits_shared names (CreateFault number) asked back h = absurd h
fits_shared names NoMemory asked back h = h

pub shared_used : (names : List (List ℕ)) (e : Early) (old new : Option FilesView) → UsesFirst names (LackFits 0 e) old new → UsesFirst names (SharedFits names e) old new
shared_used names e old new u = record {
  count = u.count;
  few = u.few;
  given_back = u.given_back;
  told = u.told;
  are_of = u.are_of;
  behind = u.behind;
  matches = fits_shared names e u.count u.given_back u.matches;
}

-- all were read, and one can't share the input
pub unlike_used : (names : List (List ℕ)) (plans : List Tree) (number : ℕ) (old new : Option FilesView) → IfSome old (λ t. ArePlanned t.contents names plans) → AllRead names old new → UsesFirst names (SharedFits names (Unshareable number)) old new
unlike_used names plans number old new p all = record {
  count = length names;
  few = omega arith;
  given_back = all.given_back;
  told = all.told ∙ ap (λ x. after_use old x all.given_back) (sym (take_all (length names) names (omega arith)));
  are_of = all.are_of;
  behind = some_map (λ (t : FilesView). ArePlanned t.contents names plans) (λ t. PlannedBefore t.contents (length names) names) old (λ t h n l. planned_front t.contents n names plans h) p;
  matches = record { asked_for = refl; all = all.as_many; good = all.good };
}
