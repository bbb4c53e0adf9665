-- A run of several queries before its first block.
use Rattle.std.proofs.Common.{◌≡◌, ◌≢◌, ℕ, false, List, [], ◌∷◌, length, refl, sym, ap, subst}
use Rattle.std.proofs.Math.Path.{transport}
use Rattle.std.specs.Prelude.{suc, Option, None}
use Rattle.std.specs.List.{AllByRecursion, AllZip}
use Rattle.saber_plan.specs.declared.sizes.Sizes.{Sizes}
use Rattle.saber_plan.specs.Inputs.{Input}
use Rattle.saber_plan.specs.Sizes.{SizesFit, limits_of}
use Rattle.saber_plan.specs.Tasks.{Kept}
use Rattle.saber_plan.specs.Trees.{Tree}
use Rattle.saber_laws.proofs.CheckedLaws.{checked_fit}
use Rattle.saber_assembly.specs.declared.stage.Stage.{Stage}
use Rattle.saber_assembly.specs.declared.work.RunData.{RunData}
use Rattle.saber_assembly.specs.Stages.{stage_view}
use Rattle.saber_assembly.specs.Works.{IsTold, first_tasks, IsStageOf}
use Rattle.saber_workers.specs.Queries.{Suits}
use Rattle.saber_dispatch.specs.declared.cutter.Cutter.{Cutter}
use Rattle.saber_dispatch.specs.declared.ends.End.{End}
use Rattle.saber_dispatch.specs.declared.keeper.Keeper.{Keeper}
use Rattle.saber_dispatch.specs.Cutting.{CutsNothing, end_of, fresh}
use Rattle.saber_dispatch.specs.Keeping.{CountsRows}
use Rattle.saber_dispatch.specs.Readings as readings
use Rattle.saber_dispatch.specs.Sources.{Lefts}
use Rattle.saber_many.specs.declared.member.Member.{Member}
use Rattle.saber_many.specs.Labors.{AllSuit}
use Rattle.saber_many.specs.Laws.{AllThree}
use Rattle.saber_many.specs.Queries.{IsAlone}
use Rattle.saber_many.specs.Sharing.{ToldAt, GoesBy, MemberAt, AreTold, AreStages}
use Rattle.saber_engine.specs.Dealing.{GivenOne, GivenEach}
use Rattle.saber_engine.specs.Jobs.{MayShare, KeepsNone, Stands, base_of, bases}
use Rattle.saber_engine.specs.Sources.{rows_left}
use Rattle.saber_engine.specs.Supplying.{HasGiven}
use Rattle.saber_engine.proofs.Shapes.{no_join}
use Rattle.saber_engine.proofs.Starting.{given_none, begins}

not_none : {A : Type 0} (x : A) (xs : List A) → x ∷ xs ≡ [] → ⊥
not_none x xs e = cc

-- what a run of several begins with
pub record BeginsEach {O S K : Type 0} (plan : O → Tree) (contents : S → Kept) (taken : O → S → Input → Type 0) (wrote : K → Option (List ℕ)) (failed writes : K → ℕ)
    (s : Sizes) (had : Lefts) (before : List ℕ) (c : Cutter) (end : Option End) (ops : List O) (ks : List Keeper) (ms : List (Member (Stage S K))) (bs : List (RunData O)) : Type 0 where
  pub told_are : AllByRecursion (ToldAt (IsTold plan) (IsAlone plan) 0) bs
  pub stages : AllZip (MemberAt first_tasks (IsStageOf plan (stage_view contents wrote failed writes) taken) 0) bs ms
  pub suits : AllZip Suits ops bs
  pub given : AllZip (GivenOne plan s had had before before c end 0) ks bs

module _ {O S K : Type 0} (plan : O → Tree) (contents : S → Kept) (taken : O → S → Input → Type 0) (wrote : K → Option (List ℕ)) (failed writes : K → ℕ)
    {A : Type 0} (tree : A → Tree) (sink : A → K) (s : Sizes) (fit : SizesFit s) (columns : ℕ) (had : Lefts) (before : List ℕ) (c : Cutter) (end : Option End) (open_still : end ≡ None) (goes : end_of c ≡ None)
    (suit : (q : Tree) → length q.streams ≡ 1 → readings.Suits (fresh q (limits_of s)) had) where
  module _ (op : O) (a : A) (k : Keeper) (m : Member (Stage S K)) (is : plan op ≡ tree a) (may : MayShare columns (tree a)) (cuts : CutsNothing (tree a) s c) (keeps : KeepsNone (tree a) k) (stands : Stands plan contents taken wrote failed writes op (sink a) m) where
    abbrev told : RunData O
    told = base_of s.task (rows_left plan s had) wrote failed writes op m

    mine : MayShare columns (plan op)
    mine = subst (MayShare columns) (sym is) may

    alone : IsAlone plan told
    alone = λ e. no_join (plan op).shape (plan op).streams e mine.checked.streams mine.one

    no_rows : HasGiven plan s had had before before c k None told 0
    no_rows = given_none plan op s had before (wrote m.stage.sink) (failed m.stage.sink) (writes m.stage.sink) c k (subst (λ q. CutsNothing q s c) (sym is) cuts) goes (suit (plan op) mine.one) keeps.kept (subst (λ q. CountsRows k q []) (sym is) keeps.counted)

    given : HasGiven plan s had had before before c k end told 0
    given = subst (λ e. HasGiven plan s had had before before c k e told 0) (sym open_still) no_rows

    pub begins_one : ToldAt (IsTold plan) (IsAlone plan) 0 told × MemberAt first_tasks (IsStageOf plan (stage_view contents wrote failed writes) taken) 0 told m × Suits op told × GivenOne plan s had had before before c end 0 k told
    begins_one =
        let b = begins plan contents taken wrote failed writes op s.task (rows_left plan s had op) m.stage (checked_fit (plan op) mine.checked) fit.task.0 (sink a) stands.sink_is stands.none stands.runs stands.keeps (HasGiven plan s had had before before c k end) given in
        ((b.0, alone), subst (λ g. GoesBy first_tasks (IsStageOf plan (stage_view contents wrote failed writes) taken) g told 0 m.stage) (sym stands.goes) b.1, b.2, (b.3, alone))

  pub each_begins : (ops : List O) (qs : List A) (ks : List Keeper) (ms : List (Member (Stage S K))) → AllZip (λ op a. plan op ≡ tree a) ops qs → AllByRecursion (λ a. MayShare columns (tree a)) qs
      → AllByRecursion (λ a. CutsNothing (tree a) s c) qs → AllZip (λ a k. KeepsNone (tree a) k) qs ks → AllThree (λ op a m. Stands plan contents taken wrote failed writes op (sink a) m) ops qs ms
      → BeginsEach plan contents taken wrote failed writes s had before c end ops ks ms (bases s.task (rows_left plan s had) wrote failed writes ops ms)
  each_begins [] [] [] [] is may cuts keeps stands = record { told_are = tt; stages = tt; suits = tt; given = tt }
  each_begins [] [] [] (m ∷ ms) is may cuts keeps stands = absurd stands
  each_begins [] [] (k ∷ ks) ms is may cuts keeps stands = absurd keeps
  each_begins [] (a ∷ qs) ks ms is may cuts keeps stands = absurd is
  each_begins (op ∷ ops) [] ks ms is may cuts keeps stands = absurd is
  each_begins (op ∷ ops) (a ∷ qs) [] ms is may cuts keeps stands = absurd keeps
  each_begins (op ∷ ops) (a ∷ qs) (k ∷ ks) [] is may cuts keeps stands = absurd stands
  each_begins (op ∷ ops) (a ∷ qs) (k ∷ ks) (m ∷ ms) is may cuts keeps stands =
      let one = begins_one op a k m is.0 may.0 cuts.0 keeps.0 stands.0 in
      let more = each_begins ops qs ks ms is.1 may.1 cuts.1 keeps.1 stands.1 in
      record { told_are = (one.0, more.told_are); stages = (one.1, more.stages); suits = (one.2, more.suits); given = (one.3, more.given) }

  -- where there are some
  pub bases_some : (ops : List O) (qs : List A) (ms : List (Member (Stage S K))) → qs ≢ [] → AllThree (λ op a m. Stands plan contents taken wrote failed writes op (sink a) m) ops qs ms → bases s.task (rows_left plan s had) wrote failed writes ops ms ≢ []
  bases_some [] [] ms some stands e = some refl
  bases_some [] (a ∷ qs) [] some stands e = stands
  bases_some [] (a ∷ qs) (m ∷ ms) some stands e = stands
  bases_some (op ∷ ops) [] ms some stands e = some refl
  bases_some (op ∷ ops) (a ∷ qs) [] some stands e = stands
  bases_some (op ∷ ops) (a ∷ qs) (m ∷ ms) some stands e = not_none (base_of s.task (rows_left plan s had) wrote failed writes op m) (bases s.task (rows_left plan s had) wrote failed writes ops ms) e

  -- what is asked of a run of all, by the data and sizes that it names
  abbrev pub BeginsAll : List O → List Keeper → List (Member (Stage S K)) → ℕ → Sizes → Lefts → List ℕ → Type 0
  BeginsAll ops ks ms n z l b =
      AreTold (IsTold plan) (IsAlone plan) (bases n (rows_left plan z l) wrote failed writes ops ms) 0 × AreStages first_tasks (IsStageOf plan (stage_view contents wrote failed writes) taken) (bases n (rows_left plan z l) wrote failed writes ops ms) 0 false ms
      × AllSuit Suits ops (bases n (rows_left plan z l) wrote failed writes ops ms) × GivenEach plan z l had b before c end ks (bases n (rows_left plan z l) wrote failed writes ops ms) 0

  pub begins_all : (ops : List O) (qs : List A) (ks : List Keeper) (ms : List (Member (Stage S K))) → qs ≢ [] → AllZip (λ op a. plan op ≡ tree a) ops qs → AllByRecursion (λ a. MayShare columns (tree a)) qs
      → AllByRecursion (λ a. CutsNothing (tree a) s c) qs → AllZip (λ a k. KeepsNone (tree a) k) qs ks → AllThree (λ op a m. Stands plan contents taken wrote failed writes op (sink a) m) ops qs ms
      → (n : ℕ) (z : Sizes) (l : Lefts) (b : List ℕ) → n ≡ s.task → z ≡ s → l ≡ had → b ≡ before → BeginsAll ops ks ms n z l b
  begins_all ops qs ks ms some is may cuts keeps stands n z l b n_is z_is l_is b_is =
      let e = each_begins ops qs ks ms is may cuts keeps stands in
      let all : BeginsAll ops ks ms s.task s had before = (e.told_are, e.stages, e.suits, (bases_some ops qs ms some stands, e.given)) in
      transport (λ i. BeginsAll ops ks ms (sym n_is i) (sym z_is i) (sym l_is i) (sym b_is i)) all

-- ---- lengths

pub zip_long : {A B : Type 0} (R : A → B → Type 0) (xs : List A) (ys : List B) → AllZip R xs ys → length xs ≡ length ys
zip_long R [] [] h = refl
zip_long R [] (y ∷ ys) h = absurd h
zip_long R (x ∷ xs) [] h = absurd h
zip_long R (x ∷ xs) (y ∷ ys) h = ap suc (zip_long R xs ys h.1)

pub three_long : {A B C : Type 0} (R : A → B → C → Type 0) (xs : List A) (ys : List B) (zs : List C) → AllThree R xs ys zs → length zs ≡ length ys
three_long R [] [] [] h = refl
three_long R [] [] (z ∷ zs) h = absurd h
three_long R [] (y ∷ ys) zs h = absurd h
three_long R (x ∷ xs) [] zs h = absurd h
three_long R (x ∷ xs) (y ∷ ys) [] h = absurd h
three_long R (x ∷ xs) (y ∷ ys) (z ∷ zs) h = ap suc (three_long R xs ys zs h.1)
