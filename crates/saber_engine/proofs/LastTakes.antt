-- The end of an input, taken by each of several queries.
use Rattle.std.proofs.Common.{◌≡◌, ◌≢◌, ℕ, Bool, true, false, List, [], ◌∷◌, length, refl, sym, ◌∙◌, ap, subst, arith}
use Rattle.std.proofs.Math.Path.{transport}
use Rattle.std.specs.Prelude.{suc, Option, Some, None, IfSome}
use Rattle.std.specs.List.{AllZip}
use Rattle.saber_plan.specs.declared.sizes.Sizes.{Sizes}
use Rattle.saber_plan.specs.Inputs.{Input}
use Rattle.saber_plan.specs.Tasks.{Kept}
use Rattle.saber_plan.specs.Trees.{Tree}
use Rattle.saber_fragment.specs.declared.blocks.Block.{Block}
use Rattle.saber_assembly.specs.declared.stage.Stage.{Stage}
use Rattle.saber_plan.specs.declared.stages.StageState.TheVariants.{Running}
use Rattle.saber_assembly.specs.Stages.{stage_view}
use Rattle.saber_assembly.specs.Works.{IsBlockOf, IsStageOf, first_tasks}
use Rattle.saber_workers.specs.Queries.{Suits}
use Rattle.saber_crew.specs.declared.dispatch.Over.TheVariants.{AllGiven, Stopped, NoMemory}
use Rattle.saber_dispatch.specs.declared.cutter.Cutter.{Cutter}
use Rattle.saber_dispatch.specs.Cutting.{end_counts}
use Rattle.saber_dispatch.specs.Ending.{is_end_due, EndsEach}
use Rattle.saber_many.specs.declared.member.Member.{Member}
use Rattle.saber_many.specs.Alone.{CanDo, Does}
use Rattle.saber_many.specs.Queries.{IsAlone}
use Rattle.saber_engine.specs.LastTasks.{ComesLast, CanTake, TakesBlock, Takes, Tells, CanTakeEach, TakesEach}

-- ---- whether it comes

pub comes_last : (c : Cutter) (o : Option Block) → (o ≡ None → is_end_due c ≡ false) → IfSome o (λ b. is_end_due c ≡ true) → IfSome o (EndsEach c) → ComesLast c AllGiven o
comes_last c None none due each = λ _. none refl
comes_last c (Some b) none due each = (refl, due, each)

stopped_not_given : Stopped ≡ AllGiven → ⊥
stopped_not_given e = cc

lack_not_given : NoMemory ≡ AllGiven → ⊥
lack_not_given e = cc

pub none_stopped : (c : Cutter) → ComesLast c Stopped None
none_stopped c e = absurd (stopped_not_given e)

pub none_lacking : (c : Cutter) → ComesLast c NoMemory None
none_lacking c e = absurd (lack_not_given e)

-- ---- one of them

apart : false ≡ true → ⊥
apart e = cc

module _ {O S K : Type 0} (plan : O → Tree) (contents : S → Kept) (taken : O → S → Input → Type 0) (wrote : K → Option (List ℕ)) (failed writes : K → ℕ) (counts : Bool) (op : O) (old : Stage S K) (block : Option Block) where
  -- where it doesn't come
  pub kept_none : block ≡ None → Takes plan contents taken wrote failed writes counts op block old old
  kept_none e = subst (λ o. Takes plan contents taken wrote failed writes counts op o old old) (sym e) refl

  module _ (b : Block) (is : block ≡ Some b) where
    -- where it is no task
    pub kept_other : counts ≡ false → Takes plan contents taken wrote failed writes counts op block old old
    kept_other e =
        let stays : TakesBlock plan contents taken wrote failed writes counts op b old old = record { other = λ _. refl; stopped = λ _. refl; takes = λ h runs. absurd (apart (sym e ∙ h)) } in
        subst (λ o. Takes plan contents taken wrote failed writes counts op o old old) (sym is) stays

    -- where the stage had stopped
    pub kept_stopped : old.state ≢ Running → Takes plan contents taken wrote failed writes counts op block old old
    kept_stopped stopped =
        let stays : TakesBlock plan contents taken wrote failed writes counts op b old old = record { other = λ _. refl; stopped = λ _. refl; takes = λ h runs. absurd (stopped runs) } in
        subst (λ o. Takes plan contents taken wrote failed writes counts op o old old) (sym is) stays

    module _ (on : counts ≡ true) (runs : old.state ≡ Running) where
      pub can_do : CanTake plan contents taken wrote failed writes counts op block old → CanDo first_tasks (IsBlockOf plan) (IsStageOf plan (stage_view contents wrote failed writes) taken) (IsAlone plan) Suits op old b
      can_do h = let these : CanTake plan contents taken wrote failed writes counts op (Some b) old = subst (λ o. CanTake plan contents taken wrote failed writes counts op o old) is h in these on runs

      -- where it goes on
      pub taken_so : (new : Stage S K) (goes : Bool) → Does first_tasks (IsBlockOf plan) (IsStageOf plan (stage_view contents wrote failed writes) taken) (IsAlone plan) Suits op old b new goes → Takes plan contents taken wrote failed writes counts op block old new
      taken_so new goes does =
          let takes : TakesBlock plan contents taken wrote failed writes counts op b old new = record { other = λ off. absurd (apart (sym off ∙ on)); stopped = λ stopped. absurd (stopped runs); takes = λ h k. (goes, does) } in
          subst (λ o. Takes plan contents taken wrote failed writes counts op o old new) (sym is) takes

-- ---- of which it is a task

pub tells_all : {O A : Type 0} (plan : O → Tree) (tree : A → Tree) (s : Sizes) (ops : List O) (qs : List A) (es : List Bool) → AllZip (λ op a. plan op ≡ tree a) ops qs → AllZip (λ a e. e ≡ end_counts (tree a) s) qs es → AllZip (Tells plan s) ops es
tells_all plan tree s [] [] [] is t = tt
tells_all plan tree s [] [] (e ∷ es) is t = absurd t
tells_all plan tree s [] (a ∷ qs) es is t = absurd is
tells_all plan tree s (op ∷ ops) [] es is t = absurd is
tells_all plan tree s (op ∷ ops) (a ∷ qs) [] is t = absurd t
tells_all plan tree s (op ∷ ops) (a ∷ qs) (e ∷ es) is t = (t.0 ∙ ap (λ q. end_counts q s) (sym is.0), tells_all plan tree s ops qs es is.1 t.1)

-- ---- the first and the others

module _ {O S K : Type 0} (plan : O → Tree) (contents : S → Kept) (taken : O → S → Input → Type 0) (wrote : K → Option (List ℕ)) (failed writes : K → ℕ) (block : Option Block) where
  abbrev CanAll : List O → List Bool → List (Member (Stage S K)) → Type 0
  CanAll ops es ms = (s : Sizes) × AllZip (Tells plan s) ops es × CanTakeEach plan contents taken wrote failed writes s block ops ms

  abbrev TakesAll : List O → List Bool → List (Member (Stage S K)) → List (Member (Stage S K)) → Type 0
  TakesAll ops es ms ns = (s : Sizes) → AllZip (Tells plan s) ops es → TakesEach plan contents taken wrote failed writes s block ops ms ns

  module _ (op : O) (ops all : List O) (e : Bool) (es every : List Bool) (m : Member (Stage S K)) (ms some : List (Member (Stage S K))) (all_is : all ≡ op ∷ ops) (every_is : every ≡ e ∷ es) (some_is : some ≡ m ∷ ms) where
    told : (s : Sizes) → AllZip (Tells plan s) all every → AllZip (Tells plan s) (op ∷ ops) (e ∷ es)
    told s t = transport (λ i. AllZip (Tells plan s) (all_is i) (every_is i)) t

    can : (s : Sizes) → CanTakeEach plan contents taken wrote failed writes s block all some → CanTakeEach plan contents taken wrote failed writes s block (op ∷ ops) (m ∷ ms)
    can s h = transport (λ i. CanTakeEach plan contents taken wrote failed writes s block (all_is i) (some_is i)) h

    pub first_can : CanAll all every some → CanTake plan contents taken wrote failed writes e op block m.stage
    first_can (s, t, h) = subst (λ b. CanTake plan contents taken wrote failed writes b op block m.stage) (sym (told s t).0) (can s h).0

    pub others_can : CanAll all every some → CanAll ops es ms
    others_can (s, t, h) = (s, (told s t).1, (can s h).1)

    pub takes_more : (n : Member (Stage S K)) (ns : List (Member (Stage S K))) → Takes plan contents taken wrote failed writes e op block m.stage n.stage → TakesAll ops es ms ns → TakesAll all every some (n ∷ ns)
    takes_more n ns one more s t =
        let these = told s t in
        let first : Takes plan contents taken wrote failed writes (end_counts (plan op) s) op block m.stage n.stage = subst (λ b. Takes plan contents taken wrote failed writes b op block m.stage n.stage) these.0 one in
        transport (λ i. TakesEach plan contents taken wrote failed writes s block (sym all_is i) (sym some_is i) (n ∷ ns)) (first, more s these.1)

  pub takes_none : (ops : List O) (es : List Bool) (ms : List (Member (Stage S K))) → length ops ≡ 0 → length ms ≡ length ops → TakesAll ops es ms ms
  takes_none [] es [] none many s t = tt
  takes_none [] es (m ∷ ms) none many s t = absurd (omega (arith, many))
  takes_none (op ∷ ops) es ms none many s t = absurd (omega (arith, none))

  pub takes_untold : (ops : List O) (es : List Bool) (ms : List (Member (Stage S K))) → length es ≡ 0 → length ms ≡ length ops → TakesAll ops es ms ms
  takes_untold [] es [] none many s t = tt
  takes_untold [] es (m ∷ ms) none many s t = absurd (omega (arith, many))
  takes_untold (op ∷ ops) [] ms none many s t = absurd t
  takes_untold (op ∷ ops) (e ∷ es) ms none many s t = absurd (omega (arith, none))

  pub takes_nowhere : (ops : List O) (es : List Bool) (ms : List (Member (Stage S K))) → length ms ≡ 0 → length ms ≡ length ops → TakesAll ops es ms ms
  takes_nowhere [] es [] none many s t = tt
  takes_nowhere (op ∷ ops) es [] none many s t = absurd (omega (arith, many))
  takes_nowhere ops es (m ∷ ms) none many s t = absurd (omega (arith, none))

  -- as many stay
  pub takes_long : (s : Sizes) (ops : List O) (ms ns : List (Member (Stage S K))) → TakesEach plan contents taken wrote failed writes s block ops ms ns → length ns ≡ length ms
  takes_long s [] [] [] t = refl
  takes_long s [] [] (n ∷ ns) t = absurd t
  takes_long s [] (m ∷ ms) ns t = absurd t
  takes_long s (op ∷ ops) [] ns t = absurd t
  takes_long s (op ∷ ops) (m ∷ ms) [] t = absurd t
  takes_long s (op ∷ ops) (m ∷ ms) (n ∷ ns) t = ap suc (takes_long s ops ms ns t.1)

  -- of lists that were lent
  pub lent_can : (ops lent : List O) (es : List Bool) (ms lent_ms : List (Member (Stage S K))) → lent ≡ ops → lent_ms ≡ ms → CanAll ops es ms → CanAll lent es lent_ms
  lent_can ops lent es ms lent_ms e f h = transport (λ i. CanAll (sym e i) es (sym f i)) h

  pub lent_takes : (ops lent : List O) (es : List Bool) (ms lent_ms new out : List (Member (Stage S K))) → lent ≡ ops → lent_ms ≡ ms → out ≡ new → TakesAll lent es lent_ms new → TakesAll ops es ms out
  lent_takes ops lent es ms lent_ms new out e f g h = transport (λ i. TakesAll (e i) es (f i) (sym g i)) h
