-- How each of several queries ended.
use Rattle.std.proofs.Common.{◌≡◌, ◌≢◌, ℕ, ◌+◌, Bool, true, false, ◌&&◌, List, [], ◌∷◌, length, refl, sym, ◌∙◌, ap, subst, arith}
use Rattle.std.proofs.Math.Path.{transport}
use Rattle.std.specs.Prelude.{suc, Option, Some, None, IsSome, Vec}
use Rattle.std.specs.List.{AllByRecursion, AllZip}
use Rattle.std.specs.declared.alloc.Global.{Global}
use Rattle.saber_plan.specs.declared.sizes.Sizes.{Sizes}
use Rattle.saber_plan.specs.Inputs.{Input}
use Rattle.saber_plan.specs.Outputs.{raised_by}
use Rattle.saber_plan.specs.Sizes.{limits_of}
use Rattle.saber_plan.specs.Tasks.{Kept}
use Rattle.saber_plan.specs.Trees.{Tree}
use Rattle.saber_laws.proofs.CheckedLaws.{checked_fit}
use Rattle.saber_fragment.specs.declared.blocks.Block.{Block}
use Rattle.saber_assembly.specs.declared.stage.Stage.{Stage}
use Rattle.saber_plan.specs.declared.stages.StageState.{StageState}
use Rattle.saber_plan.specs.declared.stages.StageState.TheVariants as states
use Rattle.saber_assembly.specs.declared.work.RunData.{RunData}
use Rattle.saber_assembly.specs.Stages.{stage_view}
use Rattle.saber_assembly.specs.Works.{IsTold, IsStageOf, IsBlockOf, first_tasks, input_of as told_input, with_block}
use Rattle.saber_workers.specs.Queries.{Suits}
use Rattle.saber_crew.specs.declared.dispatch.Dispatched.{Dispatched}
use Rattle.saber_crew.specs.declared.dispatch.Over.{Over}
use Rattle.saber_crew.specs.declared.dispatch.Over.TheVariants as over_by
use Rattle.saber_crew.specs.Runs.{RunsTo}
use Rattle.saber_dispatch.specs.declared.cutter.Cutter.{Cutter}
use Rattle.saber_dispatch.specs.declared.ends.End.{End}
use Rattle.saber_dispatch.specs.declared.ends.End.TheVariants as cuts
use Rattle.saber_dispatch.specs.declared.inputs.Inputs.{Inputs}
use Rattle.saber_dispatch.specs.declared.keeper.Keeper.{Keeper}
use Rattle.saber_dispatch.specs.Cutting.{end_counts}
use Rattle.saber_dispatch.specs.Ending.{without_end, with_end, end_given, is_end_due, GivesEnd, EndsEach}
use Rattle.saber_dispatch.specs.Leaving.{GaveAll}
use Rattle.saber_dispatch.specs.Sources.{Lefts, each_input}
use Rattle.saber_dispatch.specs.Supplying.{IsSupplied}
use Rattle.saber_dispatch.proofs.EndsToCome.{due_all}
use Rattle.saber_dispatch.proofs.TaskBlocks.{told_is}
use Rattle.saber_dispatch.proofs.Supplies.{blocks_are_supplied}
use Rattle.saber_many.specs.declared.member.Member.{Member}
use Rattle.saber_many.specs.Alone.{CanDo}
use Rattle.saber_many.specs.Laws.{AllThree, IsOnly}
use Rattle.saber_many.specs.Labors.{all_upto}
use Rattle.saber_many.specs.Queries.{IsAlone, first_fronts}
use Rattle.saber_many.specs.Sharing.{AreTold, AreStages}
use Rattle.saber_many.proofs.EachRuns.{each as each_runs}
use Rattle.saber_engine.specs.declared.ends.Ran.{Ran}
use Rattle.saber_plan.specs.declared.ends.RunEnd.TheVariants.{NoMemory}
use Rattle.saber_engine.specs.Dealing.{GivenOne, GivenEach}
use Rattle.saber_engine.specs.Endings.{end_of, MayStop}
use Rattle.saber_plan.specs.Runs.{GivesOver, writes_over}
use Rattle.saber_engine.specs.Jobs.{MayShare, Stands, base_of, bases, EndsAs}
use Rattle.saber_engine.specs.LastTasks.{ComesLast, CanTake, TakesBlock, Takes, CanTakeEach, TakesEach}
use Rattle.saber_engine.specs.Runs.{RunsPlan}
use Rattle.saber_engine.specs.Sources.{rows_left}
use Rattle.saber_engine.specs.Supplying.{HasGiven, first_told}
use Rattle.saber_engine.proofs.Assembled.{op_is}
use Rattle.saber_engine.proofs.Counts.{few_blocks}
use Rattle.saber_engine.proofs.FirstRows.{given_first}
use Rattle.saber_engine.proofs.Finals.{other_given, stopped_given, final_given, given_so, all_behind, block, front, base_stays, final_runs}
use Rattle.saber_engine.proofs.Results.{Done, done, done_nothing, suits, if_told, took, took_none}

-- what a run comes to over inputs is what the engine says of its plan
pub plan_ran : {X K : Type 0} (left : X → Option (List ℕ)) (faults : X → ℕ) (wrote : K → Option (List ℕ)) (failed writes : K → ℕ) (q : Tree) (s : Sizes) (i j : Inputs X) (sink : K) (ran : Ran K) → length (each_input left i) ≡ length q.streams
    → Done q s (each_input left i) (each_input left j) (each_input faults i) (each_input faults j) (wrote sink) (failed sink) (writes sink) ran.end ran.tasks (wrote ran.sink) (failed ran.sink) (writes ran.sink)
    → (taken : List (List ℕ)) × GaveAll (each_input left i) taken (each_input left j) → MayStop ran.end ran.stopped → RunsPlan left faults wrote failed writes q s i j sink ran
plan_ran left faults wrote failed writes q s i j sink ran many d takes may = record {
  gives = (d.out, d.written_is, if_told (λ files. GivesOver q s files ran.end ran.tasks d.out) left i (λ files h. d.gives files (suits q (limits_of s) left i many) h));
  one_write = if_told (λ files. writes ran.sink ≡ raised_by (writes sink) (writes_over q s files ran.end ran.tasks)) left i (λ files h. d.one_write files (suits q (limits_of s) left i many) h);
  whole = d.whole;
  takes = takes;
  read = d.read;
  write = d.write;
  read_good = d.read_good;
  write_good = d.write_good;
  reads = d.reads;
  writes = d.writes;
  stopped = may;
}

-- ---- the run of one, and the end of the input behind it

end_same : (state : StageState) (over : Over) (a b : Option End) → (state ≡ states.Running → over ≢ over_by.AllGiven) → end_of state over a ≡ end_of state over b
end_same states.Running over_by.AllGiven a b not_all = absurd (not_all refl refl)
end_same states.Running over_by.Stopped a b not_all = refl
end_same states.Running over_by.NoMemory a b not_all = refl
end_same states.SinkFailed over a b not_all = refl
end_same states.NoMemory over a b not_all = refl

sink_not_running : states.SinkFailed ≡ states.Running → ⊥
sink_not_running e = cc

lack_not_running : states.NoMemory ≡ states.Running → ⊥
lack_not_running e = cc

not_both : false ≡ true → ⊥
not_both e = cc

both_on : (a b : Bool) → (a && b) ≡ true → (a ≡ true) × (b ≡ true)
both_on true b h = (refl, h)
both_on false b h = absurd (not_both h)

both_off : (a b : Bool) → b ≡ false → (a && b) ≡ true → ⊥
both_off a b off h = not_both (sym off ∙ (both_on a b h).1)

module _ {O S K : Type 0} (plan : O → Tree) (contents : S → Kept) (taken : O → S → Input → Type 0) (wrote : K → Option (List ℕ)) (failed writes : K → ℕ)
    (s : Sizes) (had has : Lefts) (before now : List ℕ) (c : Cutter) (end : Option End) (fed : Dispatched) where
  abbrev is_stage : RunData O → ℕ → Bool → Stage S K → Type 0
  is_stage = IsStageOf plan (stage_view contents wrote failed writes) taken

  -- the run of one without the end of the input, whose blocks a keeper of its own passed on
  pub record RunsOne (base : RunData O) (stage : Stage S K) : Type 0 where
    pub keeper : Keeper
    pub run : RunsTo (IsTold plan) first_tasks is_stage (HasGiven plan (without_end s) had has before now c keeper end) (IsSome end) base stage fed
    pub alone : IsAlone plan run.told

  module _ (op : O) (w : Option (List ℕ)) (f times : ℕ) where
    -- what comes of it, with the end behind it
    abbrev DoneSo : Stage S K → Type 0
    DoneSo stage = Done (plan op) s had has before now w f times (end_of stage.state fed.over end) stage.k (wrote stage.sink) (failed stage.sink) (writes stage.sink)

    module _ (old : Stage S K) (o : RunsOne (first_told op s.task w f times (rows_left plan s had op)) old) where
      abbrev k : Keeper
      k = o.keeper

      abbrev r : RunsTo (IsTold plan) first_tasks is_stage (HasGiven plan (without_end s) had has before now c k end) (IsSome end) (first_told op s.task w f times (rows_left plan s had op)) old fed
      r = o.run

      op_same : r.told.operator ≡ op
      op_same = op_is plan contents taken wrote failed writes op s.task w f times (rows_left plan s had op) (HasGiven plan (without_end s) had has before now c k end) (IsSome end) old fed r

      same_counts : end_counts (plan r.told.operator) s ≡ end_counts (plan op) s
      same_counts = ap (λ x. end_counts (plan x) s) op_same

      -- nobody was given the end
      still_by : (due : Bool) → (is_end_due c && end_counts (plan r.told.operator) s) ≡ due → (due ≡ true → old.state ≡ states.Running → fed.over ≢ over_by.AllGiven) → DoneSo old
      still_by false off not_all =
          done plan contents taken wrote failed writes op s w f times had has before now (with_end (plan r.told.operator) s c) k end old fed
          (given_so (IsTold plan) first_tasks is_stage (HasGiven plan (without_end s) had has before now c k end) (HasGiven plan s had has before now (with_end (plan r.told.operator) s c) k end) (IsSome end) (IsSome end) (first_told op s.task w f times (rows_left plan s had op)) old fed r
          (other_given plan s had has before now c k end r.told r.count r.is_given off) (λ x. x))
      still_by true is not_all =
          let lacks : Cutter = record c { flush = end_counts (plan r.told.operator) s; ended = Some cuts.NoMemory } in
          let all = (due_all c.number c.ended (both_on (is_end_due c) (end_counts (plan r.told.operator) s) is).0).0 in
          let d = done plan contents taken wrote failed writes op s w f times had has before now lacks k (Some cuts.NoMemory) old fed
          (given_so (IsTold plan) first_tasks is_stage (HasGiven plan (without_end s) had has before now c k end) (HasGiven plan s had has before now lacks k (Some cuts.NoMemory)) (IsSome end) (IsSome (Some cuts.NoMemory)) (first_told op s.task w f times (rows_left plan s had op)) old fed r
          (stopped_given plan s had has before now c k end r.told r.count r.is_given all) (λ x. refl)) in
          subst (λ e. Done (plan op) s had has before now w f times e old.k (wrote old.sink) (failed old.sink) (writes old.sink)) (end_same old.state fed.over (Some cuts.NoMemory) end (not_all refl)) d

      still : ((is_end_due c && end_counts (plan op) s) ≡ true → old.state ≡ states.Running → fed.over ≢ over_by.AllGiven) → DoneSo old
      still not_all = still_by (is_end_due c && end_counts (plan r.told.operator) s) refl (λ e. not_all (ap (λ b. is_end_due c && b) (sym same_counts) ∙ e))

      stays : (new : Stage S K) → new ≡ old → ((is_end_due c && end_counts (plan op) s) ≡ true → old.state ≡ states.Running → fed.over ≢ over_by.AllGiven) → DoneSo new
      stays new e not_all = subst DoneSo (sym e) (still not_all)

      -- it was given to this one
      module _ (b : Block) (all : fed.over ≡ over_by.AllGiven) (due : is_end_due c ≡ true) (each : EndsEach c b) (counts : end_counts (plan op) s ≡ true) (runs : old.state ≡ states.Running) where
        gives : GivesEnd (plan r.told.operator) s had has c (told_input r.told) b
        gives = each (plan r.told.operator) s had has (told_input r.told) o.alone (same_counts ∙ counts) r.is_given.cuts

        supplied : IsSupplied plan r.told b
        supplied =
            let next : b.number ≡ c.number = gives.next.number ∙ sym r.is_given.cuts.count in
            let first = given_first plan s had has (end_given c) (with_block r.told b) (b.number + 1) gives.cuts r.is_given.size (ap (λ n. n + 1) next) r.is_given.all in
            blocks_are_supplied plan r.told s b r.is_given.size gives.next gives.placed first

        number : b.number ≡ r.count
        number = gives.next.number ∙ sym r.is_given.cuts.count ∙ sym r.is_given.count

        abbrev given : RunData O → ℕ → Type 0
        given = HasGiven plan (without_end s) had has before now c k end

        next_block : IsBlockOf plan (with_block r.told b) r.count b
        next_block = block plan contents taken wrote failed writes given (IsSome end) (first_told op s.task w f times (rows_left plan s had op)) old fed r all runs b supplied number

        suits_more : Suits op (first_tasks (with_block r.told b) 0)
        suits_more = ap (λ (t : RunData O). t.operator) (base_stays plan contents taken wrote failed writes given (IsSome end) (first_told op s.task w f times (rows_left plan s had op)) old fed r all runs b supplied number)

        behind : is_stage (first_tasks (with_block r.told b) r.count) r.count false old
        behind =
            subst (λ t. is_stage t r.count false old) (sym (front plan contents taken wrote failed writes given (IsSome end) (first_told op s.task w f times (rows_left plan s had op)) old fed r all runs b supplied number))
            (all_behind plan contents taken wrote failed writes given (IsSome end) (first_told op s.task w f times (rows_left plan s had op)) old fed r all runs)

        -- it may be taken
        can : CanDo first_tasks (IsBlockOf plan) is_stage (IsAlone plan) Suits op old b
        can =
            let few = few_blocks (plan r.told.operator) s (told_input r.told) b gives.next in
            (with_block r.told b, r.count, omega (arith, few, number), suits_more, (next_block, o.alone), behind)

        ended_so : (x : Option End) → end ≡ x → IsSome x → end ≡ Some cuts.AllRead
        ended_so None e some = absurd (not_both some)
        ended_so (Some x) e some =
            let is = (told_is c.flush c.number c.ended x (r.is_given.ended x e)).0 in
            e ∙ sym is ∙ (due_all c.number c.ended due).0

        is_end : end ≡ Some cuts.AllRead
        is_end = ended_so end refl (r.all all).1

        taken_so : (new : Stage S K) → TakesBlock plan contents taken wrote failed writes (end_counts (plan op) s) op b old new → DoneSo new
        taken_so new t =
            let does = t.takes counts runs in
            let on = does.1 (with_block r.told b) r.count suits_more (next_block, o.alone) behind in
            let d = done plan contents taken wrote failed writes op s w f times had has before now (end_given c) k (Some cuts.AllRead) new (record fed { tasks = fed.tasks + 1 })
            (final_runs plan contents taken wrote failed writes given (IsSome end) (first_told op s.task w f times (rows_left plan s had op)) old fed r all runs b supplied number new (HasGiven plan s had has before now (end_given c) k (Some cuts.AllRead))
            (final_given plan s had has before now c k end r.told r.count r.is_given (due_all c.number c.ended due).0 b gives is_end) (IsSome (Some cuts.AllRead)) refl does.0 on) in
            subst (λ e. Done (plan op) s had has before now w f times (end_of new.state fed.over e) new.k (wrote new.sink) (failed new.sink) (writes new.sink)) (sym is_end) d

      by_state : (state : StageState) → old.state ≡ state → (b : Block) → fed.over ≡ over_by.AllGiven → is_end_due c ≡ true → EndsEach c b → end_counts (plan op) s ≡ true → (new : Stage S K) → TakesBlock plan contents taken wrote failed writes (end_counts (plan op) s) op b old new → DoneSo new
      by_state states.Running e b all due each counts new t = taken_so b all due each counts e new t
      by_state states.SinkFailed e b all due each counts new t = stays new (t.stopped (λ h. sink_not_running (sym e ∙ h))) (λ x h. absurd (sink_not_running (sym e ∙ h)))
      by_state states.NoMemory e b all due each counts new t = stays new (t.stopped (λ h. lack_not_running (sym e ∙ h))) (λ x h. absurd (lack_not_running (sym e ∙ h)))

      by_counts : (counts : Bool) → end_counts (plan op) s ≡ counts → (b : Block) → fed.over ≡ over_by.AllGiven → is_end_due c ≡ true → EndsEach c b → (new : Stage S K) → TakesBlock plan contents taken wrote failed writes (end_counts (plan op) s) op b old new → DoneSo new
      by_counts true e b all due each new t = by_state old.state refl b all due each e new t
      by_counts false e b all due each new t = stays new (t.other e) (λ x. absurd (both_off (is_end_due c) (end_counts (plan op) s) e x))

      -- what comes of it
      pub one_done : (last : Option Block) → ComesLast c fed.over last → (new : Stage S K) → Takes plan contents taken wrote failed writes (end_counts (plan op) s) op last old new → DoneSo new
      one_done None comes new t = stays new t (λ is h all. not_both (sym (comes all) ∙ (both_on (is_end_due c) (end_counts (plan op) s) is).0))
      one_done (Some b) comes new t = by_counts (end_counts (plan op) s) refl b comes.0 comes.1 comes.2 new t

      -- the end may be taken by it
      pub one_can : (last : Option Block) → ComesLast c fed.over last → CanTake plan contents taken wrote failed writes (end_counts (plan op) s) op last old
      one_can None comes = tt
      one_can (Some b) comes = λ counts runs. can b comes.0 comes.1 comes.2 counts runs

  -- ---- each

  abbrev RunsOnly : ℕ → RunData O → RunData O → Member (Stage S K) → Type 0
  RunsOnly count told base m = RunsTo (IsTold plan) first_tasks is_stage (IsOnly told count) (IsSome end) base m.stage fed

  one_run : (count : ℕ) (t base : RunData O) (m : Member (Stage S K)) (k : Keeper) → RunsOnly count t base m → GivenOne plan (without_end s) had has before now c end count k t → RunsOne base m.stage
  one_run count t base m x given g = record {
    keeper = x;
    run = given_so (IsTold plan) first_tasks is_stage (IsOnly t count) (HasGiven plan (without_end s) had has before now c x end) (IsSome end) (IsSome end) base m.stage fed given
        (transport (λ i. HasGiven plan (without_end s) had has before now c x end (sym given.is_given.0 i) (sym given.is_given.1 i)) g.0) (λ x. x);
    alone = subst (IsAlone plan) (sym given.is_given.0) g.1;
  }

  pub each_run : (count : ℕ) (ts bs : List (RunData O)) (ms : List (Member (Stage S K))) (ks : List Keeper) → AllThree (RunsOnly count) ts bs ms → AllZip (GivenOne plan (without_end s) had has before now c end count) ks ts → AllZip (λ b m. RunsOne b m.stage) bs ms
  each_run count [] [] [] ks r g = tt
  each_run count [] [] (m ∷ ms) ks r g = absurd r
  each_run count [] (b ∷ bs) ms ks r g = absurd r
  each_run count (t ∷ ts) [] ms ks r g = absurd r
  each_run count (t ∷ ts) (b ∷ bs) [] ks r g = absurd r
  each_run count (t ∷ ts) (b ∷ bs) (m ∷ ms) [] r g = absurd g
  each_run count (t ∷ ts) (b ∷ bs) (m ∷ ms) (k ∷ ks) r g = (one_run count t b m k r.0 g.0, each_run count ts bs ms ks r.1 g.1)

  -- a run of all is one of each, by the data and sizes that it names
  pub all_run : (ops : List O) (olds : List (Member (Stage S K))) (news : Vec (Member (Stage S K)) Global) (ks : List Keeper) (n : ℕ) (z : Sizes) (l : Lefts) (b : List ℕ) → n ≡ s.task → z ≡ without_end s → l ≡ had → b ≡ before
      → RunsTo (AreTold (IsTold plan) (IsAlone plan)) (all_upto first_tasks) (λ told k stopped (v : Vec (Member (Stage S K)) Global). AreStages first_tasks is_stage told k stopped v.items) (GivenEach plan z l has b now c end ks) (IsSome end) (bases n (rows_left plan z l) wrote failed writes ops olds) news fed
      → AllZip (λ b m. RunsOne b m.stage) (bases s.task (rows_left plan s had) wrote failed writes ops olds) news.items
  all_run ops olds news ks n z l b n_is z_is l_is b_is all =
      let (told, count, given, runs) = each_runs (IsTold plan) (IsAlone plan) first_tasks is_stage first_fronts (λ (e : Option End) (k : List Keeper). GivenEach plan z l has b now c e k) (λ (e : Option End). IsSome e) (λ (v : Vec (Member (Stage S K)) Global). v.items) end ks (bases n (rows_left plan z l) wrote failed writes ops olds) news fed all in
      let g : GivenEach plan (without_end s) had has before now c end ks told count = transport (λ x. GivenEach plan (z_is x) (l_is x) has (b_is x) now c end ks told count) given in
      let r : AllThree (RunsOnly count) told (bases s.task (rows_left plan s had) wrote failed writes ops olds) news.items = transport (λ x. AllThree (RunsOnly count) told (bases (n_is x) (rows_left plan (z_is x) (l_is x)) wrote failed writes ops olds) news.items) runs in
      each_run count told (bases s.task (rows_left plan s had) wrote failed writes ops olds) news.items ks r g.1

  -- the end may be taken by each
  pub each_can : {A : Type 0} (R : O → A → Member (Stage S K) → Type 0) (last : Option Block) → ComesLast c fed.over last → (ops : List O) (qs : List A) (olds ms : List (Member (Stage S K))) → AllThree R ops qs olds → AllZip (λ b m. RunsOne b m.stage) (bases s.task (rows_left plan s had) wrote failed writes ops olds) ms
      → CanTakeEach plan contents taken wrote failed writes s last ops ms
  each_can R last comes [] [] [] [] t r = tt
  each_can R last comes [] [] [] (m ∷ ms) t r = absurd r
  each_can R last comes [] [] (o ∷ olds) ms t r = absurd t
  each_can R last comes [] (a ∷ qs) olds ms t r = absurd t
  each_can R last comes (op ∷ ops) [] olds ms t r = absurd t
  each_can R last comes (op ∷ ops) (a ∷ qs) [] ms t r = absurd t
  each_can R last comes (op ∷ ops) (a ∷ qs) (o ∷ olds) [] t r = absurd r
  each_can R last comes (op ∷ ops) (a ∷ qs) (o ∷ olds) (m ∷ ms) t r = (one_can op (wrote o.stage.sink) (failed o.stage.sink) (writes o.stage.sink) m.stage r.0 last comes, each_can R last comes ops qs olds ms t.1 r.1)

  -- there are as many behind the run
  pub runs_long : {A : Type 0} (R : O → A → Member (Stage S K) → Type 0) (ops : List O) (qs : List A) (olds ms : List (Member (Stage S K))) → AllThree R ops qs olds → AllZip (λ b m. RunsOne b m.stage) (bases s.task (rows_left plan s had) wrote failed writes ops olds) ms → length ms ≡ length ops
  runs_long R [] [] [] [] t r = refl
  runs_long R [] [] [] (m ∷ ms) t r = absurd r
  runs_long R [] [] (o ∷ olds) ms t r = absurd t
  runs_long R [] (a ∷ qs) olds ms t r = absurd t
  runs_long R (op ∷ ops) [] olds ms t r = absurd t
  runs_long R (op ∷ ops) (a ∷ qs) [] ms t r = absurd t
  runs_long R (op ∷ ops) (a ∷ qs) (o ∷ olds) [] t r = absurd r
  runs_long R (op ∷ ops) (a ∷ qs) (o ∷ olds) (m ∷ ms) t r = ap suc (runs_long R ops qs olds ms t.1 r.1)

-- ---- all of them

module _ {O S K X : Type 0} (plan : O → Tree) (contents : S → Kept) (taken : O → S → Input → Type 0) (wrote : K → Option (List ℕ)) (failed writes : K → ℕ) (left : X → Option (List ℕ)) (faults : X → ℕ)
    {A : Type 0} (tree : A → Tree) (sink : A → K) (s : Sizes) (columns : ℕ) (i j : Inputs X) (one : length (each_input left i) ≡ 1) (c : Cutter) (end : Option End) (fed : Dispatched) (last : Option Block) (comes : ComesLast c fed.over last) where
  abbrev had : Lefts
  had = each_input left i

  abbrev has : Lefts
  has = each_input left j

  abbrev before : List ℕ
  before = each_input faults i

  abbrev now : List ℕ
  now = each_input faults j

  abbrev RunsAs : RunData O → Member (Stage S K) → Type 0
  RunsAs base m = RunsOne plan contents taken wrote failed writes s had has before now c end fed base m.stage

  one_ran : (op : O) (a : A) (old mid new : Member (Stage S K)) (ran : Ran K) → plan op ≡ tree a → MayShare columns (tree a) → Stands plan contents taken wrote failed writes op (sink a) old → RunsAs (base_of s.task (rows_left plan s had) wrote failed writes op old) mid
      → Takes plan contents taken wrote failed writes (end_counts (plan op) s) op last mid.stage new.stage → EndsAs fed.over end new ran → RunsPlan left faults wrote failed writes (tree a) s i j (sink a) ran
  one_ran op a old mid new ran is may stands o takes ends =
      let over = one_done plan contents taken wrote failed writes s had has before now c end fed op (wrote old.stage.sink) (failed old.stage.sink) (writes old.stage.sink) mid.stage o last comes new.stage takes in
      let d : Done (tree a) s had has before now (wrote (sink a)) (failed (sink a)) (writes (sink a)) ran.end ran.tasks (wrote ran.sink) (failed ran.sink) (writes ran.sink) =
      transport (λ x. Done (is x) s had has before now (wrote (stands.sink_is x)) (failed (stands.sink_is x)) (writes (stands.sink_is x)) (sym ends.end_is x) (sym ends.tasks x) (wrote (sym ends.sink_is x)) (failed (sym ends.sink_is x)) (writes (sym ends.sink_is x))) over in
      plan_ran left faults wrote failed writes (tree a) s i j (sink a) ran (one ∙ sym may.one) d (took _ left i j _ _ o.run.is_given.cuts.took.moves) ends.may

  -- each ran as if it ran alone
  pub each_ran : (ops : List O) (qs : List A) (olds mids news : List (Member (Stage S K))) (rans : List (Ran K)) → AllZip (λ op a. plan op ≡ tree a) ops qs → AllByRecursion (λ a. MayShare columns (tree a)) qs
      → AllThree (λ op a m. Stands plan contents taken wrote failed writes op (sink a) m) ops qs olds → AllZip RunsAs (bases s.task (rows_left plan s had) wrote failed writes ops olds) mids → TakesEach plan contents taken wrote failed writes s last ops mids news
      → AllZip (EndsAs fed.over end) news rans → AllZip (λ a ran. RunsPlan left faults wrote failed writes (tree a) s i j (sink a) ran) qs rans
  each_ran [] [] [] [] [] [] is may stands runs takes ends = tt
  each_ran [] [] [] [] [] (x ∷ xs) is may stands runs takes ends = absurd ends
  each_ran [] [] [] [] (n ∷ ns) xs is may stands runs takes ends = absurd takes
  each_ran [] [] [] (m ∷ ms) ns xs is may stands runs takes ends = absurd runs
  each_ran [] [] (o ∷ os) ms ns xs is may stands runs takes ends = absurd stands
  each_ran [] (a ∷ qs) os ms ns xs is may stands runs takes ends = absurd is
  each_ran (op ∷ ops) [] os ms ns xs is may stands runs takes ends = absurd is
  each_ran (op ∷ ops) (a ∷ qs) [] ms ns xs is may stands runs takes ends = absurd stands
  each_ran (op ∷ ops) (a ∷ qs) (o ∷ os) [] ns xs is may stands runs takes ends = absurd runs
  each_ran (op ∷ ops) (a ∷ qs) (o ∷ os) (m ∷ ms) [] xs is may stands runs takes ends = absurd takes
  each_ran (op ∷ ops) (a ∷ qs) (o ∷ os) (m ∷ ms) (n ∷ ns) [] is may stands runs takes ends = absurd ends
  each_ran (op ∷ ops) (a ∷ qs) (o ∷ os) (m ∷ ms) (n ∷ ns) (x ∷ xs) is may stands runs takes ends =
      (one_ran op a o m n x is.0 may.0 stands.0 runs.0 takes.0 ends.0, each_ran ops qs os ms ns xs is.1 may.1 stands.1 runs.1 takes.1 ends.1)

  -- by how the blocks ended, as they tell it when they go
  pub all_ran : (ops : List O) (qs : List A) (olds mids news : List (Member (Stage S K))) (rans : List (Ran K)) → AllZip (λ op a. plan op ≡ tree a) ops qs → AllByRecursion (λ a. MayShare columns (tree a)) qs
      → AllThree (λ op a m. Stands plan contents taken wrote failed writes op (sink a) m) ops qs olds → AllZip RunsAs (bases s.task (rows_left plan s had) wrote failed writes ops olds) mids → TakesEach plan contents taken wrote failed writes s last ops mids news
      → (over : Option End) → over ≡ end → AllZip (EndsAs fed.over over) news rans → AllZip (λ a ran. RunsPlan left faults wrote failed writes (tree a) s i j (sink a) ran) qs rans
  all_ran ops qs olds mids news rans is may stands runs takes over over_is ends = each_ran ops qs olds mids news rans is may stands runs takes (subst (λ o. AllZip (EndsAs fed.over o) news rans) over_is ends)

-- ---- where memory lacked to begin

module _ {O S K X : Type 0} (plan : O → Tree) (contents : S → Kept) (taken : O → S → Input → Type 0) (wrote : K → Option (List ℕ)) (failed writes : K → ℕ) (left : X → Option (List ℕ)) (faults : X → ℕ)
    {A : Type 0} (tree : A → Tree) (sink : A → K) (s : Sizes) (columns : ℕ) (i : Inputs X) (one : length (each_input left i) ≡ 1) where
  one_refused : (op : O) (a : A) (m : Member (Stage S K)) (ran : Ran K) → MayShare columns (tree a) → Stands plan contents taken wrote failed writes op (sink a) m → EndsAs over_by.NoMemory None m ran → RunsPlan left faults wrote failed writes (tree a) s i i (sink a) ran
  one_refused op a m ran may stands ends =
      let end_is : ran.end ≡ NoMemory = ends.end_is ∙ ap (λ z. end_of z over_by.NoMemory None) stands.runs in
      let tasks : ran.tasks ≡ 0 = ends.tasks ∙ stands.none in
      let sink_is : ran.sink ≡ sink a = ends.sink_is ∙ stands.sink_is in
      let n = done_nothing (tree a) (checked_fit (tree a) may.checked) s (each_input left i) (each_input faults i) (wrote (sink a)) (failed (sink a)) (writes (sink a)) in
      let d : Done (tree a) s (each_input left i) (each_input left i) (each_input faults i) (each_input faults i) (wrote (sink a)) (failed (sink a)) (writes (sink a)) ran.end ran.tasks (wrote ran.sink) (failed ran.sink) (writes ran.sink) =
      transport (λ x. Done (tree a) s (each_input left i) (each_input left i) (each_input faults i) (each_input faults i) (wrote (sink a)) (failed (sink a)) (writes (sink a)) (sym end_is x) (sym tasks x) (wrote (sym sink_is x)) (failed (sym sink_is x)) (writes (sym sink_is x))) n in
      plan_ran left faults wrote failed writes (tree a) s i i (sink a) ran (one ∙ sym may.one) d (took_none left i) ends.may

  -- each is as it was
  pub each_refused : (ops : List O) (qs : List A) (ms : List (Member (Stage S K))) (rans : List (Ran K)) → AllByRecursion (λ a. MayShare columns (tree a)) qs → AllThree (λ op a m. Stands plan contents taken wrote failed writes op (sink a) m) ops qs ms
      → AllZip (EndsAs over_by.NoMemory None) ms rans → AllZip (λ a ran. RunsPlan left faults wrote failed writes (tree a) s i i (sink a) ran) qs rans
  each_refused [] [] [] [] may stands ends = tt
  each_refused [] [] [] (x ∷ xs) may stands ends = absurd ends
  each_refused [] [] (m ∷ ms) xs may stands ends = absurd stands
  each_refused [] (a ∷ qs) ms xs may stands ends = absurd stands
  each_refused (op ∷ ops) [] ms xs may stands ends = absurd stands
  each_refused (op ∷ ops) (a ∷ qs) [] xs may stands ends = absurd stands
  each_refused (op ∷ ops) (a ∷ qs) (m ∷ ms) [] may stands ends = absurd ends
  each_refused (op ∷ ops) (a ∷ qs) (m ∷ ms) (x ∷ xs) may stands ends = (one_refused op a m x may.0 stands.0 ends.0, each_refused ops qs ms xs may.1 stands.1 ends.1)
