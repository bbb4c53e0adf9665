-- A run without the end of its input, and then the end, for those of which it is a task.
use Rattle.std.proofs.Common.{◌≡◌, ℕ, ◌+◌, ◌==◌, Bool, true, false, cond, ◌&&◌, not, List, refl, sym, ◌∙◌, ap, subst, arith}
use Rattle.std.proofs.Math.Path.{transport}
use Rattle.std.specs.Prelude.{Option, Some, None}
use Rattle.saber_plan.specs.declared.rows.Side.{Side}
use Rattle.saber_plan.specs.declared.sizes.Sizes.{Sizes}
use Rattle.saber_plan.specs.Inputs.{Input}
use Rattle.saber_plan.specs.Tasks.{Kept}
use Rattle.saber_plan.specs.Trees.{Tree}
use Rattle.saber_fragment.specs.declared.blocks.Block.{Block}
use Rattle.saber_ring.specs.Shows.{extra}
use Rattle.saber_assembly.specs.declared.stage.Stage.{Stage}
use Rattle.saber_plan.specs.declared.stages.StageState.TheVariants.{Running}
use Rattle.saber_assembly.specs.declared.work.RunData.{RunData}
use Rattle.saber_assembly.specs.Stages.{stage_view}
use Rattle.saber_assembly.specs.Works.{IsTold, IsBlockOf, IsStageOf, first_tasks, input_of, with_block}
use Rattle.saber_assembly.specs.WorkLaws.{block_keeps, tasks_whole}
use Rattle.saber_workers.specs.Labors.{GoesOn}
use Rattle.saber_crew.specs.declared.dispatch.Dispatched.{Dispatched}
use Rattle.saber_crew.specs.declared.dispatch.Over.TheVariants.{AllGiven, Stopped}
use Rattle.saber_crew.specs.Runs.{RunsTo}
use Rattle.saber_dispatch.specs.declared.cutter.Cutter.{Cutter}
use Rattle.saber_dispatch.specs.declared.ends.End.{End}
use Rattle.saber_dispatch.specs.declared.ends.End.TheVariants.{AllRead, Bad, ReadFault, TooWide, NoMemory}
use Rattle.saber_dispatch.specs.declared.keeper.Keeper.{Keeper}
use Rattle.saber_dispatch.specs.Cutting.{is_due, told_end, end_counts}
use Rattle.saber_dispatch.specs.Ending.{without_end, with_end, end_given, due_at, is_end_due, GivesEnd}
use Rattle.saber_dispatch.specs.Sources.{Lefts}
use Rattle.saber_dispatch.specs.Supplying.{IsSupplied}
use Rattle.saber_dispatch.proofs.EndsToCome.{end_to_come, lacks_end}
use Rattle.saber_dispatch.proofs.TaskBlocks.{told_is}
use Rattle.saber_engine.specs.Supplying.{HasGiven, AreCounted}

none_some : {A : Type 0} (x : A) → ◌≡◌ {A = Option A} None (Some x) → ⊥
none_some x e = cc

not_both : true ≡ false → ⊥
not_both e = cc

all_not_fault : (side : Side) → ◌≡◌ {A = Option End} (Some AllRead) (Some (ReadFault side)) → ⊥
all_not_fault side e = cc

lack_not_fault : (side : Side) → ◌≡◌ {A = Option End} (Some NoMemory) (Some (ReadFault side)) → ⊥
lack_not_fault side e = cc

given_not_stopped : AllGiven ≡ Stopped → ⊥
given_not_stopped e = cc

-- ---- which end is told

by_both : (f b : Bool) → (b && f) ≡ false → (f && b) ≡ false
by_both true true h = h
by_both true false h = refl
by_both false b h = refl

by_end : (f : Bool) (n : ℕ) (e : End) → (is_due true n e && f) ≡ false → is_due f n e ≡ false
by_end f n AllRead h = by_both f (not (n == 0)) h
by_end f n (Bad side line cause) h = refl
by_end f n (ReadFault side) h = refl
by_end f n (TooWide task needs) h = refl
by_end f n NoMemory h = refl

-- an end that isn't due is told
told_again : (f : Bool) (n : ℕ) (o : Option End) (e : End) → o ≡ Some e → is_due f n e ≡ false → told_end f n o ≡ Some e
told_again f n o e is off = ap (told_end f n) is ∙ ap (λ b. cond {A = Option End} b None (Some e)) off

-- ---- what was given

module _ {O : Type 0} (plan : O → Tree) (s : Sizes) (had has : Lefts) (before now : List ℕ) (c : Cutter) (k : Keeper) (end : Option End) (told : RunData O) (d : ℕ) (h : HasGiven plan (without_end s) had has before now c k end told d) where
  abbrev q : Tree
  q = plan told.operator

  ended_so : (e : End) → end ≡ Some e → c.ended ≡ Some e
  ended_so e is = (told_is c.flush c.number c.ended e (h.ended e is)).0

  -- where the end isn't due, or counts for nothing
  pub other_given : (is_end_due c && end_counts q s) ≡ false → HasGiven plan s had has before now (with_end q s c) k end told d
  other_given off = record {
    cuts = end_to_come q s had has c (input_of told) h.cuts;
    size = h.size;
    all = h.all;
    count = h.count;
    kept = h.kept;
    placed = h.placed;
    ended = λ e is. let so = ended_so e is in told_again (end_counts q s) c.number c.ended e so (by_end (end_counts q s) c.number e (subst (λ o. (due_at c.number o && end_counts q s) ≡ false) so off));
    sound = λ still side e. h.sound still side (told_again c.flush c.number c.ended (ReadFault side) (told_is (end_counts q s) c.number c.ended (ReadFault side) e).0 refl);
    counted = h.counted;
  }

  module _ (all : c.ended ≡ Some AllRead) where
    -- where it is due, but is given to nobody
    pub stopped_given : HasGiven plan s had has before now (record c { flush = end_counts q s; ended = Some NoMemory }) k (Some NoMemory) told d
    stopped_given = record {
      cuts = lacks_end q s had has c (input_of told) h.cuts;
      size = h.size;
      all = h.all;
      count = h.count;
      kept = λ f. absurd (none_some NoMemory (sym f));
      placed = λ f. absurd (none_some NoMemory (sym f));
      ended = λ e is. is;
      sound = λ f. absurd (none_some NoMemory (sym f));
      counted = record {
        fell = h.counted.fell;
        good = λ _. h.counted.good (λ side is. all_not_fault side (sym all ∙ ended_so (ReadFault side) is));
        cause = λ side f. absurd (lack_not_fault side f);
      };
    }

    -- where it is given
    pub final_given : (b : Block) → GivesEnd q s had has c (input_of told) b → end ≡ Some AllRead → HasGiven plan s had has before now (end_given c) k (Some AllRead) (with_block told b) (d + 1)
    final_given b g is_end = record {
      cuts = g.cuts;
      size = h.size;
      all = h.all;
      count = ap (λ n. n + 1) h.count;
      kept = λ f. absurd (none_some AllRead (sym f));
      placed = λ f. absurd (none_some AllRead (sym f));
      ended = λ e is. told_again false (c.number + 1) c.ended AllRead all refl ∙ is;
      sound = λ f. absurd (none_some AllRead (sym f));
      counted = subst (λ o. AreCounted o before now) is_end h.counted;
    }

-- ---- a run

-- one to which these data were given in another way
abbrev pub given_so : {T S : Type 0} (is_told : T → ℕ → Type 0) (upto : T → ℕ → T) (is_stage : T → ℕ → Bool → S → Type 0) (given other : T → ℕ → Type 0) (ended over : Type 0) (base : T) (stage : S) (fed : Dispatched)
    → (r : RunsTo is_told upto is_stage given ended base stage fed) → other r.told r.count → (ended → over) → RunsTo is_told upto is_stage other over base stage fed
given_so is_told upto is_stage given other ended over base stage fed r g on = record {
  told = r.told;
  count = r.count;
  is_given = g;
  known = r.known;
  base_is = r.base_is;
  few = r.few;
  all = λ e. let a = r.all e in (a.0, on a.1);
  k = r.k;
  stopped = r.stopped;
  stage_is = r.stage_is;
  within = r.within;
  runs = r.runs;
}

module _ {O S K : Type 0} (plan : O → Tree) (contents : S → Kept) (taken : O → S → Input → Type 0) (wrote : K → Option (List ℕ)) (failed writes : K → ℕ) where
  abbrev is_stage : RunData O → ℕ → Bool → Stage S K → Type 0
  is_stage = IsStageOf plan (stage_view contents wrote failed writes) taken

  module _ (given : RunData O → ℕ → Type 0) (ended : Type 0) (base : RunData O) (old : Stage S K) (fed : Dispatched) (r : RunsTo (IsTold plan) first_tasks is_stage given ended base old fed) (all : fed.over ≡ AllGiven) (runs : old.state ≡ Running) where
    goes_on : (x : Bool) → r.stopped ≡ x → x ≡ false
    goes_on false e = refl
    goes_on true e = absurd (r.stage_is.stops e runs)

    open_still : r.stopped ≡ false
    open_still = goes_on r.stopped refl

    k_is : r.k ≡ r.count
    k_is = (r.runs open_still).0 ∙ (r.all all).0

    -- all that was given is behind the stage
    pub all_behind : is_stage (first_tasks r.told r.count) r.count false old
    all_behind =
        let so : is_stage (first_tasks r.told (r.k + extra false)) r.k false old = subst (λ x. is_stage (first_tasks r.told (r.k + extra x)) r.k x old) open_still r.stage_is in
        let same : r.k + extra false ≡ r.count = omega (arith, k_is) in
        transport (λ i. is_stage (first_tasks r.told (same i)) (k_is i) false old) so

    module _ (b : Block) (supplied : IsSupplied plan r.told b) (number : b.number ≡ r.count) where
      abbrev more : RunData O
      more = with_block r.told b

      pub block : IsBlockOf plan more r.count b
      block = subst (λ n. IsBlockOf plan more n b) number supplied.block

      known : IsTold plan more (r.count + 1)
      known = subst (λ n. IsTold plan more (n + 1)) number supplied.told_is

      -- and behind it comes the block
      pub front : first_tasks more r.count ≡ first_tasks r.told r.count
      front = block_keeps plan r.told r.count r.count b r.known known block (omega arith)

      pub base_stays : first_tasks more 0 ≡ base
      base_stays = block_keeps plan r.told r.count 0 b r.known known block (omega arith) ∙ r.base_is

      module _ (new : Stage S K) (other : RunData O → ℕ → Type 0) (g : other more (r.count + 1)) (over : Type 0) (is_over : over) where
        -- a run of one task more
        pub final_runs : (goes : Bool) → GoesOn is_stage more r.count new goes → RunsTo (IsTold plan) first_tasks is_stage other over base new (record fed { tasks = fed.tasks + 1 })
        final_runs true on =
            let tasks : fed.tasks ≡ r.count = (r.all all).0 in
            let whole : more ≡ first_tasks more (r.count + 1 + extra false) = sym (ap (first_tasks more) (let same : r.count + 1 + extra false ≡ r.count + 1 = omega arith in same) ∙ tasks_whole plan more (r.count + 1) known) in
            record {
              told = more;
              count = r.count + 1;
              is_given = g;
              known = known;
              base_is = base_stays;
              few = omega (arith, r.few);
              all = λ _. (ap (λ n. n + 1) tasks, is_over);
              k = r.count + 1;
              stopped = false;
              stage_is = subst (λ t. is_stage t (r.count + 1) false new) whole on;
              within = omega (arith, tasks);
              runs = λ _. (ap (λ n. n + 1) (sym tasks), λ e. given_not_stopped (sym all ∙ e));
            }
        final_runs false on =
            let tasks : fed.tasks ≡ r.count = (r.all all).0 in
            let whole : more ≡ first_tasks more (r.count + extra true) = sym (tasks_whole plan more (r.count + 1) known) in
            record {
              told = more;
              count = r.count + 1;
              is_given = g;
              known = known;
              base_is = base_stays;
              few = omega (arith, r.few);
              all = λ _. (ap (λ n. n + 1) tasks, is_over);
              k = r.count;
              stopped = true;
              stage_is = subst (λ t. is_stage t r.count true new) whole on;
              within = omega (arith, tasks);
              runs = λ e. absurd (not_both e);
            }
