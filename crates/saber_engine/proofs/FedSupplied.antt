-- A block of a feed that is given, and the end of its blocks.
use Rattle.std.proofs.Common.{◌≡◌, ◌≢◌, ◌≤◌, ℕ, ◌+◌, Bool, refl, sym, ◌∙◌, ap, subst, arith}
use Rattle.std.proofs.Math.Path.{transport}
use Rattle.std.specs.Prelude.{Option, Some, None}
use Rattle.saber_plan.specs.Outputs.{Rose}
use Rattle.saber_io.specs.Feeds.{Refills}
use Rattle.saber_plan.specs.declared.rows.Side.{Side}
use Rattle.saber_plan.specs.declared.sizes.Sizes.{Sizes}
use Rattle.saber_plan.specs.Trees.{Tree}
use Rattle.saber_fragment.specs.declared.blocks.Block.{Block}
use Rattle.saber_assembly.specs.declared.work.RunData.{RunData}
use Rattle.saber_assembly.specs.Works.{IsTold, IsBlockOf, input_of, with_block}
use Rattle.saber_dispatch.specs.declared.ends.End.{End}
use Rattle.saber_dispatch.specs.declared.ends.End.TheVariants.{ReadFault, NoMemory}
use Rattle.saber_dispatch.specs.declared.fed_cutter.FedCutter.{FedCutter}
use Rattle.saber_dispatch.specs.declared.fed_cutter.Step.{Step}
use Rattle.saber_dispatch.specs.declared.fed_cutter.Step.TheVariants as steps
use Rattle.saber_dispatch.specs.declared.keeper.Keeper.{Keeper}
use Rattle.saber_dispatch.specs.Cutting.{IsNextBlock}
use Rattle.saber_dispatch.specs.Feeding.{CutsFed, StepTo, StepsOn, TakenBackFed, fed_end_of}
use Rattle.saber_dispatch.proofs.FedTasks.{refills_keep}
use Rattle.saber_dispatch.proofs.Supplies.{blocks_are_supplied}
use Rattle.saber_crew.specs.Supplies.{GivesRows}
use Rattle.saber_engine.specs.FedSupplying.{FeedView, IsCounted, HasFed}
use Rattle.saber_engine.proofs.Counts.{few_blocks, next_count}
use Rattle.saber_engine.proofs.FirstRows.{none_known}
use Rattle.saber_engine.proofs.Passed.{Passes, next_passed, is_placed, same_with, kept_on, counted_on}

none_some : {A : Type 0} (x : A) → ◌≡◌ {A = Option A} None (Some x) → ⊥
none_some x e = cc

same_some : {A : Type 0} (x y : A) → ◌≡◌ {A = Option A} (Some x) (Some y) → x ≡ y
same_some x y e = cc

block_not_end : (b : Block) (e : End) → steps.Block b ≡ steps.Ended e → ⊥
block_not_end b e h = cc

dry_not_end : (e : End) → steps.Dry ≡ steps.Ended e → ⊥
dry_not_end e h = cc

same_end : (a b : End) → steps.Ended a ≡ steps.Ended b → a ≡ b
same_end a b h = cc

lack_not_fault : (side : Side) → ◌≡◌ {A = Option End} (Some NoMemory) (Some (ReadFault side)) → ⊥
lack_not_fault side e = cc

-- what a call of the cutter says
pub record Stepped (v w : FeedView) (old new : FedCutter) (step : Step) : Type 0 where
  pub on : StepsOn step v.taken v.waiting w.waiting v.mark old new
  pub taken_is : w.taken ≡ v.taken
  pub mark_is : w.mark ≡ v.mark
  pub again : (x : End) → fed_end_of old ≡ Some x → step ≡ steps.Ended x
  pub cause : fed_end_of old ≡ None → (side : Side) → step ≡ steps.Ended (ReadFault side) → Rose v.faults w.faults
  pub sound : (b : Block) → step ≡ steps.Block b → (side : Side) → fed_end_of new ≢ Some (ReadFault side)
  pub good : ((side : Side) → step ≢ steps.Ended (ReadFault side)) → w.faults ≡ v.faults
  pub count : v.faults ≤ w.faults
  pub none : (b : Block) → step ≡ steps.Block b → new.begun ≡ None

module _ {O : Type 0} (plan : O → Tree) (s : Sizes) (before : ℕ) (v w : FeedView) (old new : FedCutter) (k : Keeper) (end : Option End) (open_still : end ≡ None) (step : Step) (called : Stepped v w old new step) (told : RunData O) (d : ℕ) (h : HasFed plan s before v old k end told d) where
  same_before : v.faults ≡ before
  same_before = h.counted.good (λ side e. none_some (ReadFault side) (sym open_still ∙ e))

  abbrev q : Tree
  q = plan told.operator

  -- what the step comes to, of the feed as it is now
  steps_to : (x : Step) → step ≡ x → StepTo x q s w.taken w.waiting w.mark new (input_of told)
  steps_to x is = transport (λ i. StepTo (is i) q s (sym called.taken_is i) w.waiting (sym called.mark_is i) new (input_of told)) (called.on q s (input_of told) h.cuts)

  -- no end came, so the count is as it was
  still : ((side : Side) → step ≢ steps.Ended (ReadFault side)) → IsCounted end before w.faults
  still unlike =
      let same : w.faults ≡ before = called.good unlike ∙ same_before in
      record {
        rises = omega (arith, same);
        good = λ _. same;
        cause = λ side f. absurd (none_some (ReadFault side) (sym open_still ∙ f));
      }

  -- the next task's block came, and was passed on
  pub block_given : (b c : Block) (l : Keeper) → step ≡ steps.Block b → Passes k b c l → GivesRows (IsTold plan) with_block (IsBlockOf plan) (HasFed plan s before w new l end) told d c
  block_given b c l e p =
      let to = steps_to (steps.Block b) e in
      let next : IsNextBlock q s (input_of told) c = next_passed q s (input_of told) k b c l p (h.kept open_still) (h.placed open_still) to.0 in
      let number : c.number ≡ d = next.number ∙ sym h.count in
      let is = blocks_are_supplied plan told s c h.size next (is_placed q s (input_of told) k b c l p (h.kept open_still) (h.placed open_still) to.0) (none_known (with_block told c) (c.number + 1) h.all) in (
        subst (λ t. IsBlockOf plan (with_block told c) t c) number is.block,
        subst (λ t. IsTold plan (with_block told c) (t + 1)) number is.told_is,
        record {
          cuts = subst (CutsFed q s w.taken w.waiting w.mark new) (same_with q s (input_of told) k b c l p (h.kept open_still) (h.placed open_still) to.0) to.1;
          size = h.size;
          all = h.all;
          count = sym (next_count q s (input_of told) c next ∙ ap (λ t. t + 1) number);
          kept = λ _. kept_on q s (input_of told) k b c l p (h.kept open_still) (h.placed open_still) to.0;
          placed = λ _. counted_on q s (input_of told) k b c l p (h.kept open_still) (h.placed open_still) to.0;
          ended = λ x f. absurd (none_some x (sym open_still ∙ f));
          sound = λ _ side. called.sound b e side;
          counted = still (λ side f. block_not_end b (ReadFault side) (sym e ∙ f));
        },
        let few = few_blocks q s (input_of told) c next in omega (arith, few, number),
      )

  -- none is there as yet
  pub dry : step ≡ steps.Dry → HasFed plan s before w new k end told d
  dry e =
      let to = steps_to steps.Dry e in
      record {
        cuts = to.1;
        size = h.size;
        all = h.all;
        count = h.count;
        kept = h.kept;
        placed = h.placed;
        ended = λ x f. absurd (none_some x (sym open_still ∙ f));
        sound = λ _ side f. none_some (ReadFault side) (sym to.0.unended ∙ f);
        counted = still (λ side f. dry_not_end (ReadFault side) (sym e ∙ f));
      }

  -- memory lacked to pass it on, and it was taken back
  pub taken_back : (b : Block) (l : Keeper) (last : FedCutter) → step ≡ steps.Block b → TakenBackFed b.number b.ended new last → HasFed plan s before w last l (Some NoMemory) told d
  taken_back b l last e back =
      let to = steps_to (steps.Block b) e in
      let was = transport (λ i. CutsFed q s (sym called.taken_is i) v.waiting (sym called.mark_is i) old (input_of told)) h.cuts in
      let taken = back q s w.taken v.waiting w.waiting w.mark old (input_of told) b refl refl was to.0 to.1 (called.none b e) in
      record {
        cuts = taken.1;
        size = h.size;
        all = h.all;
        count = h.count;
        kept = λ f. absurd (none_some NoMemory (sym f));
        placed = λ f. absurd (none_some NoMemory (sym f));
        ended = λ x f. taken.0 ∙ f;
        sound = λ f. absurd (none_some NoMemory (sym f));
        counted = again_counted (still (λ side f. block_not_end b (ReadFault side) (sym e ∙ f)));
      }
    where
      again_counted : IsCounted end before w.faults → IsCounted (Some NoMemory) before w.faults
      again_counted c = record { rises = c.rises; good = λ _. c.good (λ side f. none_some (ReadFault side) (sym open_still ∙ f)); cause = λ side f. absurd (lack_not_fault side f) }

  -- none comes any more
  pub end_given : (e : End) → step ≡ steps.Ended e → HasFed plan s before w new k (Some e) told d
  end_given e is =
      let to = steps_to (steps.Ended e) is in
      let rose : (side : Side) → e ≡ ReadFault side → Rose v.faults w.faults = λ side f. by_case side f (fed_end_of old) refl in
      record {
        cuts = to.1;
        size = h.size;
        all = h.all;
        count = h.count;
        kept = λ f. absurd (none_some e (sym f));
        placed = λ f. absurd (none_some e (sym f));
        ended = λ x f. to.0 ∙ f;
        sound = λ f. absurd (none_some e (sym f));
        counted = record {
          rises = subst (λ b. b ≤ w.faults) same_before called.count;
          good = λ g. called.good (λ side f. g side (ap (λ x. Some x) (same_end e (ReadFault side) (sym is ∙ f)))) ∙ same_before;
          cause = λ side f. subst (λ b. Rose b w.faults) same_before (rose side (same_some e (ReadFault side) f));
        };
      }
    where
      by_case : (side : Side) → e ≡ ReadFault side → (o : Option End) → fed_end_of old ≡ o → Rose v.faults w.faults
      by_case side f None k = called.cause k side (is ∙ ap (λ x. steps.Ended x) f)
      by_case side f (Some x) k = absurd (h.sound open_still side (k ∙ ap (λ y. Some y) (sym (same_end e x (sym is ∙ called.again x k)) ∙ f)))

-- a feed that was refilled has given what it gave before
pub refilled : {O : Type 0} (plan : O → Tree) (s : Sizes) (before : ℕ) (v w : FeedView) (c : FedCutter) (k : Keeper) (end : Option End) (more : Bool) → Refills v.taken w.taken v.waiting w.waiting v.mark w.mark more → w.faults ≡ v.faults
    → (told : RunData O) (d : ℕ) → HasFed plan s before v c k end told d → HasFed plan s before w c k end told d
refilled plan s before v w c k end more fills same told d h = record {
  cuts = refills_keep (plan told.operator) s v.taken w.taken v.waiting w.waiting v.mark w.mark c (input_of told) more h.cuts fills;
  size = h.size;
  all = h.all;
  count = h.count;
  kept = h.kept;
  placed = h.placed;
  ended = h.ended;
  sound = h.sound;
  counted = subst (IsCounted end before) (sym same) h.counted;
}
