-- A block that is given, and the end of the blocks.
use Rattle.std.proofs.Common.{◌≡◌, ◌≢◌, ℕ, ◌+◌, List, refl, sym, ◌∙◌, ap, subst, arith}
use Rattle.std.specs.Prelude.{Option, Some, None, IfSome}
use Rattle.saber_plan.specs.declared.rows.Side.{Side}
use Rattle.saber_plan.specs.declared.sizes.Sizes.{Sizes}
use Rattle.saber_plan.specs.Trees.{Tree}
use Rattle.saber_plan.specs.Tasks.{task_count}
use Rattle.saber_fragment.specs.declared.blocks.Block.{Block}
use Rattle.saber_assembly.specs.declared.work.RunData.{RunData}
use Rattle.saber_assembly.specs.Works.{IsTold, IsBlockOf, input_of, with_block}
use Rattle.saber_dispatch.specs.declared.ends.End.{End}
use Rattle.saber_dispatch.specs.declared.ends.End.TheVariants.{ReadFault, NoMemory}
use Rattle.saber_dispatch.specs.declared.cutter.Cutter.{Cutter}
use Rattle.saber_dispatch.specs.declared.cutter.Cut.{Cut}
use Rattle.saber_dispatch.specs.declared.cutter.Cut.TheVariants as cuts
use Rattle.saber_dispatch.specs.declared.keeper.Keeper.{Keeper}
use Rattle.saber_dispatch.specs.Sources.{Lefts, RoseAt, NoneFell}
use Rattle.saber_dispatch.specs.Cutting.{Cuts, CutTo, CutsOn, IsNextBlock, TakenBack, end_of}
use Rattle.saber_dispatch.proofs.Supplies.{blocks_are_supplied}
use Rattle.saber_crew.specs.Supplies.{GivesRows}
use Rattle.saber_engine.specs.Supplying.{HasGiven}
use Rattle.saber_engine.proofs.Counts.{none_same, few_blocks, next_count}
use Rattle.saber_engine.proofs.FirstRows.{given_first}
use Rattle.saber_engine.proofs.Passed.{Passes, next_passed, is_placed, same_with, kept_on, counted_on}

pub if_some : {A : Type 0} (P : A → Type 0) (o : Option A) (x : A) → o ≡ Some x → IfSome o P → P x
if_some P o x e h = subst (λ z. IfSome z P) e h

none_some : {A : Type 0} (x : A) → ◌≡◌ {A = Option A} None (Some x) → ⊥
none_some x e = cc

same_some : {A : Type 0} (x y : A) → ◌≡◌ {A = Option A} (Some x) (Some y) → x ≡ y
same_some x y e = cc

block_not_end : (b : Block) (e : End) → cuts.Block b ≡ cuts.Ended e → ⊥
block_not_end b e h = cc

same_end : (a b : End) → cuts.Ended a ≡ cuts.Ended b → a ≡ b
same_end a b h = cc

-- what a call of the cutter says
pub record Called (left has : Lefts) (mid now : List ℕ) (old new : Cutter) (cut : Cut) : Type 0 where
  pub on : CutsOn cut left has old new
  pub again : (x : End) → end_of old ≡ Some x → cut ≡ cuts.Ended x
  pub cause : end_of old ≡ None → (side : Side) → cut ≡ cuts.Ended (ReadFault side) → RoseAt side mid now
  pub sound : (b : Block) → cut ≡ cuts.Block b → (side : Side) → end_of new ≢ Some (ReadFault side)
  pub good : ((side : Side) → cut ≢ cuts.Ended (ReadFault side)) → now ≡ mid
  pub count : NoneFell mid now

lack_not_fault : (side : Side) → ◌≡◌ {A = Option End} (Some NoMemory) (Some (ReadFault side)) → ⊥
lack_not_fault side e = cc

module _ {O : Type 0} (plan : O → Tree) (s : Sizes) (had left has : Lefts) (before mid now : List ℕ) (old new : Cutter) (k : Keeper) (end : Option End) (open_still : end ≡ None) (cut : Cut) (called : Called left has mid now old new cut) (told : RunData O) (d : ℕ) (h : HasGiven plan s had left before mid old k end told d) where
  same_before : mid ≡ before
  same_before = h.counted.good (λ side e. none_some (ReadFault side) (sym open_still ∙ e))

  -- the next task's block came, and was passed on
  pub block_given : (b c : Block) (l : Keeper) → cut ≡ cuts.Block b → Passes k b c l → GivesRows (IsTold plan) with_block (IsBlockOf plan) (HasGiven plan s had has before now new l end) told d c
  block_given b c l e p =
      let q : Tree = plan told.operator in
      let to : CutTo (cuts.Block b) q s had has new (input_of told) = subst (λ z. CutTo z q s had has new (input_of told)) e (called.on q s had (input_of told) h.cuts) in
      let next : IsNextBlock q s (input_of told) c = next_passed q s (input_of told) k b c l p (h.kept open_still) (h.placed open_still) to.0 in
      let number : c.number ≡ d = next.number ∙ sym h.cuts.count ∙ sym h.count in
      let placed = is_placed q s (input_of told) k b c l p (h.kept open_still) (h.placed open_still) to.0 in
      let same_input = same_with q s (input_of told) k b c l p (h.kept open_still) (h.placed open_still) to.0 in
      let taken : Cuts q s had has new (input_of (with_block told c)) = subst (Cuts q s had has new) same_input to.1 in
      let count : d + 1 ≡ new.number = sym (to.1.count ∙ ap (task_count s.task) same_input ∙ next_count q s (input_of told) c next ∙ ap (λ t. t + 1) number) in
      let is = blocks_are_supplied plan told s c h.size next placed (given_first plan s had has new (with_block told c) (c.number + 1) taken h.size (ap (λ t. t + 1) number ∙ count) h.all) in
      let same : now ≡ before = called.good (λ side f. block_not_end b (ReadFault side) (sym e ∙ f)) ∙ same_before in (
        subst (λ t. IsBlockOf plan (with_block told c) t c) number is.block,
        subst (λ t. IsTold plan (with_block told c) (t + 1)) number is.told_is,
        record {
          cuts = taken;
          size = h.size;
          all = h.all;
          count = count;
          kept = λ _. kept_on q s (input_of told) k b c l p (h.kept open_still) (h.placed open_still) to.0;
          placed = λ _. counted_on q s (input_of told) k b c l p (h.kept open_still) (h.placed open_still) to.0;
          ended = λ x f. absurd (none_some x (sym open_still ∙ f));
          sound = λ _ side. called.sound b e side;
          counted = record {
            fell = subst (NoneFell before) (sym same) (none_same before);
            good = λ _. same;
            cause = λ side f. absurd (none_some (ReadFault side) (sym open_still ∙ f));
          };
        },
        let few = few_blocks q s (input_of told) c next in omega (arith, few, number),
      )

  -- memory lacked to pass it on, and it was taken back
  pub taken_back : (b : Block) (l : Keeper) (last : Cutter) → cut ≡ cuts.Block b → TakenBack b.number b.ended new last → HasGiven plan s had has before now last l (Some NoMemory) told d
  taken_back b l last e back =
      let q : Tree = plan told.operator in
      let to : CutTo (cuts.Block b) q s had has new (input_of told) = subst (λ z. CutTo z q s had has new (input_of told)) e (called.on q s had (input_of told) h.cuts) in
      let taken = back q s had left has old (input_of told) b refl refl h.cuts to.0 to.1 in
      let same : now ≡ before = called.good (λ side f. block_not_end b (ReadFault side) (sym e ∙ f)) ∙ same_before in
      record {
        cuts = taken.1;
        size = h.size;
        all = h.all;
        count = h.count ∙ h.cuts.count ∙ sym taken.1.count;
        kept = λ f. absurd (none_some NoMemory (sym f));
        placed = λ f. absurd (none_some NoMemory (sym f));
        ended = λ x f. taken.0 ∙ f;
        sound = λ f. absurd (none_some NoMemory (sym f));
        counted = record {
          fell = subst (NoneFell before) (sym same) (none_same before);
          good = λ _. same;
          cause = λ side f. absurd (lack_not_fault side f);
        };
      }

  -- none came
  pub end_given : (e : End) → cut ≡ cuts.Ended e → HasGiven plan s had has before now new k (Some e) told d
  end_given e is =
      let q : Tree = plan told.operator in
      let to : CutTo (cuts.Ended e) q s had has new (input_of told) = subst (λ z. CutTo z q s had has new (input_of told)) is (called.on q s had (input_of told) h.cuts) in
      let rose : (side : Side) → e ≡ ReadFault side → RoseAt side mid now = λ side f. by_case side f (end_of old) refl in
      record {
        cuts = to.1;
        size = h.size;
        all = h.all;
        count = h.count ∙ h.cuts.count ∙ sym to.1.count;
        kept = λ f. absurd (none_some e (sym f));
        placed = λ f. absurd (none_some e (sym f));
        ended = λ x f. to.0 ∙ f;
        sound = λ f. absurd (none_some e (sym f));
        counted = record {
          fell = subst (λ b. NoneFell b now) same_before called.count;
          good = λ g. called.good (λ side f. g side (ap (λ x. Some x) (same_end e (ReadFault side) (sym is ∙ f)))) ∙ same_before;
          cause = λ side f. subst (λ b. RoseAt side b now) same_before (rose side (same_some e (ReadFault side) f));
        };
      }
    where
      by_case : (side : Side) → e ≡ ReadFault side → (o : Option End) → end_of old ≡ o → RoseAt side mid now
      by_case side f None k = called.cause k side (is ∙ ap (λ x. cuts.Ended x) f)
      by_case side f (Some x) k = absurd (h.sound open_still side (k ∙ ap (λ y. Some y) (sym (same_end e x (sym is ∙ called.again x k)) ∙ f)))
