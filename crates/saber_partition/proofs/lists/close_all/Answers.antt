use Rattle.std.proofs.Common.{List, max, sym, ◌∙◌, ap, refl, subst, ℤ}
use Rattle.std.proofs.lemmas.Map.Iter.{rest_more, rest_all}
use Rattle.arrayvec.specs.ArrayVec.{ArrayVec}
use Rattle.saber_plan.specs.Trees.{tree_of}
use Rattle.saber_plan.proofs.Appended.{behind_itself, behind_both}
use Rattle.saber_partition.specs.declared.keyed.Keyed.{Keyed}
use Rattle.saber_partition.specs.Stores.{own_of, lists_of}
use Rattle.saber_partition.proofs.Coming.{Left_to_print, left_all, left_less, left_none}
use Rattle.saber_partition.proofs.Stored.{seen_list, entries_seen}
use Rattle.saber_partition.proofs.lists.close_all.Goals as goal

pub loop-list-init : goal.loop-list-init
loop-list-init g c =
    let q = tree_of c.args.plan.now in
    let es = c.args.lists.entries in
    let all = c.into_iter-list-iterator.ensures.into_iter_gives.0 in
    record {
      can = tt;
      finite = tt;
      left = λ xs taken. left_all q c.requires xs (lists_of es) (seen_list c.into_iter-list-iterator.result) c.args.out.now.items (ap seen_list all ∙ sym (entries_seen es c.len-count.ensures.ordered)) taken;
      behind = behind_itself c.args.out.now.items;
    }

pub loop-list-preserved : goal.loop-list-preserved
loop-list-preserved g c =
    let q = tree_of c.args.plan.now in
    let rest = rest_more (λ x. x) c.loop-list.list-iterator c.next.new.self c.next.result (c.in-Some.list, c.in-Some.kept) c.in-Some.is c.next.ensures.steps in
    let before = c.args.out.now.items in
    let out = c.loop-list.out.items in
    record {
      can = tt;
      finite = tt;
      left = λ xs taken. left_less q c.requires xs c.in-Some.list.items (own_of c.in-Some.kept) (seen_list c.next.new.self) (max c.in-Some.kept.windows.next c.in-Some.kept.begun) before out c.close_list.new.out.items
          refl c.in_ok-close_list.ensures.printed
          (subst (λ (l : List (ArrayVec ℤ × Keyed)). Left_to_print q xs (seen_list l) before out) rest (c.loop-list.invariant.left xs taken));
      behind = behind_both c.args.out.now.items c.loop-list.out.items c.close_list.new.out.items c.loop-list.invariant.behind c.close_list.ensures.behind;
    }

pub returns-clause-printed : goal.returns-clause-printed
returns-clause-printed g c xs taken =
    let q = tree_of c.args.plan.now in
    let none = rest_all (λ x. x) c.loop-list.list-iterator c.next.new.self c.next.result c.in-None.is c.next.ensures.steps in
    left_none q xs c.args.out.now.items c.loop-list.out.items
    (subst (λ (l : List (ArrayVec ℤ × Keyed)). Left_to_print q xs (seen_list l) c.args.out.now.items c.loop-list.out.items) none (c.loop-list.invariant.left xs taken))

pub returns-in_err-close_list-clause-behind : goal.returns-in_err-close_list-clause-behind
returns-in_err-close_list-clause-behind g c = behind_both c.args.out.now.items c.loop-list.out.items c.close_list.new.out.items c.loop-list.invariant.behind c.close_list.ensures.behind

pub returns-clause-behind : goal.returns-clause-behind
returns-clause-behind g c = c.loop-list.invariant.behind
