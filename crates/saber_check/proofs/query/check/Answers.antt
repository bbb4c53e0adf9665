use Rattle.std.proofs.Common.{◌≡◌, ℕ, ◌<◌, ◌≤◌, ◌^◌, List, length, Some, None, slice_index, Contains, sym, ◌∙◌, ap, subst, arith}
use Rattle.saber_query.specs.Trees.{Query, query_of}
use Rattle.saber_query.specs.Parsed.{Parsed, IsParsed}
use Rattle.saber_check.specs.declared.fault.Fault.{Fault}
use Rattle.saber_check.specs.Least.{least}
use Rattle.saber_check.specs.First.{IsFirst}
use Rattle.saber_check.specs.Walked.{faults, width}
use Rattle.saber_check.specs.Outcome.{FailsAt, IsFaultless}
use Rattle.saber_check.proofs.FirstLaws.{first, none}
use Rattle.saber_check.proofs.WalkedLaws.{same_faults}
use Rattle.saber_check.proofs.WidthLaws.{words_count}
use Rattle.saber_check.proofs.IndexLaws.{fault_inside}
use Rattle.saber_plan.specs.Trees.{Tree}
use Rattle.saber_plan.specs.Checked.{IsChecked}
use Rattle.saber_check.specs.Plans.{plan_tree}
use Rattle.saber_check.proofs.NoFaults.{least_gives}
use Rattle.saber_check.proofs.CheckedLaws.{plan_checked}
use Rattle.saber_check.proofs.query.check.Goals as goal

small : (p : Parsed) (q : Query) → q ≡ query_of p.select → IsParsed p.select p.starts → width q ≤ 2 ^ 30
small p q e h = let P : Query → Type 0 = λ r. width r ≤ 2 ^ 30 in subst P (sym e) (omega (arith, words_count (query_of p.select), h.each_word, h.short))

-- the word of the first fault has a start
inside : (p : Parsed) (q : Query) (starts : List ℕ) (f : Fault) → q ≡ query_of p.select → starts ≡ p.starts → IsParsed p.select p.starts → Some f ≡ least (faults q) → (f.index < length starts) × (length starts ≤ 65536)
inside p q starts f e s h l =
    let l' : least (faults (query_of p.select)) ≡ Some f = ap (λ r. least (faults r)) (sym e) ∙ sym l in
    let i : f.index < width (query_of p.select) = fault_inside (query_of p.select) f (first (faults (query_of p.select)) f l').there in
    (omega (arith, i, words_count (query_of p.select), h.each_word, ap length s), omega (arith, h.short, ap length s))

fails : (p : Parsed) (q : Query) (starts : List ℕ) (f : Fault) → q ≡ query_of p.select → starts ≡ p.starts → IsParsed p.select p.starts → Some f ≡ least (faults q) → FailsAt p (slice_index starts f.index) f.cause
fails p q starts f e s h l =
    let l' : least (faults (query_of p.select)) ≡ Some f = ap (λ r. least (faults r)) (sym e) ∙ sym l in
    record { index = f.index; first = subst (IsFirst f) (sym (same_faults (query_of p.select))) (first (faults (query_of p.select)) f l'); inside = omega (arith, (inside p q starts f e s h l).0, ap length s); place = ap (λ xs. slice_index xs f.index) s }

faultless : (p : Parsed) (q : Query) → q ≡ query_of p.select → None ≡ least (faults q) → IsFaultless (query_of p.select)
faultless p q e l i c m = none (faults (query_of p.select)) (ap (λ r. least (faults r)) (sym e) ∙ sym l) _ (subst (λ fs. Contains fs (record { index = i; cause = c })) (same_faults (query_of p.select)) m)

pub first_fault-requires : goal.first_fault-requires
first_fault-requires c = let h = small c.args.query.now _ (ap query_of c.select-tree.ensures.value) c.select-tree.ensures.parsed in omega (arith, h)

pub plan-requires : goal.plan-requires
plan-requires c = record {
  small = small c.args.query.now _ (ap query_of c.select-tree.ensures.value) c.select-tree.ensures.parsed;
  checked = plan_checked _ (least_gives _ (sym c.in-None.ensures));
}

pub offset_bounds-starts-fault : goal.offset_bounds-starts-fault
offset_bounds-starts-fault c = let h = inside c.args.query.now _ _ c.in-Some.fault (ap query_of c.select-tree.ensures.value) c.starts.ensures c.select-tree.ensures.parsed c.in-Some.ensures in omega (arith, h)

pub bounds-starts-fault : goal.bounds-starts-fault
bounds-starts-fault c = (inside c.args.query.now _ _ c.in-Some.fault (ap query_of c.select-tree.ensures.value) c.starts.ensures c.select-tree.ensures.parsed c.in-Some.ensures).0

pub returns-in-Some-clause-fault : goal.returns-in-Some-clause-fault
returns-in-Some-clause-fault c = fails c.args.query.now _ _ c.in-Some.fault (ap query_of c.select-tree.ensures.value) c.starts.ensures c.select-tree.ensures.parsed c.in-Some.ensures

pub returns-in_ok-plan-in-None-clause-faultless : goal.returns-in_ok-plan-in-None-clause-faultless
returns-in_ok-plan-in-None-clause-faultless c = faultless c.args.query.now _ (ap query_of c.select-tree.ensures.value) c.in-None.ensures

pub returns-in_ok-plan-in-None-clause-plan : goal.returns-in_ok-plan-in-None-clause-plan
returns-in_ok-plan-in-None-clause-plan c = c.in_ok-plan-in-None.ensures ∙ ap (λ s. plan_tree (query_of s)) c.select-tree.ensures.value

sound : (t : Tree) (q : Query) → t ≡ plan_tree q → None ≡ least (faults q) → IsChecked t
sound t q e l = let P : Tree → Type 0 = λ u. IsChecked u in subst P (sym e) (plan_checked q (least_gives (faults q) (sym l)))

pub returns-in_ok-plan-in-None-clause-checked : goal.returns-in_ok-plan-in-None-clause-checked
returns-in_ok-plan-in-None-clause-checked c = sound _ _ c.in_ok-plan-in-None.ensures c.in-None.ensures
