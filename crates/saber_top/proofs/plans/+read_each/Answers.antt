use Rattle.std.proofs.Common.{◌≡◌, ◌∷◌, ◌+◌, ℕ, List, [], Bor, IfSome, length, map, sym, ap, subst, rules}
use Rattle.saber_io.specs.Outside.{FilesView}
use Rattle.saber_plan.specs.declared.plans.Plan.{Plan}
use Rattle.saber_plan.specs.Trees.{tree_of}
use Rattle.saber_notes.specs.declared.early.Early.TheVariants.{NoMemory}
use Rattle.saber_cli.specs.Due.{IsPlanned}
use Rattle.saber_cli.specs.Chaining.{LacksPlan}
use Rattle.saber_top.specs.Queries.{ArePlanned, LackPlans, as_early}
use Rattle.saber_top.specs.ManyLeaves.{AllRead, LackFits, UsesFirst}
use Rattle.saber_top.proofs.QueryLemmas.{err_map, first_lacks, first_used, for_all, kept, lacking, later_lacks, later_used, more_read, no_items, none_read, ok_map, reads_one, some_both, some_map}
use Rattle.saber_top.proofs.plans.+read_each.Goals as goal

-- ---- none

pub returns-in_default-clause-plans : goal.returns-in_default-clause-plans
returns-in_default-clause-plans g t c =
    let long : length c.args.names.now ≡ 0 = search rules in
    let none : map (λ (n : Bor (List ℕ)). n.now) c.args.names.now ≡ [] = ap (map (λ (n : Bor (List ℕ)). n.now)) (no_items c.args.names.now long) in
    subst (λ x. IfSome (g.F.Files.told c.args.files.now) (λ (t : FilesView). ArePlanned t.contents x (map tree_of c.new.result.items))) (sym none)
    (subst (λ (x : List Plan). IfSome (g.F.Files.told c.args.files.now) (λ (t : FilesView). ArePlanned t.contents [] (map tree_of x))) (sym c.new.ensures.items) (for_all (λ (t : FilesView). ArePlanned t.contents [] []) (g.F.Files.told c.args.files.now) (λ t. tt)))

pub returns-in_default-clause-read : goal.returns-in_default-clause-read
returns-in_default-clause-read g t c =
    let long : length c.args.names.now ≡ 0 = search rules in
    let none : map (λ (n : Bor (List ℕ)). n.now) c.args.names.now ≡ [] = ap (map (λ (n : Bor (List ℕ)). n.now)) (no_items c.args.names.now long) in
    subst (λ x. AllRead x (g.F.Files.told c.args.files.now) (g.F.Files.told c.args.files.now)) (sym none) (none_read (g.F.Files.told c.args.files.now))

-- ---- the first at fault is the first of them

pub returns-in-Err-clause-reason : goal.returns-in-Err-clause-reason
returns-in-Err-clause-reason g t c =
    let told = g.F.Files.told in
    let old = told c.args.files.now in
    let name = c.in-Some.name.now.now in
    let rest = map (λ (n : Bor (List ℕ)). n.now) c.in-Some.rest.now in
    let names : map (λ (n : Bor (List ℕ)). n.now) c.args.names.now ≡ name ∷ rest = ap (map (λ (n : Bor (List ℕ)). n.now)) c.in-Some.ensures.cases.0 in
    let others = c.args.others in
    let e = as_early (others + 1) c.in-Err.outcome in
    subst (λ e. IfSome old (λ (t : FilesView). LackPlans t.contents others (map (λ (n : Bor (List ℕ)). n.now) c.args.names.now) e)) (sym c.as_early.ensures)
    (subst (λ x. IfSome old (λ (t : FilesView). LackPlans t.contents others x e)) (sym names) (some_map (λ (t : FilesView). LacksPlan t.contents name c.in-Err.outcome) (λ t. LackPlans t.contents others (name ∷ rest) e) old (λ t h. first_lacks t.contents others name rest c.in-Err.outcome h) c.in-Err.ensures.lacks))

pub returns-in-Err-clause-leaves : goal.returns-in-Err-clause-leaves
returns-in-Err-clause-leaves g t c =
    let told = g.F.Files.told in
    let old = told c.args.files.now in
    let name = c.in-Some.name.now.now in
    let rest = map (λ (n : Bor (List ℕ)). n.now) c.in-Some.rest.now in
    let names : map (λ (n : Bor (List ℕ)). n.now) c.args.names.now ≡ name ∷ rest = ap (map (λ (n : Bor (List ℕ)). n.now)) c.in-Some.ensures.cases.0 in
    let others = c.args.others in
    let e = as_early (others + 1) c.in-Err.outcome in
    let new = told c.query_plan.new.files in
    subst (λ e. UsesFirst (map (λ (n : Bor (List ℕ)). n.now) c.args.names.now) (LackFits others e) old new) (sym c.as_early.ensures)
    (subst (λ x. UsesFirst x (LackFits others e) old new) (sym names) (first_used others name rest c.in-Err.outcome old new c.in-Err.ensures.kinds c.in-Err.ensures.uses))

-- ---- a later one is

pub returns-in-Err-read_each-clause-reason : goal.returns-in-Err-read_each-clause-reason
returns-in-Err-read_each-clause-reason g t c =
    let told = g.F.Files.told in
    let old = told c.args.files.now in
    let name = c.in-Some.name.now.now in
    let rest = map (λ (n : Bor (List ℕ)). n.now) c.in-Some.rest.now in
    let names : map (λ (n : Bor (List ℕ)). n.now) c.args.names.now ≡ name ∷ rest = ap (map (λ (n : Bor (List ℕ)). n.now)) c.in-Some.ensures.cases.0 in
    let others = c.args.others in
    let plan = tree_of c.in-Ok.plan in
    let e = c.in-Err-read_each.early in
    let one = reads_one name old (told c.query_plan.new.files) c.in-Ok.ensures.uses in
    subst (λ x. IfSome old (λ (t : FilesView). LackPlans t.contents others x e)) (sym names) (some_both (λ (t : FilesView). IsPlanned t.contents name plan) (λ t. LackPlans t.contents (others + 1) rest e) (λ t. LackPlans t.contents others (name ∷ rest) e) old
    (λ t p h. later_lacks t.contents others name rest plan e p h) c.in-Ok.ensures.plan (kept (λ files. LackPlans files (others + 1) rest e) (name ∷ []) (one.source ∷ []) old (told c.query_plan.new.files) one.told c.in-Err-read_each.ensures.reason))

pub returns-in-Err-read_each-clause-leaves : goal.returns-in-Err-read_each-clause-leaves
returns-in-Err-read_each-clause-leaves g t c =
    let told = g.F.Files.told in
    let old = told c.args.files.now in
    let name = c.in-Some.name.now.now in
    let rest = map (λ (n : Bor (List ℕ)). n.now) c.in-Some.rest.now in
    let names : map (λ (n : Bor (List ℕ)). n.now) c.args.names.now ≡ name ∷ rest = ap (map (λ (n : Bor (List ℕ)). n.now)) c.in-Some.ensures.cases.0 in
    let others = c.args.others in
    let e = c.in-Err-read_each.early in
    let mid = told c.query_plan.new.files in
    let new = told c.read_each.new.files in
    subst (λ x. UsesFirst x (LackFits others e) old new) (sym names) (later_used others name rest (tree_of c.in-Ok.plan) e old mid new (reads_one name old mid c.in-Ok.ensures.uses) c.in-Ok.ensures.plan c.in-Err-read_each.ensures.leaves)

-- ---- all were read

pub returns-in-Ok-read_each-clause-plans : goal.returns-in-Ok-read_each-clause-plans
returns-in-Ok-read_each-clause-plans g t c =
    let told = g.F.Files.told in
    let old = told c.args.files.now in
    let name = c.in-Some.name.now.now in
    let rest = map (λ (n : Bor (List ℕ)). n.now) c.in-Some.rest.now in
    let names : map (λ (n : Bor (List ℕ)). n.now) c.args.names.now ≡ name ∷ rest = ap (map (λ (n : Bor (List ℕ)). n.now)) c.in-Some.ensures.cases.0 in
    let others = c.args.others in
    let plan = tree_of c.in-Ok.plan in
    let more = map tree_of c.in-Ok-read_each.plans.items in
    let mid = told c.query_plan.new.files in
    let one = reads_one name old mid c.in-Ok.ensures.uses in
    let both = some_both (λ (t : FilesView). IsPlanned t.contents name plan) (λ t. ArePlanned t.contents rest more) (λ t. ArePlanned t.contents (name ∷ rest) (plan ∷ more)) old (λ t p h. (p, h)) c.in-Ok.ensures.plan
    (kept (λ files. ArePlanned files rest more) (name ∷ []) (one.source ∷ []) old mid one.told c.in-Ok-read_each.ensures.plans) in
    let all = subst (λ x. IfSome old (λ (t : FilesView). ArePlanned t.contents x (plan ∷ more))) (sym names) both in
    ok_map (λ x. x.items ≡ c.in-Ok.plan ∷ c.in-Ok-read_each.plans.items) (λ x. IfSome old (λ (t : FilesView). ArePlanned t.contents (map (λ (n : Bor (List ℕ)). n.now) c.args.names.now) (map tree_of x.items))) c.with_first.result
    (λ x e. subst (λ (i : List Plan). IfSome old (λ (t : FilesView). ArePlanned t.contents (map (λ (n : Bor (List ℕ)). n.now) c.args.names.now) (map tree_of i))) (sym e) all) c.with_first.ensures.plans

pub returns-in-Ok-read_each-clause-read : goal.returns-in-Ok-read_each-clause-read
returns-in-Ok-read_each-clause-read g t c =
    let told = g.F.Files.told in
    let old = told c.args.files.now in
    let name = c.in-Some.name.now.now in
    let rest = map (λ (n : Bor (List ℕ)). n.now) c.in-Some.rest.now in
    let names : map (λ (n : Bor (List ℕ)). n.now) c.args.names.now ≡ name ∷ rest = ap (map (λ (n : Bor (List ℕ)). n.now)) c.in-Some.ensures.cases.0 in
    let mid = told c.query_plan.new.files in
    let new = told c.read_each.new.files in
    let all = subst (λ x. AllRead x old new) (sym names) (more_read name rest old mid new (reads_one name old mid c.in-Ok.ensures.uses) c.in-Ok-read_each.ensures.read) in
    ok_map (λ x. x.items ≡ c.in-Ok.plan ∷ c.in-Ok-read_each.plans.items) (λ x. AllRead (map (λ (n : Bor (List ℕ)). n.now) c.args.names.now) old new) c.with_first.result (λ x e. all) c.with_first.ensures.plans

pub returns-in-Ok-read_each-clause-leaves : goal.returns-in-Ok-read_each-clause-leaves
returns-in-Ok-read_each-clause-leaves g t c =
    let told = g.F.Files.told in
    let old = told c.args.files.now in
    let name = c.in-Some.name.now.now in
    let rest = map (λ (n : Bor (List ℕ)). n.now) c.in-Some.rest.now in
    let names : map (λ (n : Bor (List ℕ)). n.now) c.args.names.now ≡ name ∷ rest = ap (map (λ (n : Bor (List ℕ)). n.now)) c.in-Some.ensures.cases.0 in
    let others = c.args.others in
    let plan = tree_of c.in-Ok.plan in
    let more = map tree_of c.in-Ok-read_each.plans.items in
    let new = told c.read_each.new.files in
    let mid = told c.query_plan.new.files in
    let one = reads_one name old mid c.in-Ok.ensures.uses in
    let planned = some_both (λ (t : FilesView). IsPlanned t.contents name plan) (λ t. ArePlanned t.contents rest more) (λ t. ArePlanned t.contents (name ∷ rest) (plan ∷ more)) old (λ t p h. (p, h)) c.in-Ok.ensures.plan
    (kept (λ files. ArePlanned files rest more) (name ∷ []) (one.source ∷ []) old mid one.told c.in-Ok-read_each.ensures.plans) in
    let read = more_read name rest old mid new one c.in-Ok-read_each.ensures.read in
    let lacks : UsesFirst (map (λ (n : Bor (List ℕ)). n.now) c.args.names.now) (LackFits others NoMemory) old new = subst (λ x. UsesFirst x (LackFits others NoMemory) old new) (sym names) (lacking others (name ∷ rest) (plan ∷ more) old new planned read) in
    err_map (λ e. e ≡ NoMemory) (λ e. UsesFirst (map (λ (n : Bor (List ℕ)). n.now) c.args.names.now) (LackFits others e) old new) c.with_first.result
    (λ e k. subst (λ x. UsesFirst (map (λ (n : Bor (List ℕ)). n.now) c.args.names.now) (LackFits others x) old new) (sym k) lacks) c.with_first.ensures.lacks
