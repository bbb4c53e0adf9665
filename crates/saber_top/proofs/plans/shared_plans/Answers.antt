use Rattle.std.proofs.Common.{◌≡◌, ◌∙◌, ℕ, List, Bor, map, ap, subst}
use Rattle.saber_io.specs.Outside.{FilesView}
use Rattle.saber_plan.specs.Trees.{Tree, tree_of}
use Rattle.saber_top.specs.Queries.{ArePlanned, IsFirstUnlike, LackPlans, LackShared, first_columns}
use Rattle.saber_top.proofs.QueryLemmas.{lack_shared, shared_used, some_map, unlike_used}
use Rattle.saber_top.proofs.plans.shared_plans.Goals as goal

-- ---- one has no plan

pub returns-in-Err-clause-reason : goal.returns-in-Err-clause-reason
returns-in-Err-clause-reason g c =
    let told = g.F.Files.told in
    let old = told c.args.files.now in
    let new = told c.read_each.new.files in
    let names = map (λ (n : Bor (List ℕ)). n.now) c.args.names.now in
    some_map (λ (t : FilesView). LackPlans t.contents 0 names c.in-Err.early) (λ t. LackShared t.contents names c.in-Err.early) old (λ t h. lack_shared t.contents names c.in-Err.early h) c.in-Err.ensures.reason

pub returns-in-Err-clause-leaves : goal.returns-in-Err-clause-leaves
returns-in-Err-clause-leaves g c =
    let told = g.F.Files.told in
    let old = told c.args.files.now in
    let new = told c.read_each.new.files in
    let names = map (λ (n : Bor (List ℕ)). n.now) c.args.names.now in
    shared_used names c.in-Err.early old new c.in-Err.ensures.leaves

-- ---- one can't share the input

pub returns-in-Some-clause-reason : goal.returns-in-Some-clause-reason
returns-in-Some-clause-reason g c =
    let told = g.F.Files.told in
    let old = told c.args.files.now in
    let new = told c.read_each.new.files in
    let names = map (λ (n : Bor (List ℕ)). n.now) c.args.names.now in
    let read = map tree_of c.in-Ok.plans.items in
    let same : map tree_of c.deref.result.now ≡ read = ap (map tree_of) (c.deref.ensures.value ∙ c.from.ensures.0) in
    let unlike = subst (λ x. IsFirstUnlike (first_columns x) 0 x c.in-Some.query) same c.in-Some.ensures.unlike in
    some_map (λ (t : FilesView). ArePlanned t.contents names read) (λ t. (plans : List Tree) × ArePlanned t.contents names plans × IsFirstUnlike (first_columns plans) 0 plans c.in-Some.query) old (λ t h. (read, h, unlike)) c.in-Ok.ensures.plans

pub returns-in-Some-clause-leaves : goal.returns-in-Some-clause-leaves
returns-in-Some-clause-leaves g c =
    let told = g.F.Files.told in
    let old = told c.args.files.now in
    let new = told c.read_each.new.files in
    let names = map (λ (n : Bor (List ℕ)). n.now) c.args.names.now in
    unlike_used names (map tree_of c.in-Ok.plans.items) c.in-Some.query old new c.in-Ok.ensures.plans c.in-Ok.ensures.read
