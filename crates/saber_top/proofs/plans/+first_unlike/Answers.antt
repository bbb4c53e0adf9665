use Rattle.std.proofs.Common.{◌≡◌, ◌∷◌, ◌+◌, ℕ, length, map, sym, ap, subst, rules}
use Rattle.std.specs.Prelude.{IfSome}
use Rattle.std.specs.List.{AllByRecursion}
use Rattle.saber_plan.specs.Trees.{tree_of}
use Rattle.saber_top.specs.Queries.{HasStream, IsFirstUnlike}
use Rattle.saber_top.proofs.QueryLemmas.{no_items, some_map, unlike_here, unlike_later}
use Rattle.saber_top.proofs.plans.+first_unlike.Goals as goal

pub returns-in_default-clause-share : goal.returns-in_default-clause-share
returns-in_default-clause-share t c k =
    let long : length c.args.plans.now ≡ 0 = search rules in
    subst (AllByRecursion (HasStream c.args.columns)) (sym (ap (map tree_of) (no_items c.args.plans.now long))) tt

pub returns-then-not-fits-clause-unlike : goal.returns-then-not-fits-clause-unlike
returns-then-not-fits-clause-unlike t c =
    let plan = tree_of c.in-Some.plan.now in
    let rest = map tree_of c.in-Some.rest.now in
    let all : map tree_of c.args.plans.now ≡ plan ∷ rest = ap (map tree_of) c.in-Some.ensures.cases.0 in
    subst (λ x. IsFirstUnlike c.args.columns c.args.others x (c.args.others + 1)) (sym all) (unlike_here c.args.columns c.args.others plan rest (c.has_stream-fits.ensures.isnt c.if-not-fits.true))

pub returns-clause-share : goal.returns-clause-share
returns-clause-share t c k =
    let all : map tree_of c.args.plans.now ≡ tree_of c.in-Some.plan.now ∷ map tree_of c.in-Some.rest.now = ap (map tree_of) c.in-Some.ensures.cases.0 in
    subst (AllByRecursion (HasStream c.args.columns)) (sym all) (c.has_stream-fits.ensures.is c.if-not-fits.false, c.first_unlike.ensures.share k)

pub returns-clause-unlike : goal.returns-clause-unlike
returns-clause-unlike t c =
    let columns = c.args.columns in
    let others = c.args.others in
    let plan = tree_of c.in-Some.plan.now in
    let rest = map tree_of c.in-Some.rest.now in
    let all : map tree_of c.args.plans.now ≡ plan ∷ rest = ap (map tree_of) c.in-Some.ensures.cases.0 in
    subst (λ x. IfSome c.first_unlike.result (IsFirstUnlike columns others x)) (sym all)
    (some_map (IsFirstUnlike columns (others + 1) rest) (IsFirstUnlike columns others (plan ∷ rest)) c.first_unlike.result (λ (n : ℕ) u. unlike_later columns others n plan rest (c.has_stream-fits.ensures.is c.if-not-fits.false) u) c.first_unlike.ensures.unlike)
