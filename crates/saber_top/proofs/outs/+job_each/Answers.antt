use Rattle.std.proofs.Common.{◌≡◌, ◌∷◌, ◌∙◌, ℕ, List, [], Bor, length, map, sym, ap, subst, rules}
use Rattle.saber_notes.specs.declared.early.Early.TheVariants.{NoMemory}
use Rattle.saber_top.specs.Commands.{out_names}
use Rattle.saber_top.specs.Made.{EarlyMade, MadeFirst, naming_all}
use Rattle.saber_top.proofs.MadeLemmas.{all_made, first_not, later_not, lacks_behind, none_made, not_kinds}
use Rattle.saber_top.proofs.QueryLemmas.{err_map, no_items, on_ok}
use Rattle.saber_top.proofs.outs.+job_each.Goals as goal

-- ---- no query

pub returns-in_default-clause-made : goal.returns-in_default-clause-made
returns-in_default-clause-made g t c =
    let long : length c.args.plans.now ≡ 0 = search rules in
    let asked = g.U.Outs.asked c.args.outs.now in
    let none : map (λ (n : Bor (List ℕ)). n.now) c.args.names.now ≡ [] = no_items _ (sym c.requires.many ∙ long) in
    subst (λ x. asked ≡ naming_all asked (out_names x)) (sym none) (none_made asked)

-- ---- the first one's is not created

pub returns-in-Err-clause-early : goal.returns-in-Err-clause-early
returns-in-Err-clause-early g t c =
    let asked = g.U.Outs.asked in
    let old = asked c.args.outs.now in
    let name = c.in-Some-split_first.name.now.now in
    let rest = map (λ (n : Bor (List ℕ)). n.now) c.in-Some-split_first.rest.now in
    let names : map (λ (n : Bor (List ℕ)). n.now) c.args.names.now ≡ name ∷ rest = ap (map (λ (n : Bor (List ℕ)). n.now)) c.in-Some-split_first.ensures.cases.0 in
    let others = c.args.others in
    let new = asked c.create_out.new.outs in
    subst (λ x. MadeFirst x (EarlyMade others c.in-Err.early) old new) (sym names) (first_not others name rest c.in-Err.early old new c.in-Err.ensures.refused)

pub returns-in-Err-clause-kinds : goal.returns-in-Err-clause-kinds
returns-in-Err-clause-kinds g t c = not_kinds _ _ c.in-Err.early _ _ c.in-Err.ensures.refused

-- ---- a later one's

pub returns-in-Err-job_each-clause-early : goal.returns-in-Err-job_each-clause-early
returns-in-Err-job_each-clause-early g t c =
    let asked = g.U.Outs.asked in
    let old = asked c.args.outs.now in
    let name = c.in-Some-split_first.name.now.now in
    let rest = map (λ (n : Bor (List ℕ)). n.now) c.in-Some-split_first.rest.now in
    let names : map (λ (n : Bor (List ℕ)). n.now) c.args.names.now ≡ name ∷ rest = ap (map (λ (n : Bor (List ℕ)). n.now)) c.in-Some-split_first.ensures.cases.0 in
    let others = c.args.others in
    let mid = asked c.create_out.new.outs in
    let new = asked c.job_each.new.outs in
    let e = c.in-Err-job_each.early in
    subst (λ x. MadeFirst x (EarlyMade others e) old new) (sym names) (later_not others name rest e old mid new c.in-Err-job_each.ensures.kinds c.in-Ok.ensures.asked c.in-Err-job_each.ensures.early)

-- ---- all

pub returns-in-Ok-job_each-clause-made : goal.returns-in-Ok-job_each-clause-made
returns-in-Ok-job_each-clause-made g t c =
    let asked = g.U.Outs.asked in
    let old = asked c.args.outs.now in
    let name = c.in-Some-split_first.name.now.now in
    let rest = map (λ (n : Bor (List ℕ)). n.now) c.in-Some-split_first.rest.now in
    let names : map (λ (n : Bor (List ℕ)). n.now) c.args.names.now ≡ name ∷ rest = ap (map (λ (n : Bor (List ℕ)). n.now)) c.in-Some-split_first.ensures.cases.0 in
    let others = c.args.others in
    let mid = asked c.create_out.new.outs in
    let new = asked c.job_each.new.outs in
    let made = all_made name rest old mid new c.in-Ok.ensures.asked c.in-Ok-job_each.ensures.made in
    on_ok (new ≡ naming_all old (out_names (map (λ (n : Bor (List ℕ)). n.now) c.args.names.now))) c.with_first.result (subst (λ x. new ≡ naming_all old (out_names x)) (sym names) made)

-- and memory lacks for the job
pub returns-in-Ok-job_each-clause-early : goal.returns-in-Ok-job_each-clause-early
returns-in-Ok-job_each-clause-early g t c =
    let asked = g.U.Outs.asked in
    let old = asked c.args.outs.now in
    let name = c.in-Some-split_first.name.now.now in
    let rest = map (λ (n : Bor (List ℕ)). n.now) c.in-Some-split_first.rest.now in
    let names : map (λ (n : Bor (List ℕ)). n.now) c.args.names.now ≡ name ∷ rest = ap (map (λ (n : Bor (List ℕ)). n.now)) c.in-Some-split_first.ensures.cases.0 in
    let others = c.args.others in
    let mid = asked c.create_out.new.outs in
    let new = asked c.job_each.new.outs in
    let made = all_made name rest old mid new c.in-Ok.ensures.asked c.in-Ok-job_each.ensures.made in
    let lacks : MadeFirst (map (λ (n : Bor (List ℕ)). n.now) c.args.names.now) (EarlyMade others NoMemory) old new =
    subst (λ x. MadeFirst x (EarlyMade others NoMemory) old new) (sym names) (lacks_behind others (name ∷ rest) old new made) in
    err_map (λ e. e ≡ NoMemory) (λ e. MadeFirst (map (λ (n : Bor (List ℕ)). n.now) c.args.names.now) (EarlyMade others e) old new) c.with_first.result
    (λ e k. subst (λ x. MadeFirst (map (λ (n : Bor (List ℕ)). n.now) c.args.names.now) (EarlyMade others x) old new) (sym k) lacks) c.with_first.ensures.lacks
