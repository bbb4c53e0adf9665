use Rattle.std.proofs.Common.{◌≡◌, ◌<◌, ◌+◌, List, ℤ, [], ◌∷◌, length, get_or, drop, sym, ap, ◌∙◌, subst, refl, arith}
use Rattle.std.specs.FinMap.{get}
use Rattle.std.proofs.lemmas.List.{drop_more, length-set}
use Rattle.std.proofs.Math.ListN.{set}
use Rattle.saber_plan.specs.Answers.{key_cmp}
use Rattle.saber_plan.specs.Merges.{joined_value}
use Rattle.saber_plan.specs.Parts.{Part, Numbers, numbers, join_numbers, merge}
use Rattle.saber_plan.specs.Facts.Maps.{rest_rises}
use Rattle.saber_partial.specs.Flat.{entry_in}
use Rattle.saber_partial.specs.Tallies.{CanJoin}
use Rattle.saber_partial.specs.Sorted.{part_of, IsAt, JoinsFit, Rises}
use Rattle.saber_partial.proofs.Merging.{step_rest, step_fits, join_here}
use Rattle.saber_partial.proofs.Rising.{read_alike, read_at, wrote_rises, wrote_part}
use Rattle.saber_partial.proofs.merges.take_found.Goals as goal

pub join-requires-clause-can : goal.join-requires-clause-can
join-requires-clause-can c = λ d.
    let gs = c.loop-j.groups.entries in
    let fs = c.args.others.now.entries in
    let j = c.loop-j.j in
    let kept = c.loop-j.invariant in
    let f = get_or fs j d in
    let m = part_of gs in
    let low : j < length fs = omega (arith, c.loop-j-test.true, c.len-j-end.ensures) in
    let is : entry_in c.loop-j.groups.layout c.row.result.now ≡ f = read_alike _ _ c.row.result.now _ (kept.layout ∙ c.requires.alike) (c.row.ensures.entry d) in
    let here = subst (λ k. IsAt gs k c.reach-at.result) (c.key-in-loop-j.ensures d) (c.is_at.ensures c.if-not-is_at.false) in
    subst (λ (e : List ℤ × Numbers). CanJoin (get_or gs c.reach-at.result d).1 e.1) (sym is)
    (join_here m f.0 _ f.1 (drop (j + 1) fs) (subst (λ l. JoinsFit m (part_of l)) (drop_more fs j d low) kept.can) (read_at gs f.0 c.reach-at.result d kept.mine here))

pub loop-j-preserved : goal.loop-j-preserved
loop-j-preserved c =
    let gs = c.loop-j.groups.entries in
    let fs = c.args.others.now.entries in
    let j = c.loop-j.j in
    let at = c.reach-at.result in
    let kept = c.loop-j.invariant in
    let d : List ℤ × Numbers = ([], numbers [] []) in
    let f = get_or fs j d in
    let rest = drop (j + 1) fs in
    let m = part_of gs in
    let low : j < length fs = omega (arith, c.loop-j-test.true, c.len-j-end.ensures) in
    let left : drop j fs ≡ f ∷ rest = drop_more fs j d low in
    let is : entry_in c.loop-j.groups.layout c.row.result.now ≡ f = read_alike _ _ c.row.result.now _ (kept.layout ∙ c.requires.alike) (c.row.ensures.entry d) in
    let here = subst (λ k. IsAt gs k at) (c.key-in-loop-j.ensures d) (c.is_at.ensures c.if-not-is_at.false) in
    let there = here.within in
    let written = c.join.ensures.joined d ∙ ap (λ (e : List ℤ × Numbers). set gs at ((get_or gs at d).0, join_numbers (get_or gs at d).1 e.1)) is in
    let long = ap length written ∙ length-set gs at _ in
    let new = wrote_part gs c.join.new.self.entries f.0 at d f.1 kept.mine here written in
    let n = joined_value join_numbers (get m f.0) f.1 in
    let rises = subst Rises left kept.theirs in
    let can = subst (λ l. JoinsFit m (part_of l)) left kept.can in
    record {
      within = omega (arith, there, long);
      layout = c.join.ensures.layout ∙ kept.layout;
      mine = wrote_rises gs c.join.new.self.entries f.0 at d f.1 kept.mine here written;
      theirs = rest_rises key_cmp f rest rises;
      can = subst (λ (x : Part). JoinsFit x (part_of rest)) (sym new) (step_fits m f.0 f.1 n rest rises can);
      all = ap (λ (x : Part). merge x (part_of rest)) new ∙ step_rest m f.0 f.1 n rest refl rises
          ∙ ap (λ l. merge m (part_of l)) (sym left) ∙ kept.all;
    }
