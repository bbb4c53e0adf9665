use Rattle.std.proofs.Common.{◌≡◌, ◌∙◌, sym, ap, Some, None, option_map, unwrap_or, nat_cmp, [], ◌∷◌}
use Rattle.std.specs.Option.{option_copied_mut}
use Rattle.std.specs.Cmp.{nat_cmp_total}
use Rattle.std.specs.FinMap.{get, insert, nat_cmp-IsAntisymmetric}
use Rattle.saber_plan.specs.Trees.{tree_of}
use Rattle.saber_plan.specs.Facts.Trees.{written, inserted, looked_up}
use Rattle.saber_plan.specs.Parts.{Part, no_part, numbers_of_one}
use Rattle.saber_plan.specs.Answers.{items_over}
use Rattle.saber_join.specs.Adding.{with_rights}
use Rattle.saber_join.specs.Open.{seen_parts}
use Rattle.saber_join.proofs.Adding.{pair_in}
use Rattle.saber_join.proofs.held_rows.put_at.Goals as goal

pub returns-in_ok-put-in-Some : goal.returns-in_ok-put-in-Some
returns-in_ok-put-in-Some c =
    let q = tree_of c.args.join.now in
    let x = c.args.left.now in
    let y = c.args.right.now in
    let es = c.args.windows.now.entries in
    let k = c.args.window in
    let vs = c.in_ok-values.values.items in
    let shown : vs ≡ items_over q.items x.row.values y.row.values = c.in_ok-values.ensures ∙ (λ i. items_over q.items (c.row.ensures i).values (c.row-2.ensures i).values) in
    let n = c.put.new.self in
    let p = c.in-Some.pairs.now in
    let found = sym c.get_mut.ensures.value ∙ ap option_copied_mut c.in-Some.is in
    let here : get (seen_parts es) k ≡ Some p = sym (looked_up nat_cmp (λ k. k) (λ x. x) nat_cmp_total nat_cmp-IsAntisymmetric k es) ∙ ap (option_map (λ (h : Part). h)) found in
    ap seen_parts (c.get_mut.follows.holds n).0 ∙ written nat_cmp (λ k. k) (λ x. x) nat_cmp_total nat_cmp-IsAntisymmetric k n p es found
    ∙ ap (insert (seen_parts es) k) (c.in_ok-put-in-Some.ensures
    ∙ pair_in q p x y c.places.result (numbers_of_one vs) c.requires.passes c.places.ensures (ap numbers_of_one shown)
    ∙ (λ i. with_rights q (unwrap_or (sym here i) no_part) x (y ∷ [])))

pub returns-in_ok-insert-in-None : goal.returns-in_ok-insert-in-None
returns-in_ok-insert-in-None c =
    let q = tree_of c.args.join.now in
    let x = c.args.left.now in
    let y = c.args.right.now in
    let es = c.args.windows.now.entries in
    let k = c.args.window in
    let vs = c.in_ok-values.values.items in
    let shown : vs ≡ items_over q.items x.row.values y.row.values = c.in_ok-values.ensures ∙ (λ i. items_over q.items (c.row.ensures i).values (c.row-2.ensures i).values) in
    let n = c.put-in-None.new.self in
    let found = sym c.get_mut.ensures.value ∙ ap option_copied_mut c.in-None.is in
    let here : get (seen_parts es) k ≡ None = sym (looked_up nat_cmp (λ k. k) (λ x. x) nat_cmp_total nat_cmp-IsAntisymmetric k es) ∙ ap (option_map (λ (h : Part). h)) found in
    ap seen_parts c.in_ok-insert-in-None.ensures.entries ∙ inserted nat_cmp (λ k. k) (λ x. x) nat_cmp_total nat_cmp-IsAntisymmetric k n c.get_mut.follows.lender-at-none.entries ∙ ap (λ l. insert (seen_parts l) k n) (λ i. (c.get_mut.follows.holds-at-none i).entries)
    ∙ ap (insert (seen_parts es) k) (c.in_ok-put-in-None.ensures
    ∙ (λ i. insert (c.empty-pairs.ensures i) c.places-in-None.result (numbers_of_one vs))
    ∙ pair_in q no_part x y c.places-in-None.result (numbers_of_one vs) c.requires.passes c.places-in-None.ensures (ap numbers_of_one shown)
    ∙ (λ i. with_rights q (unwrap_or (sym here i) no_part) x (y ∷ [])))
