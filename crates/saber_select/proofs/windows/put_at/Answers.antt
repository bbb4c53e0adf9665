use Rattle.std.proofs.Common.{◌≡◌, ◌++◌, ◌∷◌, [], ◌∙◌, List, sym, ap, subst, Some, None, option_map, unwrap_or, nat_cmp}
use Rattle.std.specs.Option.{option_copied_mut}
use Rattle.std.specs.Cmp.{nat_cmp_total}
use Rattle.std.specs.FinMap.{get, insert, nat_cmp-IsAntisymmetric}
use Rattle.saber_plan.specs.Facts.Trees.{written, inserted, looked_up}
use Rattle.saber_select.specs.Found.{Found, AllBelow}
use Rattle.saber_select.specs.Open.{seen_windows}
use Rattle.saber_select.proofs.windows.put_at.Goals as goal

pub put-requires : goal.put-requires
put-requires c =
    let es = c.args.windows.now.entries in
    let k = c.args.window in
    let found = sym c.get_mut.ensures.value ∙ ap option_copied_mut c.in-Some.is in
    let here : get (seen_windows es) k ≡ Some c.in-Some.rows.now = sym (looked_up nat_cmp (λ k. k) (λ x. x) nat_cmp_total nat_cmp-IsAntisymmetric k es) ∙ ap (option_map (λ (h : List Found). h)) found in
    subst (λ o. AllBelow c.args.place (unwrap_or o [])) here c.requires

pub returns-in_ok-put-in-Some : goal.returns-in_ok-put-in-Some
returns-in_ok-put-in-Some c =
    let es = c.args.windows.now.entries in
    let k = c.args.window in
    let e : Found = (c.args.place, c.args.values.now) in
    let n = c.put.new.self in
    let p = c.in-Some.rows.now in
    let found = sym c.get_mut.ensures.value ∙ ap option_copied_mut c.in-Some.is in
    let here : get (seen_windows es) k ≡ Some p = sym (looked_up nat_cmp (λ k. k) (λ x. x) nat_cmp_total nat_cmp-IsAntisymmetric k es) ∙ ap (option_map (λ (h : List Found). h)) found in
    ap seen_windows (c.get_mut.follows.holds n).0 ∙ written nat_cmp (λ k. k) (λ x. x) nat_cmp_total nat_cmp-IsAntisymmetric k n p es found
    ∙ ap (insert (seen_windows es) k) (c.in_ok-put-in-Some.ensures ∙ (λ i. unwrap_or (sym here i) [] ++ e ∷ []))

pub returns-in_ok-insert-in-None : goal.returns-in_ok-insert-in-None
returns-in_ok-insert-in-None c =
    let es = c.args.windows.now.entries in
    let k = c.args.window in
    let e : Found = (c.args.place, c.args.values.now) in
    let n = c.put-in-None.new.self in
    let found = sym c.get_mut.ensures.value ∙ ap option_copied_mut c.in-None.is in
    let here : get (seen_windows es) k ≡ None = sym (looked_up nat_cmp (λ k. k) (λ x. x) nat_cmp_total nat_cmp-IsAntisymmetric k es) ∙ ap (option_map (λ (h : List Found). h)) found in
    ap seen_windows c.in_ok-insert-in-None.ensures.entries ∙ inserted nat_cmp (λ k. k) (λ x. x) nat_cmp_total nat_cmp-IsAntisymmetric k n c.get_mut.follows.lender-at-none.entries ∙ ap (λ l. insert (seen_windows l) k n) (λ i. (c.get_mut.follows.holds-at-none i).entries)
    ∙ ap (insert (seen_windows es) k) (c.in_ok-put-in-None.ensures ∙ (λ i. c.new-rows.ensures i ++ e ∷ []) ∙ (λ i. unwrap_or (sym here i) [] ++ e ∷ []))
