use Rattle.std.proofs.Common.{◌≡◌, sym, ◌∙◌, ap, subst, T, Some, None, option_map, nat_cmp}
use Rattle.std.specs.Option.{option_copied_mut}
use Rattle.std.specs.Cmp.{nat_cmp_total}
use Rattle.std.specs.FinMap.{get, insert, is_sorted, nat_cmp-IsAntisymmetric}
use Rattle.std.specs.Vec.Iter.{into_iter_items}
use Rattle.saber_plan.specs.Merges.{joined_value, both}
use Rattle.saber_plan.specs.Parts.{merge}
use Rattle.saber_plan.specs.Facts.Maps.{both-empty_right, rest_rises}
use Rattle.saber_plan.specs.Facts.Trees.{written, inserted, looked_up}
use Rattle.saber_fragment.specs.Shown.{windows_by}
use Rattle.saber_parts.specs.Stored.{CanTakeIn, parts_by}
use Rattle.saber_parts.proofs.Storing.{part_rest, part_fits, part_here, all_given}
use Rattle.saber_parts.proofs.store.take_in.Goals as goal

pub loop-window-init : goal.loop-window-init
loop-window-init g c =
    let shown = g.A.Assembles.shown in
    let q = g.A.Assembles.plan c.args.by.now in
    let m = parts_by shown c.args.store.now.entries in
    let all = c.into_iter-window-iterator.ensures.into_iter_gives.0 in
    record {
      can = tt;
      finite = tt;
      rest = ap (λ l. both merge m (parts_by shown l)) all;
      rising = subst (λ l. T (is_sorted nat_cmp (windows_by shown l))) (sym all) c.requires.rising;
      fits = subst (λ l. CanTakeIn q m (parts_by shown l)) (sym all) c.requires.fits;
    }

pub merge-requires : goal.merge-requires
merge-requires g c =
    let shown = g.A.Assembles.shown in
    let q = g.A.Assembles.plan c.args.by.now in
    let left = c.in-Some.ensures.steps.0 in
    let es = c.loop-window.store.entries in
    let m = parts_by shown es in
    let k = c.in-Some.window in
    let found = sym c.get_mut.ensures.value ∙ ap option_copied_mut c.in-Some-get_mut.is in
    let here : get m k ≡ Some (shown c.in-Some-get_mut.mine.now) = sym (looked_up nat_cmp (λ k. k) shown nat_cmp_total nat_cmp-IsAntisymmetric k es) ∙ ap (option_map shown) found in
    part_here q m k (shown c.in-Some-get_mut.mine.now) (shown c.in-Some.part) (windows_by shown (into_iter_items c.next.new.self)) (subst (λ l. CanTakeIn q m (parts_by shown l)) left c.loop-window.invariant.fits) here

pub loop-window-preserved-in-Continue-1 : goal.loop-window-preserved-in-Continue-1
loop-window-preserved-in-Continue-1 g c =
    let shown = g.A.Assembles.shown in
    let q = g.A.Assembles.plan c.args.by.now in
    let left = c.in-Some.ensures.steps.0 in
    let es = c.loop-window.store.entries in
    let m = parts_by shown es in
    let k = c.in-Some.window in
    let raw = c.merge.new.into in
    let n = shown raw in
    let found = sym c.get_mut.ensures.value ∙ ap option_copied_mut c.in-Some-get_mut.is in
    let here : get m k ≡ Some (shown c.in-Some-get_mut.mine.now) = sym (looked_up nat_cmp (λ k. k) shown nat_cmp_total nat_cmp-IsAntisymmetric k es) ∙ ap (option_map shown) found in
    let new : parts_by shown (c.get_mut.follows.lender raw).entries ≡ insert m k n = ap (parts_by shown) (c.get_mut.follows.holds raw).0 ∙ written nat_cmp (λ k. k) shown nat_cmp_total nat_cmp-IsAntisymmetric k raw c.in-Some-get_mut.mine.now es found in
    let sum : n ≡ joined_value merge (get m k) (shown c.in-Some.part) = c.in_ok-merge-in-Some-get_mut.ensures ∙ sym (ap (λ o. joined_value merge o (shown c.in-Some.part)) here) in
    let rising = subst (λ l. T (is_sorted nat_cmp (windows_by shown l))) left c.loop-window.invariant.rising in
    let fits = subst (λ l. CanTakeIn q m (parts_by shown l)) left c.loop-window.invariant.fits in
    let after = into_iter_items c.next.new.self in
    let rest = windows_by shown after in
    record {
      can = tt;
      finite = tt;
      rest = ap (λ x. both merge x (parts_by shown after)) new ∙ part_rest m k (shown c.in-Some.part) n rest sum rising ∙ ap (λ l. both merge m (parts_by shown l)) (sym left) ∙ c.loop-window.invariant.rest;
      rising = rest_rises nat_cmp (k, shown c.in-Some.part) rest rising;
      fits = subst (λ x. CanTakeIn q x (parts_by shown after)) (sym new) (part_fits q m k (shown c.in-Some.part) n rest rising fits);
    }

pub loop-window-preserved : goal.loop-window-preserved
loop-window-preserved g c =
    let shown = g.A.Assembles.shown in
    let q = g.A.Assembles.plan c.args.by.now in
    let left = c.in-Some.ensures.steps.0 in
    let es = c.loop-window.store.entries in
    let m = parts_by shown es in
    let k = c.in-Some.window in
    let raw = c.in-Some.part in
    let n = shown raw in
    let found = sym c.get_mut.ensures.value ∙ ap option_copied_mut c.in-None-get_mut.is in
    let here : get m k ≡ None = sym (looked_up nat_cmp (λ k. k) shown nat_cmp_total nat_cmp-IsAntisymmetric k es) ∙ ap (option_map shown) found in
    let new : parts_by shown c.insert.new.self.entries ≡ insert m k n = ap (parts_by shown) c.in_ok-insert-in-None-get_mut.ensures.entries ∙ inserted nat_cmp (λ k. k) shown nat_cmp_total nat_cmp-IsAntisymmetric k raw c.get_mut.follows.lender-at-none.entries ∙ ap (λ l. insert (parts_by shown l) k n) (λ i. (c.get_mut.follows.holds-at-none i).entries) in
    let sum : n ≡ joined_value merge (get m k) n = sym (ap (λ o. joined_value merge o n) here) in
    let rising = subst (λ l. T (is_sorted nat_cmp (windows_by shown l))) left c.loop-window.invariant.rising in
    let fits = subst (λ l. CanTakeIn q m (parts_by shown l)) left c.loop-window.invariant.fits in
    let after = into_iter_items c.next.new.self in
    let rest = windows_by shown after in
    record {
      can = tt;
      finite = tt;
      rest = ap (λ x. both merge x (parts_by shown after)) new ∙ part_rest m k n n rest sum rising ∙ ap (λ l. both merge m (parts_by shown l)) (sym left) ∙ c.loop-window.invariant.rest;
      rising = rest_rises nat_cmp (k, n) rest rising;
      fits = subst (λ x. CanTakeIn q x (parts_by shown after)) (sym new) (part_fits q m k n n rest rising fits);
    }

pub returns : goal.returns
returns g c =
    let shown = g.A.Assembles.shown in
    let none = all_given c.loop-window.window-iterator c.in-None.ensures.steps.0 in
    let m = parts_by shown c.loop-window.store.entries in
    sym (both-empty_right nat_cmp_total merge nat_cmp-IsAntisymmetric m) ∙ ap (λ l. both merge m (parts_by shown l)) (sym none) ∙ c.loop-window.invariant.rest
