use Rattle.std.proofs.Common.{◌≡◌, ◌∷◌, sym, ◌∙◌, ap, subst, T, subst₂, ap₂}
use Rattle.std.specs.FinMap.{insert, is_sorted}
use Rattle.std.proofs.lemmas.Map.Iter.{rest_more, rest_all}
use Rattle.saber_plan.specs.Answers.{key_cmp}
use Rattle.saber_plan.specs.Facts.Maps.{rest_rises}
use Rattle.saber_plan.specs.Parts.{numbers_of_one, merge}
use Rattle.saber_join.specs.Found.{Apart, seen_entries, seen_pairs}
use Rattle.saber_join.proofs.Keyed.{step_rest, step_apart}
use Rattle.saber_plan.specs.Facts.Parts.{total, exact, merge-empty_right}
use Rattle.saber_plan.specs.Facts.Trees.{sorted_seen, inserted}
use Rattle.saber_join.proofs.pairs.Pairs.merge.Goals as goal

pub loop-places-init : goal.loop-places-init
loop-places-init c =
    let all = c.into_iter-places-iterator.ensures.into_iter_gives.0 in
    record {
      can = tt;
      finite = tt;
      rest = ap (λ l. merge (seen_pairs c.self.inside.pairs.entries) (seen_pairs l)) all ∙ ap₂ merge c.self.view_is c.later.view_is;
      rising = subst (λ l. T (is_sorted key_cmp (seen_entries l))) (sym all) (sorted_seen key_cmp (λ k. k) (λ v. numbers_of_one v.items) c.later.inside.pairs.entries c.len-count.ensures.ordered);
      apart = subst₂ Apart (sym c.self.view_is) (sym (ap seen_pairs all ∙ c.later.view_is)) c.requires;
    }

pub loop-places-preserved-in_ok-insert : goal.loop-places-preserved-in_ok-insert
loop-places-preserved-in_ok-insert c =
    let left = rest_more (λ x. x) c.loop-places.places-iterator c.next.new.self c.next.result (c.in-Some.places, c.in-Some.values) c.in-Some.is c.next.ensures.steps in
    let es = c.loop-places.self-inside.pairs.entries in
    let k = c.in-Some.places in
    let v = c.in-Some.values in
    let m = seen_pairs es in
    let b = numbers_of_one v.items in
    let more = seen_entries c.next.new.self in
    let new : seen_pairs c.insert.new.self.entries ≡ insert m k b = ap seen_pairs c.in_ok-insert.ensures.entries ∙ inserted key_cmp (λ k. k) (λ v. numbers_of_one v.items) total exact k v es in
    let rises : T (is_sorted key_cmp ((k, b) ∷ more)) = subst (λ l. T (is_sorted key_cmp (seen_entries l))) left c.loop-places.invariant.rising in
    let apart : Apart m (seen_pairs ((k, v) ∷ c.next.new.self)) = subst (λ l. Apart m (seen_pairs l)) left c.loop-places.invariant.apart in
    record {
      can = tt;
      finite = tt;
      rest = ap (λ x. merge x (seen_pairs c.next.new.self)) new ∙ step_rest m k b more apart rises ∙ ap (λ l. merge m (seen_pairs l)) (sym left) ∙ c.loop-places.invariant.rest;
      rising = rest_rises key_cmp (k, b) more rises;
      apart = subst (λ x. Apart x (seen_pairs c.next.new.self)) (sym new) (step_apart m k b more rises apart);
    }

pub loop-places-preserved : goal.loop-places-preserved
loop-places-preserved c =
    let left = rest_more (λ x. x) c.loop-places.places-iterator c.next.new.self c.next.result (c.in-Some.places, c.in-Some.values) c.in-Some.is c.next.ensures.steps in
    let es = c.loop-places.self-inside.pairs.entries in
    let k = c.in-Some.places in
    let v = c.in-Some.values in
    let m = seen_pairs es in
    let b = numbers_of_one v.items in
    let more = seen_entries c.next.new.self in
    let new : seen_pairs c.insert.new.self.entries ≡ insert m k b = ap seen_pairs c.in_ok-insert.ensures.entries ∙ inserted key_cmp (λ k. k) (λ v. numbers_of_one v.items) total exact k v es in
    let rises : T (is_sorted key_cmp ((k, b) ∷ more)) = subst (λ l. T (is_sorted key_cmp (seen_entries l))) left c.loop-places.invariant.rising in
    let apart : Apart m (seen_pairs ((k, v) ∷ c.next.new.self)) = subst (λ l. Apart m (seen_pairs l)) left c.loop-places.invariant.apart in
    record {
      can = tt;
      finite = tt;
      rest = ap (λ x. merge x (seen_pairs c.next.new.self)) new ∙ step_rest m k b more apart rises ∙ ap (λ l. merge m (seen_pairs l)) (sym left) ∙ c.loop-places.invariant.rest;
      rising = rest_rises key_cmp (k, b) more rises;
      apart = subst (λ x. Apart x (seen_pairs c.next.new.self)) (sym new) (step_apart m k b more rises apart);
    }

pub returns : goal.returns
returns c =
    let none = rest_all (λ x. x) c.loop-places.places-iterator c.next.new.self c.next.result c.in-None.is c.next.ensures.steps in
    sym (merge-empty_right (seen_pairs c.loop-places.self-inside.pairs.entries)) ∙ ap (λ l. merge (seen_pairs c.loop-places.self-inside.pairs.entries) (seen_pairs l)) (sym none) ∙ c.loop-places.invariant.rest
