use Rattle.std.proofs.Common.{◌≡◌, [], ◌∷◌, ◌++◌, map, sym, ◌∙◌, ap, subst}
use Rattle.std.specs.List.{AllByRecursion}
use Rattle.std.proofs.lemmas.Result.{on_ok_weaker}
use Rattle.saber_plan.specs.Answers.{key}
use Rattle.saber_plan.specs.Parts.{group_part, numbers}
use Rattle.saber_plan.specs.Trees.{tree_of}
use Rattle.saber_partial.specs.PartLaws.{OfRows}
use Rattle.saber_partial.specs.Sorted.{alone}
use Rattle.saber_partial.proofs.Fitting.{aggregates_count}
use Rattle.saber_partial.proofs.Merging.{either}
use Rattle.saber_partial.proofs.RowParted.{all_more, of_rows_suit, row_more}
use Rattle.saber_partial.proofs.Counted.{groups_are_of_rows}
use Rattle.saber_partial.proofs.row_parts.RowParts.push.Goals as goal

pub suit-requires : goal.suit-requires
suit-requires c =
    let q = tree_of c.args.aggregates.now in
    let t = c.self.inside.groups in
    record { others = λ some. of_rows_suit q 1 t.layout t.entries c.has_one_layout.ensures.each (subst (AllByRecursion (OfRows q 1)) (sym c.self.view_is) c.requires.others) some }

pub push_first-requires-clause-fit : goal.push_first-requires-clause-fit
push_first-requires-clause-fit c = aggregates_count (tree_of c.args.aggregates.now) c.keys.ensures.checked c.requires.group c.args.row.now.values c.requires.row.count

pub returns-clause-all : goal.returns-clause-all
returns-clause-all c =
    let q = tree_of c.args.aggregates.now in
    let zs = c.args.row.now.values in
    let es = c.self.inside.groups.entries in
    let ds = c.suit.new.self.entries in
    let fs = c.push_first.new.self.entries in
    let k = c.as_slice.result.now in
    let here : k ≡ key q.keys zs = c.as_slice.ensures.value ∙ c.push_key.ensures ∙ (λ i. c.new-list.ensures i ++ key (c.keys.ensures.is i) (c.values.ensures i)) in
    either c.push_first.result (fs ≡ ds ++ (k, numbers q.aggregates (zs ∷ [])) ∷ []) (fs ≡ ds) (AllByRecursion (OfRows q 1) (map alone fs)) c.push_first.ensures.ok c.push_first.ensures.err
    (λ new. subst (AllByRecursion (OfRows q 1)) (sym (row_more q zs k es ds fs c.args.self.now here c.self.view_is c.suit.ensures.same new))
    (all_more (OfRows q 1) c.args.self.now (group_part q (zs ∷ [])) c.requires.others (groups_are_of_rows q (zs ∷ []))))
    (λ same. subst (AllByRecursion (OfRows q 1)) (sym (ap (map alone) (same ∙ c.suit.ensures.same) ∙ c.self.view_is)) c.requires.others)

pub returns-clause-ok : goal.returns-clause-ok
returns-clause-ok c =
    let q = tree_of c.args.aggregates.now in
    let zs = c.args.row.now.values in
    let es = c.self.inside.groups.entries in
    let ds = c.suit.new.self.entries in
    let fs = c.push_first.new.self.entries in
    let k = c.as_slice.result.now in
    let here : k ≡ key q.keys zs = c.as_slice.ensures.value ∙ c.push_key.ensures ∙ (λ i. c.new-list.ensures i ++ key (c.keys.ensures.is i) (c.values.ensures i)) in
    on_ok_weaker {P = fs ≡ ds ++ (k, numbers q.aggregates (zs ∷ [])) ∷ []} {Q = map alone fs ≡ c.args.self.now ++ group_part q (zs ∷ []) ∷ []} c.push_first.result
    (row_more q zs k es ds fs c.args.self.now here c.self.view_is c.suit.ensures.same) c.push_first.ensures.ok
