use Rattle.std.proofs.Common.{◌≡◌, ◌∷◌, [], sym, subst, ◌∙◌, ap}
use Rattle.std.proofs.lemmas.Result.{on_ok_weaker}
use Rattle.saber_plan.specs.Trees.{tree_of}
use Rattle.saber_plan.specs.Parts.{Part, group_part, merge}
use Rattle.saber_partial.specs.Tallies.{CanMerge}
use Rattle.saber_partial.specs.MergeFacts.{can_ahead, can_behind}
use Rattle.saber_partial.specs.Young.{young_part}
use Rattle.saber_partial.proofs.Merging.{either}
use Rattle.saber_laws.proofs.PartLaws.{merge_is_associative}
use Rattle.saber_partial.proofs.gathering.Gathering.add_row.Goals as goal

pub add_row-requires-clause-room : goal.add_row-requires-clause-room
add_row-requires-clause-room c =
    let m = c.make_room.new in
    let one = group_part (tree_of c.args.aggregates.now) (c.args.row.now.values ∷ []) in
    can_behind m.pile.part (young_part m.young.order m.young.groups.entries) one c.in_ok-make_room.ensures.can
    (subst (λ (p : Part). CanMerge p one) (sym (c.in_ok-make_room.ensures.same ∙ c.self.view_is)) c.requires.room)

pub invariant_of-self-2 : goal.invariant_of-self-2
invariant_of-self-2 c =
    let m = c.make_room.new in
    let young = young_part m.young.order m.young.groups.entries in
    let more = young_part c.add_row.new.self.order c.add_row.new.self.groups.entries in
    let one = group_part (tree_of c.args.aggregates.now) (c.args.row.now.values ∷ []) in
    let can = can_ahead m.pile.part young one c.in_ok-make_room.ensures.can (subst (λ (p : Part). CanMerge p one) (sym (c.in_ok-make_room.ensures.same ∙ c.self.view_is)) c.requires.room) in (
      either c.add_row.result (more ≡ merge young one) (more ≡ young) (CanMerge m.pile.part more) c.add_row.ensures.ok c.add_row.ensures.err
          (λ e. subst (CanMerge m.pile.part) (sym e) can) (λ e. subst (CanMerge m.pile.part) (sym e) c.in_ok-make_room.ensures.can),
      c.add_row.ensures.order,
    )

pub returns : goal.returns
returns c =
    let m = c.make_room.new in
    let young = young_part m.young.order m.young.groups.entries in
    let more = young_part c.add_row.new.self.order c.add_row.new.self.groups.entries in
    let one = group_part (tree_of c.args.aggregates.now) (c.args.row.now.values ∷ []) in
    on_ok_weaker c.add_row.result (λ (e : more ≡ merge young one).
    ap (merge m.pile.part) e ∙ sym (merge_is_associative m.pile.part young one) ∙ ap (λ (p : Part). merge p one) (c.in_ok-make_room.ensures.same ∙ c.self.view_is)) c.add_row.ensures.ok
