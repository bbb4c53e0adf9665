use Rattle.std.proofs.Common.{◌≡◌, Some, inr, subst, sym, ◌∙◌, ap}
use Rattle.saber_sliding.specs.Entries.{followed_entries, last_number, queue_entries, CanFollow, IsSound, Queue}
use Rattle.saber_sliding.proofs.Joining.{joined_can, joined_room, joined_seen, joined_sound, last_seen, some_back}
use Rattle.saber_sliding.proofs.groups.GroupQueue.put.Goals as goal

pub join_behind-requires-clause-room : goal.join_behind-requires-clause-room
join_behind-requires-clause-room g c =
    let s = c.self.inside in
    joined_room s.front.items s.back.items s.back_part.part c.args.part.now (subst (λ (q : Queue). CanFollow c.args.part.now q.entries) (sym c.self.view_is) c.requires)

pub join_behind-requires-clause-can : goal.join_behind-requires-clause-can
join_behind-requires-clause-can g c =
    let s = c.self.inside in
    joined_can s.late s.front.items s.back.items s.back_part.part c.args.part.now c.self.invariant
    (subst (λ (q : Queue). CanFollow c.args.part.now q.entries) (sym c.self.view_is) c.requires)

pub invariant_of-self : goal.invariant_of-self
invariant_of-self g c =
    let s = c.self.inside in
    let n = c.join_behind.new in
    let ends = subst (λ l. last_number l ≡ Some c.args.number) c.deref.ensures.value (c.ends_with.ensures c.if-not-ends_with.false) in
    subst (λ l. IsSound s.late s.front.items l n.back_part.part) (sym c.in-Ok.ensures.back)
    (joined_sound s.late s.front.items s.back.items s.back_part.part n.back_part.part c.args.part.now (some_back s.back.items c.args.number ends)
    c.self.invariant (subst (λ (q : Queue). CanFollow c.args.part.now q.entries) (sym c.self.view_is) c.requires) c.in-Ok.ensures.part)

pub returns-in-Ok-clause-entries : goal.returns-in-Ok-clause-entries
returns-in-Ok-clause-entries g c =
    let s = c.self.inside in
    let n = c.join_behind.new in
    let ends = subst (λ l. last_number l ≡ Some c.args.number) c.deref.ensures.value (c.ends_with.ensures c.if-not-ends_with.false) in
    inr (
      subst (λ (q : Queue). last_number q.entries ≡ Some c.args.number) c.self.view_is (last_seen s.front.items s.back.items s.back_part.part c.args.number ends),
      ap (λ l. queue_entries s.front.items l n.back_part.part) c.in-Ok.ensures.back
          ∙ joined_seen s.late s.front.items s.back.items s.back_part.part n.back_part.part c.args.part.now c.self.invariant c.in-Ok.ensures.part
          ∙ ap (λ (q : Queue). followed_entries c.args.part.now q.entries) c.self.view_is,
    )
