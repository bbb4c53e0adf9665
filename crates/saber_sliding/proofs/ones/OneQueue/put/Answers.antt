use Rattle.std.proofs.Common.{◌≡◌, Some, inr, subst, sym, ◌∙◌, ap}
use Rattle.saber_partial.specs.Piles.{piled_part}
use Rattle.saber_sliding.specs.Entries.{followed_entries, last_number, queue_entries, CanFollow, IsSound, Queue}
use Rattle.saber_sliding.proofs.Joining.{joined_can, joined_room, joined_seen, joined_sound, last_seen, some_back}
use Rattle.saber_sliding.proofs.ones.OneQueue.put.Goals as goal

pub join_behind-requires-clause-some : goal.join_behind-requires-clause-some
join_behind-requires-clause-some g c = some_back c.self.inside.back c.args.number (c.ends_with.ensures c.if-not-ends_with.false)

pub join_behind-requires-clause-room : goal.join_behind-requires-clause-room
join_behind-requires-clause-room g c =
    let s = c.self.inside in
    joined_room s.front s.back (piled_part s.all) c.args.part.now (subst (λ (q : Queue). CanFollow c.args.part.now q.entries) (sym c.self.view_is) c.requires.room)

pub join_behind-requires-clause-can : goal.join_behind-requires-clause-can
join_behind-requires-clause-can g c =
    let s = c.self.inside in
    joined_can s.late s.front s.back (piled_part s.all) c.args.part.now c.self.invariant.0
    (subst (λ (q : Queue). CanFollow c.args.part.now q.entries) (sym c.self.view_is) c.requires.room)

pub invariant_of-self : goal.invariant_of-self
invariant_of-self g c =
    let s = c.self.inside in
    let n = c.join_behind.new in (
      subst (λ l. IsSound s.late s.front l (piled_part n.all)) (sym c.in-Ok.ensures.back)
          (joined_sound s.late s.front s.back (piled_part s.all) (piled_part n.all) c.args.part.now (some_back s.back c.args.number (c.ends_with.ensures c.if-not-ends_with.false))
          c.self.invariant.0 (subst (λ (q : Queue). CanFollow c.args.part.now q.entries) (sym c.self.view_is) c.requires.room) c.in-Ok.ensures.part),
      c.join_behind.ensures.few,
    )

pub returns-in-Ok-clause-entries : goal.returns-in-Ok-clause-entries
returns-in-Ok-clause-entries g c =
    let s = c.self.inside in
    let n = c.join_behind.new in
    inr (
      subst (λ (q : Queue). last_number q.entries ≡ Some c.args.number) c.self.view_is (last_seen s.front s.back (piled_part s.all) c.args.number (c.ends_with.ensures c.if-not-ends_with.false)),
      ap (λ l. queue_entries s.front l (piled_part n.all)) c.in-Ok.ensures.back
          ∙ joined_seen s.late s.front s.back (piled_part s.all) (piled_part n.all) c.args.part.now c.self.invariant.0 c.in-Ok.ensures.part
          ∙ ap (λ (q : Queue). followed_entries c.args.part.now q.entries) c.self.view_is,
    )
