use Rattle.std.proofs.Common.{[], ◌∷◌, ◌++◌, subst, sym, ◌∙◌, ap}
use Rattle.saber_sliding.specs.Entries.{pushed_entries, queue_entries, CanFollow, Sound}
use Rattle.saber_sliding.proofs.Entered.{back_can, seen-push, sound-push}
use Rattle.saber_sliding.proofs.groups.put_settled.Goals as goal

pub put_behind-requires : goal.put_behind-requires
put_behind-requires g c =
    let s = c.settle.new in
    back_can s.front.items s.back.items s.back_part.part c.args.part c.in_ok-settle.ensures.sound (subst (CanFollow c.args.part) (sym c.in_ok-settle.ensures.entries) c.requires.room)

pub returns-clause-sound : goal.returns-clause-sound
returns-clause-sound g c =
    let s = c.settle.new in
    let new = sound-push s.front.items s.back.items s.back_part.part c.args.number c.args.part
    c.in_ok-settle.ensures.sound (subst (CanFollow c.args.part) (sym c.in_ok-settle.ensures.entries) c.requires.room) in
    subst (λ b. Sound s.front.items b c.put_behind.new.back_part.part) (sym c.in_ok-put_behind.ensures.back)
    (subst (Sound s.front.items (s.back.items ++ (c.args.number, c.args.part) ∷ [])) (sym c.in_ok-put_behind.ensures.part) new)

pub returns-clause-entries : goal.returns-clause-entries
returns-clause-entries g c =
    let s = c.settle.new in
    (λ i. queue_entries s.front.items (c.in_ok-put_behind.ensures.back i) (c.in_ok-put_behind.ensures.part i))
    ∙ seen-push s.front.items s.back.items s.back_part.part c.args.number c.args.part
    ∙ ap (λ es. pushed_entries es c.args.number c.args.part) c.in_ok-settle.ensures.entries
