use Rattle.std.proofs.Common.{[], ◌∷◌, ◌++◌, subst, sym, ◌∙◌, ap}
use Rattle.saber_partial.specs.Piles.{piled_part}
use Rattle.saber_sliding.specs.Entries.{pushed_entries, queue_entries, suffixes, CanFollow, Sound}
use Rattle.saber_sliding.proofs.Entered.{back_can, follow_back, seen-push, sound-push}
use Rattle.saber_sliding.proofs.Stacked.{alike_behind}
use Rattle.saber_sliding.proofs.ones.put_settled.Goals as goal

pub push-requires-clause-alike : goal.push-requires-clause-alike
push-requires-clause-alike g c =
    let s = c.settle.new in
    let p = c.args.part.now in
    alike_behind p s.back c.settle.ensures.sound.chained (follow_back p (piled_part s.all) s.front (suffixes s.back) (subst (CanFollow p) (sym c.settle.ensures.entries) c.requires.room))

pub take_behind-requires-clause-can : goal.take_behind-requires-clause-can
take_behind-requires-clause-can g c =
    let s = c.settle.new in
    back_can s.front s.back (piled_part s.all) c.args.part.now c.settle.ensures.sound (subst (CanFollow c.args.part.now) (sym c.settle.ensures.entries) c.requires.room)

pub returns-clause-sound : goal.returns-clause-sound
returns-clause-sound g c =
    let s = c.settle.new in
    let p = c.args.part.now in
    let new = sound-push s.front s.back (piled_part s.all) c.args.number p c.settle.ensures.sound (subst (CanFollow p) (sym c.settle.ensures.entries) c.requires.room) in
    subst (λ b. Sound s.front b (piled_part c.take_behind.new.all)) (sym c.in_ok-push.ensures.ok)
    (subst (Sound s.front (s.back ++ (c.args.number, p) ∷ [])) (sym c.in_ok-take_behind.ensures.part) new)

pub returns-clause-entries : goal.returns-clause-entries
returns-clause-entries g c =
    let s = c.settle.new in
    (λ i. queue_entries s.front (c.in_ok-push.ensures.ok i) (c.in_ok-take_behind.ensures.part i))
    ∙ seen-push s.front s.back (piled_part s.all) c.args.number c.args.part.now
    ∙ ap (λ es. pushed_entries es c.args.number c.args.part.now) c.settle.ensures.entries
