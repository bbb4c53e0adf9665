use Rattle.std.proofs.Common.{inr, sym, ◌∙◌, ap, subst}
use Rattle.std.proofs.lemmas.Result.{on_ok_weaker}
use Rattle.saber_plan.specs.Parts.{Part}
use Rattle.saber_sliding.specs.Entries.{pushed_entries, CanFollow, Queue}
use Rattle.saber_sliding.specs.Forms.{queue_of}
use Rattle.saber_sliding.specs.declared.form.Form.{Form}
use Rattle.saber_sliding.proofs.Suited.{ones_keyless}
use Rattle.saber_sliding.proofs.queue.Sliding.push.Goals as goal

pub push-requires-in-Some-clause-one : goal.push-requires-in-Some-clause-one
push-requires-in-Some-clause-one g c =
    let room = subst (CanFollow c.args.part) (sym (c.be_of_groups.ensures.entries ∙ ap (λ (q : Queue). q.entries) c.self.view_is)) c.requires in
    (c.in-Some.ensures.one (ones_keyless c.args.part c.be_of_groups.new.self c.in-Ones.queue c.in-Ones.is c.be_of_groups.ensures.kept room)).1

pub push-requires-in-Some-clause-room : goal.push-requires-in-Some-clause-room
push-requires-in-Some-clause-room g c =
    let room = subst (CanFollow c.args.part) (sym (c.be_of_groups.ensures.entries ∙ ap (λ (q : Queue). q.entries) c.self.view_is)) c.requires in
    let same = (c.in-Some.ensures.one (ones_keyless c.args.part c.be_of_groups.new.self c.in-Ones.queue c.in-Ones.is c.be_of_groups.ensures.kept room)).0 in
    subst (λ (p : Part). CanFollow p c.in-Ones.queue.entries) (sym same) (subst (λ (f : Form). CanFollow c.args.part (queue_of f).entries) c.in-Ones.is room)

pub returns-in-Some-clause-entries : goal.returns-in-Some-clause-entries
returns-in-Some-clause-entries g c =
    let here = c.be_of_groups.ensures.entries ∙ ap (λ (q : Queue). q.entries) c.self.view_is in
    let room = subst (CanFollow c.args.part) (sym here) c.requires in
    let same = (c.in-Some.ensures.one (ones_keyless c.args.part c.be_of_groups.new.self c.in-Ones.queue c.in-Ones.is c.be_of_groups.ensures.kept room)).0 in
    let es = ap (λ (f : Form). (queue_of f).entries) (sym c.in-Ones.is) ∙ here in
    on_ok_weaker c.push-in-Some.result (λ new. inr (new ∙ (λ i. pushed_entries (es i) c.args.number (same i)))) c.push-in-Some.ensures.entries
