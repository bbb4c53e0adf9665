use Rattle.std.proofs.Common.{◌≡◌, inr, sym, ◌∙◌, ap, subst}
use Rattle.std.proofs.lemmas.Result.{on_ok_weaker}
use Rattle.saber_plan.specs.Parts.{Part}
use Rattle.saber_sliding.specs.Entries.{Entries, pushed_entries, suffixes, CanFollow, Chained}
use Rattle.saber_sliding.specs.Waits.{waiting_entries}
use Rattle.saber_sliding.proofs.Stacked.{alike_behind}
use Rattle.saber_sliding.proofs.Suited.{waiting_keyless}
use Rattle.saber_sliding.proofs.Waited.{more_chained, more_seen, still_chained}
use Rattle.saber_sliding.proofs.front.Front.push.Goals as goal

pub invariant_of-self-in-Groups : goal.invariant_of-self-in-Groups
invariant_of-self-in-Groups c =
    let es : Entries = c.in-Groups.entries.items in
    let here : waiting_entries c.self.inside.waiting ≡ es = sym c.be_of_groups.ensures.entries ∙ ap waiting_entries c.in-Groups.is in
    more_chained es c.push.new.self.items c.args.number c.args.part (subst Chained here c.self.invariant)
    (subst (CanFollow c.args.part) (sym c.self.view_is ∙ ap suffixes here) c.requires) c.in_ok-push-in-Groups.ensures.items

pub returns-in-Groups : goal.returns-in-Groups
returns-in-Groups c =
    let es : Entries = c.in-Groups.entries.items in
    let here : waiting_entries c.self.inside.waiting ≡ es = sym c.be_of_groups.ensures.entries ∙ ap waiting_entries c.in-Groups.is in
    inr (more_seen es c.push.new.self.items c.args.self.now c.args.number c.args.part (ap suffixes (sym here) ∙ c.self.view_is) c.in_ok-push-in-Groups.ensures.items)

pub push-requires-in-Some-clause-one : goal.push-requires-in-Some-clause-one
push-requires-in-Some-clause-one c =
    let room = subst (CanFollow c.args.part) (sym c.self.view_is ∙ ap suffixes (sym c.be_of_groups.ensures.entries)) c.requires in
    (c.in-Some.ensures.one (waiting_keyless c.args.part c.be_of_groups.new.self c.in-Ones.stack c.in-Ones.is c.be_of_groups.ensures.kept room)).1

pub push-requires-in-Some-clause-alike : goal.push-requires-in-Some-clause-alike
push-requires-in-Some-clause-alike c =
    let w = c.be_of_groups.new.self in
    let es : Entries = c.in-Ones.stack in
    let room = subst (CanFollow c.args.part) (sym c.self.view_is ∙ ap suffixes (sym c.be_of_groups.ensures.entries)) c.requires in
    let same = (c.in-Some.ensures.one (waiting_keyless c.args.part w es c.in-Ones.is c.be_of_groups.ensures.kept room)).0 in
    let here : waiting_entries c.self.inside.waiting ≡ es = sym c.be_of_groups.ensures.entries ∙ ap waiting_entries c.in-Ones.is in
    alike_behind c.in-Some.own es (subst Chained here c.self.invariant)
    (subst (λ (p : Part). CanFollow p (suffixes es)) (sym same) (subst (CanFollow c.args.part) (sym c.self.view_is ∙ ap suffixes here) c.requires))

pub invariant_of-self-in-Some : goal.invariant_of-self-in-Some
invariant_of-self-in-Some c =
    let w = c.be_of_groups.new.self in
    let es : Entries = c.in-Ones.stack in
    let room = subst (CanFollow c.args.part) (sym c.self.view_is ∙ ap suffixes (sym c.be_of_groups.ensures.entries)) c.requires in
    let same = (c.in-Some.ensures.one (waiting_keyless c.args.part w es c.in-Ones.is c.be_of_groups.ensures.kept room)).0 in
    let here : waiting_entries c.self.inside.waiting ≡ es = sym c.be_of_groups.ensures.entries ∙ ap waiting_entries c.in-Ones.is in
    still_chained c.push-in-Some.result es c.push-in-Some.new.self c.args.number c.in-Some.own (subst Chained here c.self.invariant)
    (subst (λ (p : Part). CanFollow p (suffixes es)) (sym same) (subst (CanFollow c.args.part) (sym c.self.view_is ∙ ap suffixes here) c.requires))
    c.push-in-Some.ensures.ok c.push-in-Some.ensures.err

pub returns-in-Some : goal.returns-in-Some
returns-in-Some c =
    let w = c.be_of_groups.new.self in
    let es : Entries = c.in-Ones.stack in
    let room = subst (CanFollow c.args.part) (sym c.self.view_is ∙ ap suffixes (sym c.be_of_groups.ensures.entries)) c.requires in
    let same = (c.in-Some.ensures.one (waiting_keyless c.args.part w es c.in-Ones.is c.be_of_groups.ensures.kept room)).0 in
    let here : waiting_entries c.self.inside.waiting ≡ es = sym c.be_of_groups.ensures.entries ∙ ap waiting_entries c.in-Ones.is in
    on_ok_weaker c.push-in-Some.result (λ new. inr (more_seen es c.push-in-Some.new.self c.args.self.now c.args.number c.in-Some.own (ap suffixes (sym here) ∙ c.self.view_is) new ∙ ap (pushed_entries c.args.self.now c.args.number) same))
    c.push-in-Some.ensures.ok
