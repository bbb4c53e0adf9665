use Rattle.std.proofs.Common.{◌+◌, ◌≤◌, sym, ◌∙◌, ap, subst}
use Rattle.saber_sliding.specs.Waits.{waiting_entries}
use Rattle.saber_sliding.proofs.Waited.{as_long}
use Rattle.saber_sliding.proofs.front.Front.into_queue.Goals as goal

pub returns-in_ok-queue-in-Groups-clause-steps : goal.returns-in_ok-queue-in-Groups-clause-steps
returns-in_ok-queue-in-Groups-clause-steps g c =
    subst (λ n. c.of_entries.new.steps ≤ c.args.steps.now + n)
    (as_long _ (waiting_entries c.self.inside.waiting) c.args.self (ap waiting_entries c.in-Groups.is ∙ ap (λ (es : _). es.items) (sym c.in-Groups.entries-is)) c.self.view_is)
    c.in_ok-queue-in-Groups.ensures.steps

pub returns-in-Ones-clause-steps : goal.returns-in-Ones-clause-steps
returns-in-Ones-clause-steps g c =
    subst (λ n. c.of_entries-queue.new.steps ≤ c.args.steps.now + n)
    (as_long _ (waiting_entries c.self.inside.waiting) c.args.self (ap waiting_entries c.in-Ones.is ∙ sym c.in-Ones.stack-is) c.self.view_is)
    c.of_entries-queue.ensures.steps
