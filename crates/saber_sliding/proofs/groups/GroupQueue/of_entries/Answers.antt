use Rattle.std.proofs.Common.{[], sym, ◌∙◌, subst}
use Rattle.saber_sliding.specs.Entries.{queue_entries, Sound}
use Rattle.saber_sliding.proofs.Entered.{seen_turned, sound_turned}
use Rattle.saber_sliding.proofs.groups.GroupQueue.of_entries.Goals as goal

pub invariant_of-result : goal.invariant_of-result
invariant_of-result g c =
    let front = c.sum_up.new.front.items in
    subst (λ b. Sound front b c.empty.result.part) (sym c.new.ensures.items) (subst (Sound front []) (sym c.empty.ensures.part) (sound_turned front))

pub returns-clause-entries : goal.returns-clause-entries
returns-clause-entries g c =
    let front = c.sum_up.new.front.items in
    (λ i. queue_entries front (c.new.ensures.items i) (c.empty.ensures.part i)) ∙ seen_turned front ∙ c.in_ok-sum_up.ensures.front
