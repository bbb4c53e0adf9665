use Rattle.std.proofs.Common.{◌≡◌, ◌<◌, ◌++◌, List, ℤ, length, get_or, sym, ap, ◌∙◌, subst, arith}
use Rattle.saber_plan.specs.Answers.{key}
use Rattle.saber_plan.specs.Parts.{Numbers}
use Rattle.saber_partial.specs.Sorted.{IsGap}
use Rattle.saber_partial.specs.Young.{by_key}
use Rattle.saber_partial.proofs.Picked.{length-by_key, order_long, told_at, told_within}
use Rattle.saber_partial.proofs.young.Young.seek.Goals as goal

pub returns-in-Ok-clause-within : goal.returns-in-Ok-clause-within
returns-in-Ok-clause-within c =
    let es = c.args.self.now.groups.entries in
    let order = c.args.self.now.order in
    let long = length-by_key order es (order_long order es c.requires.order) in
    let within = c.in-Ok.ensures.there.within in
    subst (λ p. p < length es) (sym c.from.ensures) (told_within order es c.requires.order c.in-Ok.i (omega (arith, within, long)))

pub returns-in-Ok-clause-there : goal.returns-in-Ok-clause-there
returns-in-Ok-clause-there c = λ d.
    let es = c.args.self.now.groups.entries in
    let order = c.args.self.now.order in
    let long = length-by_key order es (order_long order es c.requires.order) in
    let within = c.in-Ok.ensures.there.within in
    let here : c.as_slice.result.now ≡ key c.args.columns.now c.args.numbers.now = c.as_slice.ensures.value ∙ c.push_key.ensures ∙ (λ i. c.new-list.ensures i ++ key c.args.columns.now c.args.numbers.now) in
    ap (λ p. (get_or es p d).0) c.from.ensures
    ∙ sym (ap (λ (x : List ℤ × Numbers). x.0) (told_at order es c.requires.order c.in-Ok.i (omega (arith, within, long)) d d))
    ∙ c.in-Ok.ensures.there.at d ∙ here

pub returns-in-Err-clause-missing : goal.returns-in-Err-clause-missing
returns-in-Err-clause-missing c =
    let here : c.as_slice.result.now ≡ key c.args.columns.now c.args.numbers.now = c.as_slice.ensures.value ∙ c.push_key.ensures ∙ (λ i. c.new-list.ensures i ++ key c.args.columns.now c.args.numbers.now) in
    subst (λ k. IsGap (by_key c.args.self.now.order c.args.self.now.groups.entries) k c.in-Err.i) here c.in-Err.ensures.missing
