use Rattle.std.proofs.Common.{◌≡◌, ℕ, ◌-◌, suc, length, Some, ◌∙◌, ap, arith}
use Rattle.std.proofs.lemmas.Bool.{eqb-true}
use Rattle.saber_sliding.proofs.Joining.{last_at}
use Rattle.saber_sliding.proofs.together.ends_with.Goals as goal

pub returns-in-Some : goal.returns-in-Some
returns-in-Some c same =
    let back = c.args.back.now in
    let some = c.in-Some.ensures.item in
    let long : length back ≡ suc (length back - 1) = omega (arith, some) in
    last_at back (length back - 1) c.in-Some.entry.now long c.in-Some.ensures.value ∙ ap (λ (n : ℕ). Some n) (eqb-true c.in-Some.entry.now.0 c.args.number same)
