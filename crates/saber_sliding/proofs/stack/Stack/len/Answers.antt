use Rattle.std.proofs.Common.{◌≡◌, length, ◌∙◌, arith}
use Rattle.saber_sliding.proofs.Stacked.{seen_length}
use Rattle.saber_sliding.proofs.stack.Stack.len.Goals as goal

pub returns : goal.returns
returns c =
    let s = c.self.inside in
    let long = s.numbers.ok.0 in
    let now = c.len.ensures in
    let here : c.len.result ≡ length s.numbers.items = omega (arith, long, now) in
    here ∙ seen_length s.numbers.items s.parts c.args.self.now c.self.invariant c.self.view_is
