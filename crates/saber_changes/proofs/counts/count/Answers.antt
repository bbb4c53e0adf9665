use Rattle.std.proofs.Common.{◌≡◌, ◌∙◌, sym, ap, Some, None, arith}
use Rattle.std.specs.Option.{option_copied_mut}
use Rattle.saber_changes.proofs.Tallied.{finds, some_here, more_written, first_put}
use Rattle.saber_changes.proofs.counts.count.Goals as goal

pub overflow_add-n : goal.overflow_add-n
overflow_add-n c =
    let found : finds c.args.counts.now.entries c.args.line.now ≡ Some c.in-Some.n.now = sym c.get_mut.ensures.value ∙ ap option_copied_mut c.in-Some.is in
    let is = some_here c.args.line.now c.args.counts.now.entries c.in-Some.n.now found in
    let few = c.requires in
    omega (arith, is, few)

pub returns-in-Some : goal.returns-in-Some
returns-in-Some c =
    let found : finds c.args.counts.now.entries c.args.line.now ≡ Some c.in-Some.n.now = sym c.get_mut.ensures.value ∙ ap option_copied_mut c.in-Some.is in
    more_written c.args.line.now c.args.counts.now.entries _ c.in-Some.n.now found (c.get_mut.follows.holds _).0

pub returns-in_ok-insert-in-None : goal.returns-in_ok-insert-in-None
returns-in_ok-insert-in-None c =
    let found : finds c.args.counts.now.entries c.args.line.now ≡ None = sym c.get_mut.ensures.value ∙ ap option_copied_mut c.in-None.is in
    first_put c.args.line c.args.counts.now.entries c.get_mut.follows.lender-at-none.entries c.insert.new.self.entries found (λ i. (c.get_mut.follows.holds-at-none i).entries) c.in_ok-insert-in-None.ensures.entries
