use Rattle.std.proofs.Common.{◌≡◌, ◌∙◌, sym, ap, Some, None, refl, arith}
use Rattle.std.specs.Option.{option_copied_mut}
use Rattle.saber_changes.proofs.Tallied.{finds, some_here, none_here, less_written, same_written, is_left, is_gone}
use Rattle.saber_changes.proofs.counts.take.Goals as goal

pub returns-then-n-eq0-clause-told : goal.returns-then-n-eq0-clause-told
returns-then-n-eq0-clause-told c =
    let es = c.args.counts.now.entries in
    let found : finds es c.args.line.now ≡ Some c.in-Some.n.now = sym c.get_mut.ensures.value ∙ ap option_copied_mut c.in-Some.is in
    let none = c.if-n-eq0.true in
    is_gone c.args.line.now es c.in-Some.n.now (some_here c.args.line.now es c.in-Some.n.now found) (omega (arith, none))

pub returns-then-n-eq0-clause-same : goal.returns-then-n-eq0-clause-same
returns-then-n-eq0-clause-same c _ =
    let es = c.args.counts.now.entries in
    let found : finds es c.args.line.now ≡ Some c.in-Some.n.now = sym c.get_mut.ensures.value ∙ ap option_copied_mut c.in-Some.is in
    same_written c.args.line.now es _ c.in-Some.n.now found (c.get_mut.follows.holds _).0

pub returns-else-n-eq0-clause-told : goal.returns-else-n-eq0-clause-told
returns-else-n-eq0-clause-told c =
    let es = c.args.counts.now.entries in
    let found : finds es c.args.line.now ≡ Some c.in-Some.n.now = sym c.get_mut.ensures.value ∙ ap option_copied_mut c.in-Some.is in
    let some = c.if-n-eq0.false in
    is_left c.args.line.now es c.in-Some.n.now found (omega (arith, some))

pub returns-else-n-eq0-clause-taken : goal.returns-else-n-eq0-clause-taken
returns-else-n-eq0-clause-taken c _ =
    let es = c.args.counts.now.entries in
    let found : finds es c.args.line.now ≡ Some c.in-Some.n.now = sym c.get_mut.ensures.value ∙ ap option_copied_mut c.in-Some.is in
    less_written c.args.line.now es _ c.in-Some.n.now found (c.get_mut.follows.holds _).0

pub returns-in-None-clause-told : goal.returns-in-None-clause-told
returns-in-None-clause-told c =
    let es = c.args.counts.now.entries in
    let found : finds es c.args.line.now ≡ None = sym c.get_mut.ensures.value ∙ ap option_copied_mut c.in-None.is in
    is_gone c.args.line.now es 0 (none_here c.args.line.now es found) refl
