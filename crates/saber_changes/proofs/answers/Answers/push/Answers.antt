use Rattle.std.proofs.Common.{Result, Ok, Err, OnErr, refl, ◌++◌, ◌∷◌, [], sym, ◌∙◌, ap, subst}
use Rattle.saber_changes.specs.Rising.{Rises}
use Rattle.saber_changes.proofs.Spanned.{kept_whole, kept_lines, more_whole, more_lines}
use Rattle.saber_changes.proofs.answers.Answers.push.Goals as goal

on_err : {T E P : Type 0} (r : Result T E) → P → OnErr r P
on_err (Ok _) p = tt
on_err (Err _) p = p

pub invariant_of-self : goal.invariant_of-self
invariant_of-self c =
    let more = c.put_numbers.ensures.grown in
    kept_whole c.self.inside.numbers.items more.more c.self.inside.spans.items _ _ _ more.all refl c.self.invariant

pub returns-in_err-put_numbers-clause-err : goal.returns-in_err-put_numbers-clause-err
returns-in_err-put_numbers-clause-err c =
    let more = c.put_numbers.ensures.grown in
    on_err c.from_residual.result (kept_lines c.self.inside.numbers.items more.more c.self.inside.spans.items _ _ more.all refl c.self.invariant.0 ∙ c.self.view_is)

pub invariant_of-self-in_err-push : goal.invariant_of-self-in_err-push
invariant_of-self-in_err-push c =
    kept_whole c.self.inside.numbers.items c.args.line.now c.self.inside.spans.items _ _ _ c.in_ok-put_numbers.ensures.ok c.in_err-push.ensures.items c.self.invariant

pub returns-in_err-push-clause-err : goal.returns-in_err-push-clause-err
returns-in_err-push-clause-err c =
    on_err c.from_residual-in_err-push.result
    (kept_lines c.self.inside.numbers.items c.args.line.now c.self.inside.spans.items _ _ c.in_ok-put_numbers.ensures.ok c.in_err-push.ensures.items c.self.invariant.0 ∙ c.self.view_is)

pub invariant_of-self-2 : goal.invariant_of-self-2
invariant_of-self-2 c =
    let whole = more_whole c.self.inside.numbers.items c.args.line.now c.self.inside.spans.items _ _ _ _ c.goes_on-rising.result c.in_ok-put_numbers.ensures.ok (c.len-start.ensures ∙ c.self.inside.numbers.ok.0) (c.len.ensures ∙ c.put_numbers.new.numbers.ok.0) c.in_ok-push.ensures.items c.self.invariant.0 in
    whole (λ r. subst (λ ls. Rises (ls ++ c.args.line.now ∷ [])) (sym c.self.view_is) (c.goes_on-rising.ensures r))

pub returns-clause-ok : goal.returns-clause-ok
returns-clause-ok c =
    more_lines c.self.inside.numbers.items c.args.line.now c.self.inside.spans.items _ _ _ _ c.in_ok-put_numbers.ensures.ok (c.len-start.ensures ∙ c.self.inside.numbers.ok.0) (c.len.ensures ∙ c.put_numbers.new.numbers.ok.0) c.in_ok-push.ensures.items c.self.invariant.0
    ∙ ap (λ ls. ls ++ c.args.line.now ∷ []) c.self.view_is
