use Rattle.std.proofs.Common.{◌≡◌, ◌≢◌, ◌∙◌, length, sym, ap, rules}
use Rattle.saber_notes.specs.ManyNotes.{first_status}
use Rattle.saber_notes.specs.declared.outcome.Outcome.TheVariants.{Done}
use Rattle.saber_top.specs.Shared.{outcomes_of}
use Rattle.saber_top.proofs.QueryLemmas.{no_items}
use Rattle.saber_top.proofs.TellLemmas.{first_done, first_other}
use Rattle.saber_top.proofs.parts.+first_status.Goals as goal

pub returns-in_default : goal.returns-in_default
returns-in_default g t c =
    let long : length c.args.parts.now ≡ 0 = search rules in
    sym (ap (λ parts. first_status (outcomes_of parts)) (no_items c.args.parts.now long))

pub returns-then-eq : goal.returns-then-eq
returns-then-eq g t c =
    let o = c.in-Some.part.now.outcome in
    let os = outcomes_of c.in-Some.others.now in
    let done : o ≡ Done = search (rules, c.if-eq.true, c.eq.ensures) in
    c.first_status.ensures ∙ sym (first_done o os done) ∙ ap (λ parts. first_status (outcomes_of parts)) (sym c.in-Some.ensures.cases.0)

pub returns : goal.returns
returns g t c =
    let o = c.in-Some.part.now.outcome in
    let os = outcomes_of c.in-Some.others.now in
    let other : o ≢ Done = search (rules, c.if-eq.false, c.eq.ensures) in
    c.status.ensures ∙ sym (first_other o os other) ∙ ap (λ parts. first_status (outcomes_of parts)) (sym c.in-Some.ensures.cases.0)
