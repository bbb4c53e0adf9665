use Rattle.std.proofs.Common.{◌≡◌, ◌∙◌, sym, ap, subst, [], ◌∷◌}
use Rattle.saber_plan.specs.declared.rows.Side.TheVariants.{Left}
use Rattle.saber_rows.specs.Reader.{reader_of}
use Rattle.saber_rows.specs.Heads.{Called}
use Rattle.saber_dispatch.specs.Readings.{one, Stepped, answer_one}
use Rattle.saber_dispatch.specs.Sources.{each_input}
use Rattle.saber_dispatch.proofs.ReadSteps.{if_some, stepped_one}
use Rattle.saber_dispatch.proofs.reader.next_of_one.Goals as goal

pub returns-clause-step : goal.returns-clause-step
returns-clause-step g c q m r =
    let n = c.next.ensures in
    let old = reader_of c.args.lines.now in
    let new = reader_of c.next.new.self in
    let left = g.S.Source.left in
    let called : Called c.next.result old new (left c.in-One.source) (left c.next.new.source) = record {
      again = if_some _ _ old.answer n.again (λ a h. (h.0, ap reader_of h.1));
      moves = n.moves;
      rules = n.rules;
      answer = n.answer;
      none = n.none;
      ended = n.ended;
      refused = n.refused;
      cut = n.cut;
      memory = n.memory;
      fits = n.fits;
      ordered = n.ordered;
      last = n.last;
      rises = n.rises;
      stays = n.stays;
      counted = n.counted;
    } in
    let step = stepped_one q m old new (left c.in-One.source) (left c.next.new.source) r c.next.result called in
    subst (λ a. Stepped q m a (one old) (one new) (each_input left c.args.inputs.now) (left c.next.new.source ∷ [])) (sym c.answer_one.ensures)
    (subst (λ i. Stepped q m (answer_one c.next.result) (one old) (one new) (each_input left i) (left c.next.new.source ∷ [])) (sym c.in-One.is) step)

pub returns-clause-good : goal.returns-clause-good
returns-clause-good g c h =
    let faults = g.S.Source.faults in
    let same : faults c.next.new.source ≡ faults c.in-One.source = c.next.ensures.good (λ e. h Left (c.answer_one.ensures ∙ ap answer_one e)) in
    subst (λ i. (faults c.next.new.source ∷ []) ≡ each_input faults i) (sym c.in-One.is) (ap (λ n. n ∷ []) same)
