use Rattle.std.proofs.Common.{◌∙◌, ap}
use Rattle.saber_engine.specs.Endings.{end_of, is_stopped}
use Rattle.saber_engine.proofs.Stops.{may_stop}
use Rattle.saber_engine.proofs.ends.ended.Goals as goal

pub returns-clause-may : goal.returns-clause-may
returns-clause-may g c = may_stop c.args.stage.state c.args.over c.args.end c.end_of-end.result c.is_stopped-stopped.result
    (c.end_of-end.ensures ∙ ap (λ z. end_of z c.args.over c.args.end) c.state-state.ensures)
    (c.is_stopped-stopped.ensures ∙ ap is_stopped c.state-state.ensures)
