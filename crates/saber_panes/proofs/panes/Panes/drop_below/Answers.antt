use Rattle.std.proofs.Common.{rules, refl, ◌∙◌, ap, nat_le}
use Rattle.std.specs.FinMap.{retain_keys}
use Rattle.saber_plan.specs.Tasks.{Parts}
use Rattle.saber_panes.proofs.PaneMaps.{panes_kept}
use Rattle.saber_panes.proofs.panes.Panes.drop_below.Goals as goal

pub returns : goal.returns
returns c = panes_kept _ nat_le (λ f. f.0.now) (λ f k v b w g t. (search rules, search rules, search rules)) c.args.pane _ c.self.inside.parts.entries c.retain.new.self.entries refl c.retain.ensures.filtered ∙ ap (λ (m : Parts). retain_keys m (λ j. nat_le c.args.pane j)) c.self.view_is
