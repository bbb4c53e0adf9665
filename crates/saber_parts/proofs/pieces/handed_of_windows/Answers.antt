use Rattle.std.proofs.Common.{◌∙◌}
use Rattle.saber_fragment.specs.Shown.{windows_by}
use Rattle.saber_parts.proofs.pieces.handed_of_windows.Goals as goal

pub returns : goal.returns
returns g c =
    let shown = g.A.Assembles.shown in
    let made = c.into_piece.ensures in
    let gave = c.in_ok-gathered.ensures in
    λ j. record {
      closing = ((λ k. windows_by shown (made.closing k)) ∙ gave.closing) j;
      pending = ((λ k. windows_by shown (made.pending k)) ∙ gave.pending) j;
      opening = ((λ k. windows_by shown (made.opening k)) ∙ gave.opening) j;
      lines = (made.text ∙ gave.text) j;
      closed = made.closed j;
    }
