use Rattle.saber_panes.proofs.PaneParts.{window_is}
use Rattle.saber_laws.proofs.CutLaws.{no_rows_no_part}
use Rattle.saber_panes.proofs.pane_laws.windows_are_panes.Goals as goal

pub returns : goal.returns
returns c = λ q g o i xs r. window_is q o i (no_rows_no_part q).of_groups g xs r
