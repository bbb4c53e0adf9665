use Rattle.std.proofs.Common.{codes}
use Rattle.saber_notes.specs.Reports.{notes_in}
use Rattle.saber_notes.proofs.ReportLemmas.{line_put}
use Rattle.saber_notes.proofs.report.Report.add_create_fault.Goals as goal

pub returns : goal.returns
returns c =
    line_put (notes_in c.args.self.now) (notes_in c.begin.new.self) (notes_in c.tell.new.self) (codes "create fault") c.args.query c.begin.ensures.bytes c.tell.ensures.bytes
