use Rattle.std.proofs.Common.{sym, subst}
use Rattle.saber_partial.specs.Flat.{entry_in}
use Rattle.saber_partial.specs.Ones.{AreKeyless, IsOne}
use Rattle.saber_partial.proofs.OneParts.{keyless_is_one}
use Rattle.saber_partial.proofs.OneRows.{one_row}
use Rattle.std.proofs.lemmas.Bool.{eqb-true}
use Rattle.saber_partial.proofs.row_parts.RowPart.has_no_key.Goals as goal

pub returns-clause-yes : goal.returns-clause-yes
returns-clause-yes c = λ e. subst IsOne c.self.view_is (one_row c.self.inside.layout.now c.self.inside.row.now (eqb-true _ _ e))

pub returns-clause-keyless : goal.returns-clause-keyless
returns-clause-keyless c = λ h. subst IsOne c.self.view_is (keyless_is_one (entry_in c.self.inside.layout.now c.self.inside.row.now) (subst AreKeyless (sym c.self.view_is) h))
