use Rattle.std.proofs.Common.{refl, sym, ◌∙◌}
use Rattle.saber_check.proofs.SettledLaws as settled
use Rattle.saber_check.proofs.walk.Walk.column_name.Goals as goal

pub returns-then-is_settled : goal.returns-then-is_settled
returns-then-is_settled c = settled.skipped _ _ _ _ _ refl (sym c.is_settled.ensures ∙ c.if-is_settled.true) (settled.column_name c.args.decl.now c.args.before c.args.self.now.index c.args.name.now) c.skip.ensures
