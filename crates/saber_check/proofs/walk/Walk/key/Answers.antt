use Rattle.std.proofs.Common.{sym, ◌∙◌}
use Rattle.saber_query.specs.Trees.{query_of}
use Rattle.saber_check.proofs.SettledLaws as settled
use Rattle.saber_check.proofs.walk.Walk.key.Goals as goal

pub returns-then-is_settled : goal.returns-then-is_settled
returns-then-is_settled c = settled.skipped _ _ _ _ _ c.column_words.ensures (sym c.is_settled.ensures ∙ c.if-is_settled.true) (settled.group_key (query_of c.args.query.now) c.args.group.now c.args.before c.args.self.now.index c.args.column.now) c.skip.ensures
