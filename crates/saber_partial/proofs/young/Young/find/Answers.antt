use Rattle.std.proofs.Common.{sym, ◌∙◌}
use Rattle.saber_partial.proofs.young.Young.find.Goals as goal

pub returns-then-is_key_of-clause-there : goal.returns-then-is_key_of-clause-there
returns-then-is_key_of-clause-there c = λ d. sym (c.key.ensures d) ∙ c.is_key_of.ensures c.if-is_key_of.true
