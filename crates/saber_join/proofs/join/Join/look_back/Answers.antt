use Rattle.std.proofs.Common.{◌∙◌}
use Rattle.saber_plan.specs.Trees.{tree_of}
use Rattle.saber_join.proofs.Passing.{extended}
use Rattle.saber_join.proofs.join.Join.look_back.Goals as goal

pub returns-else-len-eq0 : goal.returns-else-len-eq0
returns-else-len-eq0 c = extended (tree_of c.args.self.now) c.args.draft.now c.args.block.now (λ e. c.if-len-eq0.false (c.len.ensures ∙ e)) c.extend.result c.extend.new.self c.extend.ensures
