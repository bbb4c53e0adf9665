use Rattle.saber_rows.proofs.Ranks.{first_rank}
use Rattle.saber_rows.proofs.waiting.Waiting.first.Goals as goal

pub returns-in-Some : goal.returns-in-Some
returns-in-Some c = first_rank c.args.self.now.rows.entries c.in-Some.rank.now c.in-Some.field-0-1.now c.in-Some.ensures.first c.args.self.now.ranked
