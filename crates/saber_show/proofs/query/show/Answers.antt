use Rattle.saber_show.proofs.RestLemmas.{read_back}
use Rattle.saber_show.proofs.query.show.Goals as goal

pub returns-clause-tokens : goal.returns-clause-tokens
returns-clause-tokens c = read_back c.args.query.now _ c.text.result c.select.ensures.value c.select.ensures.parsed c.text.ensures
