use Rattle.std.proofs.Common.{◌∙◌, ap₂}
use Rattle.saber_partition.specs.Stores.{own_lists}
use Rattle.saber_partition.proofs.Kept.{kept_new}
use Rattle.saber_partition.proofs.lists.put_new.Goals as goal

pub returns-clause-put : goal.returns-clause-put
returns-clause-put c = ap₂ own_lists c.in-Ok.ensures c.in_ok-push.ensures.items ∙ kept_new c.args.list.items c.args.store.now.known c.args.store.now.lists.items c.args.own c.requires.missing c.requires.long
