use Rattle.saber_partial.proofs.Picked.{moved_up}
use Rattle.std.proofs.Common.{◌∙◌, ap, take, ◌+◌}
use Rattle.std.proofs.Math.ListN.{set}
use Rattle.saber_partial.proofs.young.put_before.Goals as goal

pub returns-clause-put : goal.returns-clause-put
returns-clause-put c =
    ap (λ xs. take (c.args.count + 1) (set xs c.args.i c.args.place)) c.copy_within.ensures.after
    ∙ moved_up c.args.order.now c.args.count c.args.i c.args.place c.requires.there c.requires.room
