use Rattle.std.proofs.Common.{◌≡◌, true, refl, rules}
use Rattle.saber_fragment.specs.declared.blocks.Block.{Block}
use Rattle.saber_dispatch.specs.Ending.{is_end_due}
use Rattle.saber_dispatch.proofs.EndsToCome.{ends_each}
use Rattle.saber_dispatch.proofs.cutter.Cutter.end_block.Goals as goal

pub returns-clause-ends : goal.returns-clause-ends
returns-clause-ends c =
    let a = c.args.self.now in
    let block : Block = record { number = a.number; first = a.number; earlier = c.none.result; before = a.mark; rows = c.new.result; places = c.new-2.result; ended = true } in
    let due : is_end_due a ≡ true = search rules in
    ends_each a block due refl refl refl c.none.ensures.before c.none.ensures.rows c.new.ensures c.new-2.ensures.items refl
