use Rattle.std.proofs.Common.{false, refl, sym, ◌∙◌, subst}
use Rattle.saber_dispatch.specs.Looking.{CountsBlock, LeavesBlock, BlockCounted}
use Rattle.saber_dispatch.proofs.BlockCuts.{is_next}
use Rattle.saber_dispatch.proofs.Faults.{block_no_end, same_told}
use Rattle.saber_fragment.specs.declared.blocks.Block.{Block}
use Rattle.saber_dispatch.proofs.cutter.Cutter.put_block.Goals as goal

pub count_block-requires : goal.count_block-requires
count_block-requires c = c.requires

pub returns-in-Ok : goal.returns-in-Ok
returns-in-Ok c =
    let a = c.args.self.now in
    let before = c.args.before in
    let rows = c.args.rows in
    let new = c.count_block.new.self in
    let k : CountsBlock before rows c.in-Ok.first a new = subst (λ t. BlockCounted before rows t a new) c.in-Ok.is c.count_block.ensures in
    let block : Block = record { number = a.number; first = c.in-Ok.first; earlier = c.none.result; before = before; rows = rows; places = c.new.result; ended = false } in
    record {
      cuts = λ q s had has xs f.
          let given = k.cuts q s had has xs f in
          (is_next q s had has a xs before rows f block refl refl refl refl given.0 k.near c.none.ensures.before c.none.ensures.rows, given.1);
      same = λ b e. k.ended;
      stays = record { reader = k.reader; all = λ e. sym k.ended ∙ e; fault = λ side e. sym k.ended ∙ e };
      read = λ side e. block_no_end block _ e;
    }

pub returns-in-Err : goal.returns-in-Err
returns-in-Err c =
    let a = c.args.self.now in
    let before = c.args.before in
    let rows = c.args.rows in
    let new = c.count_block.new.self in
    let end = c.in-Err.end in
    let k : LeavesBlock before rows end a new = subst (λ t. BlockCounted before rows t a new) c.in-Err.is c.count_block.ensures in
    record {
      cuts = k.cuts;
      same = λ b e. absurd (block_no_end b end (sym e));
      stays = k.stays;
      read = λ side e. k.no_fault side (same_told end _ e);
    }
