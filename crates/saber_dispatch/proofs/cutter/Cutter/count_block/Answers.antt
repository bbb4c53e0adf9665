use Rattle.std.proofs.Common.{◌≤◌, length, subst, arith}
use Rattle.saber_dispatch.specs.Looking.{HasRoom, HasNoRoom, Looked}
use Rattle.saber_dispatch.proofs.Fillings.{pushed_ok}
use Rattle.saber_dispatch.proofs.BlockCuts.{behind, own_fit}
use Rattle.saber_dispatch.proofs.BlockCounts.{block_wide, block_lack, block_counts}
use Rattle.saber_dispatch.proofs.cutter.Cutter.count_block.Goals as goal

pub first_needed-requires : goal.first_needed-requires
first_needed-requires c =
    let (q, s, had, has, xs, f) = c.requires in
    (q, s.task, xs, behind q s had has c.args.self.now xs c.args.before.now c.args.rows.now f, f.back)

pub note-requires : goal.note-requires
note-requires c =
    let (q, s, had, has, xs, f) = c.requires in
    let a = c.args.self.now in
    let before = c.args.before.now in
    let rows = c.args.rows.now in
    let b = behind q s had has a xs before rows f in
    let k : HasRoom before c.in-Ok.first a c.first_needed.new.self = subst (λ t. Looked before t a c.first_needed.new.self) c.in-Ok.is c.first_needed.ensures.looked in
    let few : length rows ≤ 65536 = omega (arith, f.few, f.sizes.task) in
    (q, s.task, xs, a.number, b, k.back q s.task xs b f.back, own_fit q s had has a xs before rows f, few)

pub returns-in-Err : goal.returns-in-Err
returns-in-Err c =
    let a = c.args.self.now in
    let before = c.args.before.now in
    let new = c.first_needed.new.self in
    let k : HasNoRoom before c.in-Err.end a new = subst (λ t. Looked before t a new) c.in-Err.is c.first_needed.ensures.looked in
    block_wide before c.args.rows.now c.in-Err.end a new k

pub returns-then-is_err : goal.returns-then-is_err
returns-then-is_err c =
    let a = c.args.self.now in
    let before = c.args.before.now in
    let mid = c.first_needed.new.self in
    let k : HasRoom before c.in-Ok.first a mid = subst (λ t. Looked before t a mid) c.in-Ok.is c.first_needed.ensures.looked in
    block_lack before c.args.rows.now c.in-Ok.first a mid k c.note.new.lasts

pub returns-else-is_err : goal.returns-else-is_err
returns-else-is_err c =
    let a = c.args.self.now in
    let before = c.args.before.now in
    let mid = c.first_needed.new.self in
    let k : HasRoom before c.in-Ok.first a mid = subst (λ t. Looked before t a mid) c.in-Ok.is c.first_needed.ensures.looked in
    let noted = pushed_ok c.note.result c.is_err.result _ c.if-is_err.false c.is_err.ensures.value c.note.ensures in
    block_counts before c.args.rows.now c.in-Ok.first a mid k c.note.new.lasts noted
