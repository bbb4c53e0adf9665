use Rattle.std.proofs.Common.{◌∙◌, ◌++◌, sym, ap, subst}
use Rattle.saber_flat.specs.Places.{Building}
use Rattle.saber_plan.specs.Sizes.{limits_of}
use Rattle.saber_dispatch.specs.Sources.{each_input}
use Rattle.saber_dispatch.specs.Readings.{reading_of}
use Rattle.saber_dispatch.specs.Filling.{prepend}
use Rattle.saber_dispatch.specs.Cutting.{Goes, CutState, fresh}
use Rattle.saber_dispatch.proofs.Fillings.{still_suits}
use Rattle.saber_dispatch.proofs.Faults.{block_no_end}
use Rattle.saber_dispatch.proofs.BlockReads.{reads_now}
use Rattle.saber_dispatch.proofs.Closings.{read_closes}
use Rattle.saber_dispatch.proofs.cutter.Cutter.read_block.Goals as goal

pub fill-filled-requires : goal.fill-filled-requires
fill-filled-requires g c =
    let (q, s, had, r, k) = c.requires.cuts in
    let now = each_input g.S.Source.left c.args.inputs.now in
    let a = c.args.self.now in
    let goes : Goes q s a r k.dropped = subst (CutState q s a r k.dropped) c.requires.goes k.state in
    record {
      begun = ap (λ (b : Building). b.begun) c.in-Ok.ensures;
      suits = still_suits (prepend (r.rows ++ k.dropped)) (fresh q (limits_of s)) (reading_of a.reader) had now k.took.moves;
      opened = goes.open_still;
      reads = (q, reads_now q s had now a r k c.requires.goes);
    }

pub close-requires : goal.close-requires
close-requires g c =
    let (q, s, had, r, k) = c.requires.cuts in
    let l = each_input g.S.Source.left in
    let a = c.args.self.now in
    let new = c.fill-filled.new in
    let f = c.fill-filled.ensures.fills q (reads_now q s had (l c.args.inputs.now) a r k c.requires.goes) in
    (q, s, had, l new.inputs, r, read_closes q s had (l c.args.inputs.now) (l new.inputs) a r c.fill-filled.result new.reader new.mark c.in-Ok.rows.rows new.rows.rows c.finish.result (ap (λ (b : Building). b.rows) c.in-Ok.ensures) c.finish.ensures k c.requires.goes f)

pub returns-clause-cuts : goal.returns-clause-cuts
returns-clause-cuts g c q s had r k =
    let l = each_input g.S.Source.left in
    let a = c.args.self.now in
    let new = c.fill-filled.new in
    let f = c.fill-filled.ensures.fills q (reads_now q s had (l c.args.inputs.now) a r k c.requires.goes) in
    c.close.ensures.cuts q s had (l new.inputs) r (read_closes q s had (l c.args.inputs.now) (l new.inputs) a r c.fill-filled.result new.reader new.mark c.in-Ok.rows.rows new.rows.rows c.finish.result (ap (λ (b : Building). b.rows) c.in-Ok.ensures) c.finish.ensures k c.requires.goes f)

pub returns-clause-cause : goal.returns-clause-cause
returns-clause-cause g c side e = c.fill-filled.ensures.cause side (c.close.ensures.read side e)

pub returns-clause-sound : goal.returns-clause-sound
returns-clause-sound g c b is side e = block_no_end b _ (sym is ∙ c.close.ensures.told side (c.close.ensures.closed.fault side e))

pub returns-clause-good : goal.returns-clause-good
returns-clause-good g c h = c.fill-filled.ensures.good (λ side e. h side (c.close.ensures.told side e))

pub returns-clause-count : goal.returns-clause-count
returns-clause-count g c = c.fill-filled.ensures.count
