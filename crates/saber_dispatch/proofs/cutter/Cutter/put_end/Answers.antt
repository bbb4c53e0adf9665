use Rattle.std.proofs.Common.{◌+◌, ◌-◌, true, false, Some, refl, sym, ◌∙◌, ap, subst}
use Rattle.saber_dispatch.specs.declared.cutter.Cut.TheVariants as cuts
use Rattle.saber_dispatch.specs.declared.cutter.Cutter.{Cutter}
use Rattle.saber_dispatch.specs.Cutting.{CutTo}
use Rattle.saber_dispatch.specs.Closing.{EndStays}
use Rattle.saber_dispatch.specs.Looking.{HasRoom, HasNoRoom, Looked}
use Rattle.saber_dispatch.proofs.Faults.{wide_not_all, wide_not_fault, wide_no_fault, block_no_end, same_told}
use Rattle.saber_fragment.specs.declared.blocks.Block.{Block}
use Rattle.saber_dispatch.proofs.EndBlocks.{behind, back, wide_cuts, end_near, end_next, end_cuts}
use Rattle.saber_dispatch.proofs.cutter.Cutter.put_end.Goals as goal

pub first_needed-requires : goal.first_needed-requires
first_needed-requires c =
    let (q, s, had, has, r, k) = c.requires.cuts in
    let a = c.args.self.now in
    (q, s.task, r.rows, behind q s had has a r k c.requires.ended c.requires.due, back q s had has a r k c.requires.ended c.requires.due)

pub returns-in-Ok : goal.returns-in-Ok
returns-in-Ok c =
    let a = c.args.self.now in
    let mid = c.first_needed.new.self in
    let h : HasRoom a.mark c.in-Ok.first a mid = subst (λ t. Looked a.mark t a mid) c.in-Ok.is c.first_needed.ensures.looked in
    let block : Block = record { number = a.number; first = c.in-Ok.first; earlier = c.none.result; before = a.mark; rows = c.new.result; places = c.new-in-Ok.result; ended = true } in
    record {
      cuts = λ q s had has r k.
          let is = h.first_is q s.task r.rows (behind q s had has a r k c.requires.ended c.requires.due) (back q s had has a r k c.requires.ended c.requires.due) in
          let near = end_near q s had has a r k c.requires.ended c.requires.due c.in-Ok.first is h.near in
          subst (λ (n : Cutter). CutTo (cuts.Block block) q s had has (record n { number = a.number + 1; flush = false }) r) (sym h.same)
          (end_next q s had has a r k c.requires.ended c.requires.due block c.new.ensures refl near refl refl is c.none.ensures.before c.none.ensures.rows, end_cuts q s had has a r k c.requires.ended c.requires.due block c.new.ensures refl near mid.lasts);
      all = λ b e. ap (λ (n : Cutter). n.ended) h.same ∙ c.requires.ended;
      stays = record { reader = ap (λ (n : Cutter). n.reader) h.same; all = λ e. sym (ap (λ (n : Cutter). n.ended) h.same) ∙ e; fault = λ side e. sym (ap (λ (n : Cutter). n.ended) h.same) ∙ e };
      read = λ side e. block_no_end block _ e;
    }

pub returns-in-Err : goal.returns-in-Err
returns-in-Err c =
    let a = c.args.self.now in
    let mid = c.first_needed.new.self in
    let end = c.in-Err.end in
    let h : HasNoRoom a.mark end a mid = subst (λ t. Looked a.mark t a mid) c.in-Err.is c.first_needed.ensures.looked in
    record {
      cuts = λ q s had has r k.
          let is = h.first_is q s.task r.rows (behind q s had has a r k c.requires.ended c.requires.due) (back q s had has a r k c.requires.ended c.requires.due) in
          subst (λ (n : Cutter). CutTo (cuts.Ended end) q s had has n r) (sym h.same)
          (subst (λ e. CutTo (cuts.Ended e) q s had has (record a { lasts = mid.lasts; ended = Some e }) r) (sym h.end_is)
          (refl, wide_cuts q s had has a r k c.requires.ended c.requires.due mid.lasts h.first (a.number - h.first + 1) is refl h.wide));
      all = λ b e. absurd (block_no_end b end (sym e));
      stays = subst (λ (n : Cutter). EndStays a n) (sym h.same)
          (record { reader = refl; all = λ e. absurd (wide_not_all a.number _ end h.end_is e); fault = λ side e. absurd (wide_not_fault a.number _ end side h.end_is e) });
      read = λ side e. wide_no_fault a.number _ end side h.end_is (same_told end _ e);
    }
