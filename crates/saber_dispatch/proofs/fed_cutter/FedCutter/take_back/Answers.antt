use Rattle.std.proofs.Common.{sym, ◌∙◌, subst}
use Rattle.saber_dispatch.specs.Readings.{reading_of}
use Rattle.saber_dispatch.specs.FedReadings.{only, IsSeen}
use Rattle.saber_dispatch.specs.Feeding.{Gave}
use Rattle.saber_dispatch.specs.Cutting.{and_block}
use Rattle.saber_dispatch.proofs.TakenBlocks.{cuts_before, nothing_told}
use Rattle.saber_dispatch.proofs.fed_cutter.FedCutter.take_back.Goals as goal

pub returns : goal.returns
returns c = record {
  cuts = λ q s taken left has mark before r b number ended was next k none.
      let e = c.take_back.ensures in
      let a = c.args.self.now in
      let (start, there, cuts) = cuts_before q s taken left before.cutter r before.begun was.gave in
      let to = e.cuts q s (only taken) (only there) (only has) start r b number ended cuts next (subst (Gave q s taken has a.cutter (and_block r b)) none k.gave) in (
        to.0,
        record {
          gave = subst (Gave q s taken has c.take_back.new.self r) (sym none) to.1;
          agrees = record {
            seen = subst (λ x. IsSeen (reading_of x) mark) (sym e.reader) k.agrees.seen;
            told = λ x is. nothing_told x has mark (sym e.ended ∙ is);
          };
        },
      );
}
