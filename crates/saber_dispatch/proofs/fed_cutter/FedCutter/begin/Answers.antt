use Rattle.std.proofs.Common.{sym, ◌∙◌, ap, length}
use Rattle.saber_dispatch.specs.Feeding.{begun_count}
use Rattle.saber_dispatch.proofs.FedBlocks.{begun_new, was_begun, was_none}
use Rattle.saber_dispatch.proofs.fed_cutter.FedCutter.begin.Goals as goal

pub returns-in-Some-clause-begins : goal.returns-in-Some-clause-begins
returns-in-Some-clause-begins c q s taken w r g = was_begun q s taken w c.args.self.now.cutter r c.args.self.now.begun c.in-Some.begun (sym c.take.ensures.value ∙ c.in-Some.is) g

pub returns-in_ok-rows-in-None-clause-begins : goal.returns-in_ok-rows-in-None-clause-begins
returns-in_ok-rows-in-None-clause-begins c q s taken w r g =
    let a = c.args.self.now in
    let k = was_none q s taken w a.cutter r a.begun (sym c.take.ensures.value ∙ c.in-None.is) g in
    begun_new q s taken w a.cutter r k c.requires c.in_ok-rows-in-None.rows c.in_ok-rows-in-None.ensures

pub returns-in-Some-clause-count : goal.returns-in-Some-clause-count
returns-in-Some-clause-count c = sym (ap begun_count (sym c.take.ensures.value ∙ c.in-Some.is))

pub returns-in_ok-rows-in-None-clause-count : goal.returns-in_ok-rows-in-None-clause-count
returns-in_ok-rows-in-None-clause-count c = ap length c.in_ok-rows-in-None.ensures ∙ sym (ap begun_count (sym c.take.ensures.value ∙ c.in-None.is))
