use Rattle.std.proofs.Common.{◌≡◌, Some, None, sym, ◌∙◌, ap, subst, length}
use Rattle.saber_plan.specs.Inputs.{going_on}
use Rattle.saber_dispatch.specs.declared.ends.End.TheVariants.{AllRead, ReadFault, NoMemory}
use Rattle.saber_dispatch.specs.declared.cutter.Cut.TheVariants.{Ended}
use Rattle.saber_dispatch.specs.Cutting.{CutTo, stops, is_due}
use Rattle.saber_dispatch.proofs.Faults.{fault_stops, fault_goes_on, lack_stops, lack_goes_on}
use Rattle.saber_dispatch.proofs.Closings.{closed_rows, closed_filled, closed_ended, ended_is}
use Rattle.saber_dispatch.proofs.cutter.Cutter.close.Goals as goal

pub put_block-requires : goal.put_block-requires
put_block-requires c =
    let (q, s, had, has, r, k) = c.requires in
    let h : stops c.args.filled (length c.args.rows) ≡ None = sym (c.stops.ensures ∙ ap (stops c.args.filled) c.len.ensures) ∙ c.in-None.is in
    (q, s, had, has, r.rows, closed_filled q s had has c.args.self.now r c.args.filled c.args.before c.args.rows k c.ended_by-self.result c.ended_by-self.ensures h)

pub stop_at-requires-clause-ended : goal.stop_at-requires-clause-ended
stop_at-requires-clause-ended c =
    let (q, s, had, has, r, k) = c.requires in
    let h : stops c.args.filled (length c.args.rows) ≡ Some c.in-Some.end = sym (c.stops.ensures ∙ ap (stops c.args.filled) c.len.ensures) ∙ c.in-Some.is in
    (closed_ended q s had has c.args.self.now r c.args.filled c.args.before c.args.rows k c.ended_by-self.result c.in-Some.end c.ended_by-self.ensures h).0

pub stop_at-requires-clause-cuts : goal.stop_at-requires-clause-cuts
stop_at-requires-clause-cuts c =
    let (q, s, had, has, r, k) = c.requires in
    let h : stops c.args.filled (length c.args.rows) ≡ Some c.in-Some.end = sym (c.stops.ensures ∙ ap (stops c.args.filled) c.len.ensures) ∙ c.in-Some.is in
    (q, s, had, has, r, (closed_ended q s had has c.args.self.now r c.args.filled c.args.before c.args.rows k c.ended_by-self.result c.in-Some.end c.ended_by-self.ensures h).1)

pub returns-in-Some-clause-cuts : goal.returns-in-Some-clause-cuts
returns-in-Some-clause-cuts c q s had has r k =
    let h : stops c.args.filled (length c.args.rows) ≡ Some c.in-Some.end = sym (c.stops.ensures ∙ ap (stops c.args.filled) c.len.ensures) ∙ c.in-Some.is in
    c.stop_at.ensures.cuts q s had has r (closed_ended q s had has c.args.self.now r c.args.filled c.args.before c.args.rows k c.ended_by-self.result c.in-Some.end c.ended_by-self.ensures h).1

pub returns-in-None-clause-cuts : goal.returns-in-None-clause-cuts
returns-in-None-clause-cuts c q s had has r k =
    let h : stops c.args.filled (length c.args.rows) ≡ None = sym (c.stops.ensures ∙ ap (stops c.args.filled) c.len.ensures) ∙ c.in-None.is in
    let cut = c.put_block.ensures.cuts q s had has r.rows (closed_filled q s had has c.args.self.now r c.args.filled c.args.before c.args.rows k c.ended_by-self.result c.ended_by-self.ensures h) in
    let rows_alone : r ≡ going_on r.rows = closed_rows q s had has c.args.self.now r c.args.filled c.args.before c.args.rows k in
    subst (λ i. CutTo c.put_block.result q s had has c.put_block.new.self i) (sym rows_alone) cut

pub returns-in-Some-clause-closed : goal.returns-in-Some-clause-closed
returns-in-Some-clause-closed c = record {
  reader = c.stop_at.ensures.stays.reader;
  all = λ e. ended_is c.args.filled AllRead (sym c.ended_by-self.ensures ∙ c.stop_at.ensures.stays.all e);
  fault = λ side e. ended_is c.args.filled (ReadFault side) (sym c.ended_by-self.ensures ∙ c.stop_at.ensures.stays.fault side e);
}

pub returns-in-None-clause-closed : goal.returns-in-None-clause-closed
returns-in-None-clause-closed c = record {
  reader = c.put_block.ensures.stays.reader;
  all = λ e. ended_is c.args.filled AllRead (sym c.ended_by-self.ensures ∙ c.put_block.ensures.stays.all e);
  fault = λ side e. ended_is c.args.filled (ReadFault side) (sym c.ended_by-self.ensures ∙ c.put_block.ensures.stays.fault side e);
}

pub returns-in-Some-clause-read : goal.returns-in-Some-clause-read
returns-in-Some-clause-read c side e =
    let (q, s, had, has, r, k) = c.requires in
    let h : stops c.args.filled (length c.args.rows) ≡ Some c.in-Some.end = sym (c.stops.ensures ∙ ap (stops c.args.filled) c.len.ensures) ∙ c.in-Some.is in
    let is = (closed_ended q s had has c.args.self.now r c.args.filled c.args.before c.args.rows k c.ended_by-self.result c.in-Some.end c.ended_by-self.ensures h).0 in
    ended_is c.args.filled (ReadFault side) (sym c.ended_by-self.ensures ∙ is ∙ ap (λ x. Some x) (c.stop_at.ensures.read side e))

pub returns-in-None-clause-read : goal.returns-in-None-clause-read
returns-in-None-clause-read c side e = absurd (c.put_block.ensures.read side e)

pub returns-in-Some-clause-told : goal.returns-in-Some-clause-told
returns-in-Some-clause-told c side f =
    let h : stops c.args.filled (length c.args.rows) ≡ Some c.in-Some.end = sym (c.stops.ensures ∙ ap (stops c.args.filled) c.len.ensures) ∙ c.in-Some.is in
    let end : c.in-Some.end ≡ ReadFault side = fault_stops c.args.filled (length c.args.rows) c.in-Some.end side f h in
    (c.stop_at.ensures.again (ap (is_due c.args.self.now.flush c.args.self.now.number) end)).0 ∙ ap (λ x. Ended x) end

pub returns-in-None-clause-told : goal.returns-in-None-clause-told
returns-in-None-clause-told c side f =
    let h : stops c.args.filled (length c.args.rows) ≡ None = sym (c.stops.ensures ∙ ap (stops c.args.filled) c.len.ensures) ∙ c.in-None.is in
    absurd (fault_goes_on c.args.filled (length c.args.rows) side f h)

pub returns-in-Some-clause-lack : goal.returns-in-Some-clause-lack
returns-in-Some-clause-lack c f =
    let h : stops c.args.filled (length c.args.rows) ≡ Some c.in-Some.end = sym (c.stops.ensures ∙ ap (stops c.args.filled) c.len.ensures) ∙ c.in-Some.is in
    let end : c.in-Some.end ≡ NoMemory = lack_stops c.args.filled (length c.args.rows) c.in-Some.end f h in
    (c.stop_at.ensures.again (ap (is_due c.args.self.now.flush c.args.self.now.number) end)).0 ∙ ap (λ x. Ended x) end

pub returns-in-None-clause-lack : goal.returns-in-None-clause-lack
returns-in-None-clause-lack c f =
    let h : stops c.args.filled (length c.args.rows) ≡ None = sym (c.stops.ensures ∙ ap (stops c.args.filled) c.len.ensures) ∙ c.in-None.is in
    absurd (lack_goes_on c.args.filled (length c.args.rows) f h)
