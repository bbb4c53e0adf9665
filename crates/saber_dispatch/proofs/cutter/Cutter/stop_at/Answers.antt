use Rattle.std.proofs.Common.{◌≡◌, true, Some, refl, sym, ◌∙◌, ap, subst}
use Rattle.saber_dispatch.specs.declared.ends.End.TheVariants.{AllRead}
use Rattle.saber_dispatch.specs.Cutting.{is_due}
use Rattle.saber_dispatch.proofs.Faults.{block_no_end, same_told, due_all, not_due, told_as}
use Rattle.saber_dispatch.proofs.cutter.Cutter.stop_at.Goals as goal

pub put_end-requires : goal.put_end-requires
put_end-requires c =
    let a = c.args.self.now in
    let due : is_due a.flush a.number c.args.end ≡ true = sym c.is_due.ensures ∙ c.if-is_due.true in
    let all : c.args.end ≡ AllRead = due_all a.flush a.number c.args.end due in
    record {
      ended = c.requires.ended ∙ ap (λ e. Some e) all;
      due = subst (λ e. is_due a.flush a.number e ≡ true) all due;
      cuts = c.requires.cuts;
    }

pub returns-then-is_due : goal.returns-then-is_due
returns-then-is_due c =
    let a = c.args.self.now in
    record {
      cuts = c.put_end.ensures.cuts;
      all = c.put_end.ensures.all;
      stays = c.put_end.ensures.stays;
      read = λ side e. absurd (c.put_end.ensures.read side e);
      again = λ h. absurd (not_due a.flush a.number c.args.end (sym c.is_due.ensures ∙ c.if-is_due.true) h);
    }

pub returns-else-is_due : goal.returns-else-is_due
returns-else-is_due c =
    let a = c.args.self.now in
    record {
      cuts = λ q s had has r k. (told_as a.flush a.number a.ended c.args.end c.requires.ended (sym c.is_due.ensures ∙ c.if-is_due.false), k);
      all = λ b e. absurd (block_no_end b c.args.end (sym e));
      stays = record { reader = refl; all = λ e. e; fault = λ side e. e };
      read = λ side e. same_told c.args.end _ e;
      again = λ h. (refl, refl);
    }
