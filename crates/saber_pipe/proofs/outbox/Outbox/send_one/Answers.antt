use Rattle.std.proofs.Common.{◌∷◌, [], ap, sym, ◌∙◌, subst}
use Rattle.crossbeam_queue.specs.Passes.{Pass, view}
use Rattle.saber_pipe.specs.declared.items.Item.{Item}
use Rattle.saber_pipe.specs.declared.rule.Log.{Log}
use Rattle.saber_pipe.specs.Order.{mark_of, KeepsTo}
use Rattle.saber_pipe.specs.Outboxes.{sent_of, kept_of, whole_of}
use Rattle.saber_pipe.proofs.Relays.{sends, lasts}
use Rattle.saber_pipe.proofs.Marks.{front_unmarked, one_piece}
use Rattle.saber_pipe.proofs.Sendings.{first_of_kept}
use Rattle.saber_pipe.proofs.outbox.Outbox.send_one.Goals as goal

pub push_as-requires-clause-rule : goal.push_as-requires-clause-rule
push_as-requires-clause-rule g c =
    let may = first_of_kept (whole_of c.args.self.now) (sent_of c.args.self.now) (kept_of c.args.self.now) (kept_of c.take_first.new.self) c.in-Some.item c.in-Some.ensures.kept c.requires in (
      sends _ _ _ _ c.take_first.new.self.may c.take_first.new.self.unended
          (subst (λ (e : Pass Item Log). KeepsTo (view e).whole (view e).sent (c.in-Some.item ∷ [])) (sym c.in-Some.ensures.same.0) may),
      lasts _ _ c.take_first.new.self.may,
    )

pub invariant_of-self-clause-may : goal.invariant_of-self-clause-may
invariant_of-self-clause-may g c = ap (λ (u : Log). u.sends) c.in-Ok.ensures.rule ∙ c.take_first.new.self.may

pub invariant_of-self-clause-unended : goal.invariant_of-self-clause-unended
invariant_of-self-clause-unended g c = ap (λ (u : Log). mark_of u.sent) c.in-Ok.ensures.rule
    ∙ one_piece (view c.take_first.new.self.end).sent c.in-Some.item c.take_first.new.self.unended (front_unmarked (c.in-Some.item ∷ []) (kept_of c.take_first.new.self) (ap mark_of (sym c.in-Some.ensures.kept) ∙ c.args.self.now.pieces))
