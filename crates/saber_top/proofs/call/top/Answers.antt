use Rattle.std.proofs.Common.{◌≡◌, refl, sym, ◌∙◌, subst}
use Rattle.std.specs.Prelude.{true, false}
use Rattle.saber_notes.specs.declared.early.Early.TheVariants.{Usage}
use Rattle.saber_top.specs.declared.ended.TopEnd.TheVariants.{One, Before}
use Rattle.saber_notes.specs.Told.{TellsNotes}
use Rattle.saber_top.specs.Ends.{EndsBy, IsCreateEnd, top_notes}
use Rattle.saber_top.specs.Shared.{outcomes_of, parts_in}
use Rattle.saber_top.proofs.call.top.Goals as goal

pub returns-then-not-is_many : goal.returns-then-not-is_many
returns-then-not-is_many g c =
    let says = c.one_command.ensures in
    let one = sym c.is_many.ensures ∙ c.if-not-is_many.true in
    record {
      other = λ _. says.is;
      other_outs = λ _. refl;
      untouched = λ many. absurd (let clash : true ≡ false = sym many ∙ one in cc);
      kinds = λ many. absurd (let clash : true ≡ false = sym many ∙ one in cc);
      unread = λ many. absurd (let clash : true ≡ false = sym many ∙ one in cc);
      usage = λ u. absurd (let clash : One says.one.0 ≡ Before Usage = sym says.one.1 ∙ u in cc);
      comes = λ many. absurd (let clash : true ≡ false = sym many ∙ one in cc);
      holds = says.holds g.U.Out.Sink.faults;
      outs = λ k. absurd (subst (λ end. EndsBy end IsCreateEnd) says.one.1 k);
      outs_good = λ _. refl;
      status = says.status;
      notes = says.notes;
    }

pub returns : goal.returns
returns g c =
    let came = c.many_words-end.ensures in
    let many = sym c.is_many.ensures ∙ c.if-not-is_many.false in
    record {
      other = λ one. absurd (let clash : true ≡ false = sym many ∙ one in cc);
      other_outs = λ one. absurd (let clash : true ≡ false = sym many ∙ one in cc);
      untouched = λ _. (refl, refl);
      kinds = λ _. came.kinds;
      unread = λ _. came.unread;
      usage = came.usage;
      comes = λ _. came.comes;
      holds = came.holds;
      outs = came.outs;
      outs_good = came.outs_good;
      status = c.whole_status.ensures;
      notes = subst (λ status. TellsNotes g.N.Sink.written g.N.Sink.faults g.N.Sink.writes c.args.notes.now c.tell-noted.new.notes status c.tell-noted.result
          (top_notes c.many_words-end.result.end (outcomes_of (parts_in c.many_words-end.result.parts)))) (sym c.whole_status.ensures) c.tell-noted.ensures;
    }
