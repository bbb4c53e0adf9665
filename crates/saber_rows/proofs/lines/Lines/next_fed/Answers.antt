use Rattle.std.proofs.Common.{◌∙◌, sym, ap, subst, IfSome, arith}
use Rattle.saber_rows.specs.Reader.{reader_of}
use Rattle.saber_rows.specs.Calls.{EndsBy, WantsMemory}
use Rattle.saber_rows.specs.FedTurns.{answer_in}
use Rattle.saber_rows.proofs.ReaderTexts.{readers_tell}
use Rattle.saber_rows.proofs.FedChains.{fed_fault, fed_next, fed_refused, fed_waits}
use Rattle.saber_rows.proofs.lines.Lines.next_fed.Goals as goal

pub returns-clause-again : goal.returns-clause-again
returns-clause-again g c = rw c.fed_row.ensures c.answer_fed-answer.ensures.again

pub returns-clause-answer : goal.returns-clause-answer
returns-clause-answer g c goes = rw c.fed_row.ensures (c.answer_fed-answer.ensures.ends goes).kept

pub returns-clause-moves : goal.returns-clause-moves
returns-clause-moves g c = rw c.fed_row.ensures c.answer_fed-answer.ensures.call.moves

pub returns-clause-rest : goal.returns-clause-rest
returns-clause-rest g c = readers_tell _ _ _ _ _ (returns-clause-moves g c)

pub returns-clause-rules : goal.returns-clause-rules
returns-clause-rules g c = c.answer_fed-answer.ensures.call.rules

pub returns-clause-stands : goal.returns-clause-stands
returns-clause-stands g c = c.answer_fed-answer.ensures.stands

pub returns-clause-dry : goal.returns-clause-dry
returns-clause-dry g c e = c.answer_fed-answer.ensures.call.dry (sym c.fed_row.ensures ∙ e)

pub returns-clause-waits : goal.returns-clause-waits
returns-clause-waits g c goes none =
    let k = c.answer_fed-answer.ensures in
    rw c.fed_row.ensures (fed_waits _ (reader_of c.answer_fed-answer.new.self) _ (g.F.Feed.waiting c.answer_fed-answer.new.feed) _ none c.answer_fed-answer.result k.call (k.ends goes))

pub returns-clause-next : goal.returns-clause-next
returns-clause-next g c goes =
    let k = c.answer_fed-answer.ensures in
    rw c.fed_row.ensures (fed_next c.answer_fed-answer.result _ _ _ _ k.call.moves (k.ends goes).ends)

pub returns-clause-none : goal.returns-clause-none
returns-clause-none g c goes e =
    (subst (λ a. IfSome a (λ x. EndsBy x (reader_of c.answer_fed-answer.new.self))) (sym c.fed_row.ensures ∙ e) (c.answer_fed-answer.ensures.ends goes).ends).0

pub returns-clause-ended : goal.returns-clause-ended
returns-clause-ended g c goes e =
    (subst (λ a. IfSome a (λ x. EndsBy x (reader_of c.answer_fed-answer.new.self))) (sym c.fed_row.ensures ∙ e) (c.answer_fed-answer.ensures.ends goes).ends).1

pub returns-clause-marked : goal.returns-clause-marked
returns-clause-marked g c = c.answer_fed-answer.ensures.call.marked

pub returns-clause-refused : goal.returns-clause-refused
returns-clause-refused g c goes =
    let k = c.answer_fed-answer.ensures in
    fed_refused c.answer_fed-answer.result c.fed_row.result _ _ c.fed_row.ensures (ap (λ r. r.side) k.call.rules) (k.ends goes).ends

pub returns-clause-known : goal.returns-clause-known
returns-clause-known g c goes = rw c.fed_row.ensures (c.answer_fed-answer.ensures.ends goes).known

pub returns-clause-cut : goal.returns-clause-cut
returns-clause-cut g c goes e =
    let k = c.answer_fed-answer.ensures.ends goes in
    let own = sym c.fed_row.ensures ∙ ap answer_in e in
    ((k.cut own).0, (k.cut own).1, subst (λ a. IfSome a (λ x. EndsBy x (reader_of c.answer_fed-answer.new.self))) own k.ends)

pub returns-clause-cause : goal.returns-clause-cause
returns-clause-cause g c goes e = c.answer_fed-answer.ensures.cause goes (sym c.fed_row.ensures ∙ ap answer_in e)

pub returns-clause-memory : goal.returns-clause-memory
returns-clause-memory g c goes e =
    let k = c.answer_fed-answer.ensures in
    subst WantsMemory k.call.rules (subst (λ a. IfSome a (λ x. EndsBy x (reader_of c.answer_fed-answer.new.self))) (sym c.fed_row.ensures ∙ ap answer_in e) (k.ends goes).ends)

pub returns-clause-count : goal.returns-clause-count
returns-clause-count g c = c.answer_fed-answer.ensures.count

pub returns-clause-good : goal.returns-clause-good
returns-clause-good g c good = c.answer_fed-answer.ensures.good (λ e. good (fed_fault c.fed_row.result (c.fed_row.ensures ∙ e)))

pub returns-clause-given : goal.returns-clause-given
returns-clause-given g c = rw c.fed_row.ensures c.answer_fed-answer.ensures.call.given

pub returns-clause-last : goal.returns-clause-last
returns-clause-last g c = rw c.fed_row.ensures c.answer_fed-answer.ensures.call.last

pub returns-clause-stays : goal.returns-clause-stays
returns-clause-stays g c = c.answer_fed-answer.ensures.call.stays

pub returns-clause-counted : goal.returns-clause-counted
returns-clause-counted g c = omega (arith, c.answer_fed-answer.new.self.counted)

pub returns-clause-reads : goal.returns-clause-reads
returns-clause-reads g c = c.answer_fed-answer.ensures.reads
