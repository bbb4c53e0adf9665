use Rattle.std.proofs.Common.{◌≡◌, ◌≤◌, ◌<◌, inl, refl, sym, ◌∙◌, ap, subst, false, Ok, Some, IfOk, IfSome}
use Rattle.saber_plan.specs.Rows.{before, falls, RowFits}
use Rattle.saber_rows.specs.Reader.{reader_of, gone_count}
use Rattle.saber_rows.specs.Calls.{Moves, IsGiven, EndsBy, WantsMemory, ReadsNoMore, given_by, last_after}
use Rattle.saber_rows.specs.Turns.{HasEnough}
use Rattle.saber_rows.proofs.Chains.{moved, none_given, stands, fault_rose, faults_stay, faults_rise}
use Rattle.saber_rows.proofs.ReaderTexts.{is_next, readers_tell, of_given, refused_ends, stopped}
use Rattle.saber_rows.proofs.lines.Lines.next.Goals as goal

-- ---- a reader that stopped

pub returns-in-Some-clause-moves : goal.returns-in-Some-clause-moves
returns-in-Some-clause-moves g c = rw c.answer.ensures (none_given c.in-Some.stop _ _ _ _ (stands (reader_of c.args.self.now) (g.S.Source.left c.args.source.now)))

pub returns-in-Some-clause-rest : goal.returns-in-Some-clause-rest
returns-in-Some-clause-rest g c = readers_tell _ _ _ _ _ (returns-in-Some-clause-moves g c)

pub returns-in-Some-clause-next : goal.returns-in-Some-clause-next
returns-in-Some-clause-next g c e = absurd (stopped _ c.in-Some.stop c.in-Some.is e)

pub returns-in-Some-clause-none : goal.returns-in-Some-clause-none
returns-in-Some-clause-none g c e = absurd (stopped _ c.in-Some.stop c.in-Some.is e)

pub returns-in-Some-clause-refused : goal.returns-in-Some-clause-refused
returns-in-Some-clause-refused g c e = absurd (stopped _ c.in-Some.stop c.in-Some.is e)

-- ---- a row at the first look

pub returns-in-Some-quick_row-clause-moves : goal.returns-in-Some-quick_row-clause-moves
returns-in-Some-quick_row-clause-moves g c = moved (before c.in-Some-quick_row.row) _ _ _ c.in-Some-quick_row.ensures.some

pub returns-in-Some-quick_row-clause-rest : goal.returns-in-Some-quick_row-clause-rest
returns-in-Some-quick_row-clause-rest g c = readers_tell _ _ _ _ _ (returns-in-Some-quick_row-clause-moves g c)

pub returns-in-Some-quick_row-clause-next : goal.returns-in-Some-quick_row-clause-next
returns-in-Some-quick_row-clause-next g c _ = is_next (Ok (Some c.in-Some-quick_row.row)) _ _ _ _ (returns-in-Some-quick_row-clause-moves g c) tt

-- ---- all else

pub returns-in-None-clause-moves : goal.returns-in-None-clause-moves
returns-in-None-clause-moves g c =
    let same : c.quick_row.new.self ≡ c.args.self.now = c.quick_row.ensures.none c.in-None.is in
    subst (λ s. Moves (given_by c.advance.result) (reader_of s) (reader_of c.advance.new.self) (g.S.Source.left c.args.source.now) (g.S.Source.left c.advance.new.source)) same c.advance.ensures.moves

pub returns-in-None-clause-rest : goal.returns-in-None-clause-rest
returns-in-None-clause-rest g c = readers_tell _ _ _ _ _ (returns-in-None-clause-moves g c)

pub returns-in-None-clause-next : goal.returns-in-None-clause-next
returns-in-None-clause-next g c _ = is_next c.advance.result _ _ _ _ (returns-in-None-clause-moves g c) c.advance.ensures.ends

pub returns-in-None-clause-none : goal.returns-in-None-clause-none
returns-in-None-clause-none g c _ e = (subst (λ a. EndsBy a (reader_of c.advance.new.self)) e c.advance.ensures.ends).0

pub returns-in-None-clause-ended : goal.returns-in-None-clause-ended
returns-in-None-clause-ended g c _ e = (subst (λ a. EndsBy a (reader_of c.advance.new.self)) e c.advance.ensures.ends).1

pub returns-in-None-clause-rules : goal.returns-in-None-clause-rules
returns-in-None-clause-rules g c =
    let same : c.quick_row.new.self ≡ c.args.self.now = c.quick_row.ensures.none c.in-None.is in
    c.advance.ensures.place.rules ∙ ap (λ s. (reader_of s).rules) same

pub returns-in-None-clause-refused : goal.returns-in-None-clause-refused
returns-in-None-clause-refused g c _ = refused_ends c.advance.result _ _ (ap (λ r. r.side) (returns-in-None-clause-rules g c)) c.advance.ensures.ends

pub returns-in-None-clause-cut : goal.returns-in-None-clause-cut
returns-in-None-clause-cut g c _ e = subst (λ a. EndsBy a (reader_of c.advance.new.self)) e c.advance.ensures.ends

pub returns-in-None-clause-memory : goal.returns-in-None-clause-memory
returns-in-None-clause-memory g c _ e = subst WantsMemory (returns-in-None-clause-rules g c) (subst (λ a. EndsBy a (reader_of c.advance.new.self)) e c.advance.ensures.ends)

pub returns-in-None-clause-fits : goal.returns-in-None-clause-fits
returns-in-None-clause-fits g c =
    let old = reader_of c.quick_row.new.self in
    let new = reader_of c.advance.new.self in
    let same : c.quick_row.new.self ≡ c.args.self.now = c.quick_row.ensures.none c.in-None.is in
    subst (λ s. IfOk c.advance.result (λ o. IfSome o (RowFits (reader_of s).rules.side (reader_of s).rules.columns))) same
    (of_given (λ row. IsGiven row old new) (RowFits old.rules.side old.rules.columns) c.advance.result (λ row given. given.fits) c.advance.ensures.given)

pub returns-in-None-clause-ordered : goal.returns-in-None-clause-ordered
returns-in-None-clause-ordered g c =
    let old = reader_of c.quick_row.new.self in
    let new = reader_of c.advance.new.self in
    let same : c.quick_row.new.self ≡ c.args.self.now = c.quick_row.ensures.none c.in-None.is in
    subst (λ s. IfOk c.advance.result (λ o. IfSome o (λ row. falls (reader_of s).last row.values ≡ false))) same
    (of_given (λ row. IsGiven row old new) (λ row. falls old.last row.values ≡ false) c.advance.result (λ row given. given.ordered) c.advance.ensures.given)

pub returns-in-None-clause-rises : goal.returns-in-None-clause-rises
returns-in-None-clause-rises g c =
    let old = reader_of c.quick_row.new.self in
    let new = reader_of c.advance.new.self in
    let same : c.quick_row.new.self ≡ c.args.self.now = c.quick_row.ensures.none c.in-None.is in
    subst (λ s. IfOk c.advance.result (λ o. IfSome o (λ row. gone_count (reader_of s) < gone_count new))) same
    (of_given (λ row. IsGiven row old new) (λ row. gone_count old < gone_count new) c.advance.result (λ row given. given.rises) c.advance.ensures.given)

pub returns-in-None-clause-last : goal.returns-in-None-clause-last
returns-in-None-clause-last g c =
    let same : c.quick_row.new.self ≡ c.args.self.now = c.quick_row.ensures.none c.in-None.is in
    c.advance.ensures.place.last ∙ ap (λ s. last_after (reader_of s).last c.advance.result) same

pub returns-in-None-clause-stays : goal.returns-in-None-clause-stays
returns-in-None-clause-stays g c =
    let same : c.quick_row.new.self ≡ c.args.self.now = c.quick_row.ensures.none c.in-None.is in
    subst (λ s. gone_count (reader_of s) ≤ gone_count (reader_of c.advance.new.self)) same c.advance.ensures.place.stays

pub returns-in-None-clause-reads : goal.returns-in-None-clause-reads
returns-in-None-clause-reads g c h =
    let same : c.quick_row.new.self ≡ c.args.self.now = c.quick_row.ensures.none c.in-None.is in
    c.advance.ensures.reads (subst (λ s. HasEnough (reader_of s)) (sym same) h)

pub returns-in-None-clause-answer : goal.returns-in-None-clause-answer
returns-in-None-clause-answer g c _ = c.advance.ensures.place.answer

pub returns-in-None-clause-cause : goal.returns-in-None-clause-cause
returns-in-None-clause-cause g c _ e = fault_rose c.advance.result _ _ c.advance.ensures.faults e

pub returns-in-None-clause-good : goal.returns-in-None-clause-good
returns-in-None-clause-good g c good = faults_stay c.advance.result _ _ c.advance.ensures.faults good

pub returns-in-None-clause-count : goal.returns-in-None-clause-count
returns-in-None-clause-count g c = faults_rise c.advance.result _ _ c.advance.ensures.faults

pub returns-in-Some-clause-once : goal.returns-in-Some-clause-once
returns-in-Some-clause-once g c = inl refl

pub returns-in-Some-quick_row-clause-once : goal.returns-in-Some-quick_row-clause-once
returns-in-Some-quick_row-clause-once g c = inl refl

pub returns-in-None-clause-once : goal.returns-in-None-clause-once
returns-in-None-clause-once g c =
    let same : c.quick_row.new.self ≡ c.args.self.now = c.quick_row.ensures.none c.in-None.is in
    subst (λ s. ReadsNoMore g.S.Source.left c.args.source.now c.advance.new.source (reader_of s)) same c.advance.ensures.once
