use Rattle.std.proofs.Common.{◌≡◌, ℕ, Option, Some, None, Result, Ok, Err, sym, ◌∙◌, ap, subst, inl, refl, arith}
use Rattle.saber_plan.specs.declared.rows.Row.{Row}
use Rattle.saber_plan.specs.Rows.{stamp}
use Rattle.saber_rows.specs.Reader.{reader_of}
use Rattle.saber_rows.specs.declared.ends.RowEnd.{RowEnd}
use Rattle.saber_rows.specs.declared.ends.RowEnd.TheVariants.{ReadFault}
use Rattle.saber_rows.specs.declared.heads.Look.{Look}
use Rattle.saber_rows.specs.declared.heads.Look.TheVariants.{Found, Ended, Failed}
use Rattle.saber_rows.specs.Heads.{Called, head_view, Looks}
use Rattle.saber_rows.proofs.Fronts.{if_some, in_front, none_in_front, looks, stays}
use Rattle.saber_rows.proofs.heads.Head.look.Goals as goal

pub returns-then-self-clause-looks : goal.returns-then-self-clause-looks
returns-then-self-clause-looks g c side last count p =
    let h = c.args.self.now in
    let same : c.stamp_of.result ≡ stamp h.row.values = c.stamp_of.ensures ∙ ap stamp c.as_slice.ensures in
    subst (λ n. Looks (Found n) side last count (head_view h) (head_view h) (g.S.Source.left c.args.source.now) (g.S.Source.left c.args.source.now)) (sym same)
    (stays h.row (head_view h) side last count (g.S.Source.left c.args.source.now) (in_front h.full h.row c.if-self.true) p)

pub returns-in-Ok-Some-clause-looks : goal.returns-in-Ok-Some-clause-looks
returns-in-Ok-Some-clause-looks g c side last count p =
    let n = c.next.ensures in
    let old = reader_of c.args.self.now.lines in
    let new = reader_of c.next.new.self in
    let had = g.S.Source.left c.args.source.now in
    let has = g.S.Source.left c.next.new.source in
    let none = none_in_front c.args.self.now.full c.args.self.now.row c.if-self.false in
    let called : Called c.next.result old new had has = record {
      again = if_some _ _ old.answer n.again (λ a h. (h.0, ap reader_of h.1));
      moves = n.moves;
      rules = n.rules;
      answer = n.answer;
      none = n.none;
      ended = n.ended;
      refused = n.refused;
      cut = n.cut;
      memory = n.memory;
      fits = n.fits;
      ordered = n.ordered;
      last = n.last;
      rises = n.rises;
      stays = n.stays;
      counted = n.counted;
    } in
    let row = c.in-Ok-Some.row in
    let same : c.stamp_of-stamp.result ≡ stamp row.values = c.stamp_of-stamp.ensures ∙ ap stamp c.as_slice-in-Ok-Some.ensures in
    subst (λ k. Looks (Found k) side last count (head_view c.args.self.now) (record { reader = new; ahead = Some row }) had has) (sym same)
    (looks old new had has side last count (head_view c.args.self.now).ahead none p c.next.result (Ok (Some row)) (c.in-Ok-Some.is ∙ ap Ok c.in-Ok-Some.field-0-is) called)

pub returns-in-Ok-None-clause-looks : goal.returns-in-Ok-None-clause-looks
returns-in-Ok-None-clause-looks g c side last count p =
    let n = c.next.ensures in
    let old = reader_of c.args.self.now.lines in
    let new = reader_of c.next.new.self in
    let had = g.S.Source.left c.args.source.now in
    let has = g.S.Source.left c.next.new.source in
    let none = none_in_front c.args.self.now.full c.args.self.now.row c.if-self.false in
    let called : Called c.next.result old new had has = record {
      again = if_some _ _ old.answer n.again (λ a h. (h.0, ap reader_of h.1));
      moves = n.moves;
      rules = n.rules;
      answer = n.answer;
      none = n.none;
      ended = n.ended;
      refused = n.refused;
      cut = n.cut;
      memory = n.memory;
      fits = n.fits;
      ordered = n.ordered;
      last = n.last;
      rises = n.rises;
      stays = n.stays;
      counted = n.counted;
    } in
    subst (λ o. Looks Ended side last count (head_view c.args.self.now) (record { reader = new; ahead = o }) had has) (sym none)
    (looks old new had has side last count (head_view c.args.self.now).ahead none p c.next.result (Ok None) (c.in-Ok-None.is ∙ ap Ok c.in-Ok-None.field-0-is) called)

pub returns-in-Err-clause-looks : goal.returns-in-Err-clause-looks
returns-in-Err-clause-looks g c side last count p =
    let n = c.next.ensures in
    let old = reader_of c.args.self.now.lines in
    let new = reader_of c.next.new.self in
    let had = g.S.Source.left c.args.source.now in
    let has = g.S.Source.left c.next.new.source in
    let none = none_in_front c.args.self.now.full c.args.self.now.row c.if-self.false in
    let called : Called c.next.result old new had has = record {
      again = if_some _ _ old.answer n.again (λ a h. (h.0, ap reader_of h.1));
      moves = n.moves;
      rules = n.rules;
      answer = n.answer;
      none = n.none;
      ended = n.ended;
      refused = n.refused;
      cut = n.cut;
      memory = n.memory;
      fits = n.fits;
      ordered = n.ordered;
      last = n.last;
      rises = n.rises;
      stays = n.stays;
      counted = n.counted;
    } in
    subst (λ o. Looks (Failed c.in-Err.end) side last count (head_view c.args.self.now) (record { reader = new; ahead = o }) had has) (sym none)
    (looks old new had has side last count (head_view c.args.self.now).ahead none p c.next.result (Err c.in-Err.end) c.in-Err.is called)

pub returns-then-self-clause-once : goal.returns-then-self-clause-once
returns-then-self-clause-once g c = inl refl

pub returns-in-Ok-Some-clause-once : goal.returns-in-Ok-Some-clause-once
returns-in-Ok-Some-clause-once g c = c.next.ensures.once

pub returns-in-Ok-None-clause-once : goal.returns-in-Ok-None-clause-once
returns-in-Ok-None-clause-once g c = c.next.ensures.once

pub returns-in-Err-clause-once : goal.returns-in-Err-clause-once
returns-in-Err-clause-once g c = c.next.ensures.once

pub returns-then-self-clause-rules : goal.returns-then-self-clause-rules
returns-then-self-clause-rules g c = refl

pub returns-then-self-clause-good : goal.returns-then-self-clause-good
returns-then-self-clause-good g c _ = refl

pub returns-then-self-clause-reads : goal.returns-then-self-clause-reads
returns-then-self-clause-reads g c _ = refl

pub returns-then-self-clause-count : goal.returns-then-self-clause-count
returns-then-self-clause-count g c = omega arith

pub returns-in-Ok-Some-clause-rules : goal.returns-in-Ok-Some-clause-rules
returns-in-Ok-Some-clause-rules g c = c.next.ensures.rules

pub returns-in-Ok-Some-clause-count : goal.returns-in-Ok-Some-clause-count
returns-in-Ok-Some-clause-count g c = c.next.ensures.count

pub returns-in-Ok-Some-clause-reads : goal.returns-in-Ok-Some-clause-reads
returns-in-Ok-Some-clause-reads g c = c.next.ensures.reads

pub returns-in-Ok-None-clause-rules : goal.returns-in-Ok-None-clause-rules
returns-in-Ok-None-clause-rules g c = c.next.ensures.rules

pub returns-in-Ok-None-clause-count : goal.returns-in-Ok-None-clause-count
returns-in-Ok-None-clause-count g c = c.next.ensures.count

pub returns-in-Ok-None-clause-reads : goal.returns-in-Ok-None-clause-reads
returns-in-Ok-None-clause-reads g c = c.next.ensures.reads

pub returns-in-Err-clause-rules : goal.returns-in-Err-clause-rules
returns-in-Err-clause-rules g c = c.next.ensures.rules

pub returns-in-Err-clause-count : goal.returns-in-Err-clause-count
returns-in-Err-clause-count g c = c.next.ensures.count

pub returns-in-Err-clause-reads : goal.returns-in-Err-clause-reads
returns-in-Err-clause-reads g c = c.next.ensures.reads

-- ---- the count of faults

-- an answer is no fault, and what is found isn't either
no_fault : (o : Option Row) → ◌≡◌ {A = Result (Option Row) RowEnd} (Ok o) (Err ReadFault) → ⊥
no_fault o e = cc

found_one : (n : ℕ) → ◌≡◌ {A = Look} (Found n) (Failed ReadFault) → ⊥
found_one n e = cc

found_none : ◌≡◌ {A = Look} Ended (Failed ReadFault) → ⊥
found_none e = cc

-- a fault is one of the look
same_fault : (end : RowEnd) → ◌≡◌ {A = Result (Option Row) RowEnd} (Err end) (Err ReadFault) → ◌≡◌ {A = Look} (Failed end) (Failed ReadFault)
same_fault end e = let same : end ≡ ReadFault = cc in ap (λ x. Failed x) same

pub returns-in-Ok-Some-clause-cause : goal.returns-in-Ok-Some-clause-cause
returns-in-Ok-Some-clause-cause g c _ e = absurd (found_one c.stamp_of-stamp.result e)

pub returns-in-Ok-Some-clause-good : goal.returns-in-Ok-Some-clause-good
returns-in-Ok-Some-clause-good g c _ = c.next.ensures.good (λ e. no_fault c.in-Ok-Some.field-0 (sym c.in-Ok-Some.is ∙ e))

pub returns-in-Ok-None-clause-cause : goal.returns-in-Ok-None-clause-cause
returns-in-Ok-None-clause-cause g c _ e = absurd (found_none e)

pub returns-in-Ok-None-clause-good : goal.returns-in-Ok-None-clause-good
returns-in-Ok-None-clause-good g c _ = c.next.ensures.good (λ e. no_fault c.in-Ok-None.field-0 (sym c.in-Ok-None.is ∙ e))

pub returns-in-Err-clause-good : goal.returns-in-Err-clause-good
returns-in-Err-clause-good g c h = c.next.ensures.good (λ e. h (same_fault c.in-Err.end (sym c.in-Err.is ∙ e)))
