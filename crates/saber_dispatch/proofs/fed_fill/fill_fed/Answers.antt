use Rattle.std.proofs.Common.{◌≡◌, ◌<◌, ◌++◌, ◌∷◌, [], length, ◌∙◌, refl, sym, ap, subst, arith}
use Rattle.saber_plan.specs.declared.rows.Row.{Row}
use Rattle.saber_plan.specs.Rows.{Read, before, stamp}
use Rattle.saber_plan.specs.Windows.{step_mark}
use Rattle.saber_dispatch.specs.declared.ends.End.TheVariants.{ReadFault}
use Rattle.saber_dispatch.specs.declared.fed_reader.Got.{Got}
use Rattle.saber_dispatch.specs.Readings.{reading_of, NextRow, NextNone}
use Rattle.saber_dispatch.specs.Filling.{Filling}
use Rattle.saber_dispatch.specs.FedReadings.{only, known_of, KnownStep, GotNext, NextDry, NothingWaits, GotTold, EndTold}
use Rattle.saber_dispatch.proofs.Fillings.{filling_reads, filling_more, filled_none, filled_lack, filled_all, small, pushed_ok}
use Rattle.saber_dispatch.proofs.FedFillings.{filling_dry, filling_suits, one_longer, as_part, row_not_end}
use Rattle.saber_window.proofs.Stamps.{stamps_fit}
use Rattle.saber_dispatch.proofs.fed_fill.fill_fed.Goals as goal

pub taking-init : goal.taking-init
taking-init g c = record {
  filling = λ q m first had f. f;
  few = c.requires.few;
  opened = c.requires.opened;
  seen = c.requires.seen;
  short = λ m e. (e, refl);
  same = refl;
  taken = refl;
  mark = refl;
}

pub next_fed-requires : goal.next_fed-requires
next_fed-requires g c =
    let (q, m, first, had, f0) = c.requires.filling in
    let f = c.taking.invariant.filling q m first had f0 in
    filling_suits (length c.taking.rows) q m c.taking.mark first (reading_of c.taking.reader) (reading_of c.taking.reader) had (only (g.F.Feed.waiting c.taking.feed)) (only (g.F.Feed.waiting c.taking.feed)) [] c.taking.rows f

pub step_mark-requires-clause-left : goal.step_mark-requires-clause-left
step_mark-requires-clause-left g c =
    let (q, m, first, had, f0) = c.requires.filling in
    let f = c.taking.invariant.filling q m first had f0 in
    let s = small q c.taking.mark (reading_of c.taking.reader) (filling_reads (length c.taking.rows) q m c.taking.mark first (reading_of c.taking.reader) had (only (g.F.Feed.waiting c.taking.feed)) [] c.taking.rows f) in
    omega (arith, s.0)

pub step_mark-requires-clause-right : goal.step_mark-requires-clause-right
step_mark-requires-clause-right g c =
    let (q, m, first, had, f0) = c.requires.filling in
    let f = c.taking.invariant.filling q m first had f0 in
    let s = small q c.taking.mark (reading_of c.taking.reader) (filling_reads (length c.taking.rows) q m c.taking.mark first (reading_of c.taking.reader) had (only (g.F.Feed.waiting c.taking.feed)) [] c.taking.rows f) in
    omega (arith, s.1)

pub step_mark-requires-clause-time : goal.step_mark-requires-clause-time
step_mark-requires-clause-time g c =
    let w = g.F.Feed.waiting in
    let (q, m, first, had, f0) = c.requires.filling in
    let f = c.taking.invariant.filling q m first had f0 in
    let r = filling_reads (length c.taking.rows) q m c.taking.mark first (reading_of c.taking.reader) had (only (w c.taking.feed)) [] c.taking.rows f in
    let n : NextRow q c.taking.mark c.in-Row.row (reading_of c.taking.reader) (reading_of c.next_fed.new.self) (only (w c.taking.feed)) (only (w c.next_fed.new.feed)) =
    subst (λ (a : Got). GotNext q c.taking.mark a (reading_of c.taking.reader) (reading_of c.next_fed.new.self) (only (w c.taking.feed)) (only (w c.next_fed.new.feed))) c.in-Row.is (c.next_fed.ensures.step q c.taking.mark r) in
    omega (arith, stamps_fit _ _ c.in-Row.row n.fits.fits, ap (λ (x : Row). stamp x.values) c.of.ensures)

pub taking-preserved : goal.taking-preserved
taking-preserved g c =
    let w = g.F.Feed.waiting in
    let inv = c.taking.invariant in
    let old = reading_of c.taking.reader in
    let new = reading_of c.next_fed.new.self in
    let had1 = only (w c.taking.feed) in
    let has1 = only (w c.next_fed.new.feed) in
    let e : c.push.new.rows ≡ c.taking.rows ++ c.in-Row.row ∷ [] = pushed_ok c.push.result c.is_err.result _ c.if-is_err.false c.is_err.ensures.value c.push.ensures in
    let longer = one_longer c.taking.rows c.push.new.rows c.in-Row.row e in
    let (q0, m0, first0, had0, f00) = c.requires.filling in
    let r0 = filling_reads (length c.taking.rows) q0 m0 c.taking.mark first0 old had0 had1 [] c.taking.rows (inv.filling q0 m0 first0 had0 f00) in
    let n0 : NextRow q0 c.taking.mark c.in-Row.row old new had1 has1 = subst (λ (a : Got). GotNext q0 c.taking.mark a old new had1 has1) c.in-Row.is (c.next_fed.ensures.step q0 c.taking.mark r0) in
    record {
      filling = λ q m first had f0.
          let f = inv.filling q m first had f0 in
          let r = filling_reads (length c.taking.rows) q m c.taking.mark first old had had1 [] c.taking.rows f in
          let n : NextRow q c.taking.mark c.in-Row.row old new had1 has1 = subst (λ (a : Got). GotNext q c.taking.mark a old new had1 has1) c.in-Row.is (c.next_fed.ensures.step q c.taking.mark r) in
          subst (λ k. Filling k q m c.step_mark.result first new had has1 [] c.push.new.rows) (sym longer)
          (filling_more (length c.taking.rows) q m c.taking.mark first old new had had1 has1 [] c.taking.rows f c.step_mark.result c.push.new.rows c.in-Row.row n (c.step_mark.ensures ∙ ap (step_mark c.taking.mark) c.of.ensures) e);
      few = omega (arith, longer, c.taking-test.true, c.len.ensures);
      opened = n0.open_still;
      short = λ m e.
          let h = inv.short m e in
          let left : known_of old (w c.taking.feed) ≡ before c.in-Row.row (known_of new (w c.next_fed.new.feed)) =
          subst (λ (a : Got). KnownStep a (known_of old (w c.taking.feed)) (known_of new (w c.next_fed.new.feed))) c.in-Row.is (c.next_fed.ensures.known inv.opened inv.seen (inv.mark ∙ m)) in
          let count = ap (λ (x : Read). length x.rows) left in
          (sym (ap (λ (x : Read). x.end) left) ∙ h.0, omega (arith, longer, count, h.1));
      seen = λ s. c.next_fed.ensures.stands.1 ∙ c.next_fed.ensures.seen inv.seen s;
      same = c.next_fed.ensures.good (λ side h. row_not_end c.in-Row.row (ReadFault side) (sym c.in-Row.is ∙ h)) ∙ inv.same;
      taken = c.next_fed.ensures.stands.0 ∙ inv.taken;
      mark = c.next_fed.ensures.stands.1 ∙ inv.mark;
    }

pub returns-then-is_err-clause-fills : goal.returns-then-is_err-clause-fills
returns-then-is_err-clause-fills g c q m first had f0 =
    let w = g.F.Feed.waiting in
    let old = reading_of c.taking.reader in
    let new = reading_of c.next_fed.new.self in
    let had1 = only (w c.taking.feed) in
    let has1 = only (w c.next_fed.new.feed) in
    let f = c.taking.invariant.filling q m first had f0 in
    let r = filling_reads (length c.taking.rows) q m c.taking.mark first old had had1 [] c.taking.rows f in
    let n : NextRow q c.taking.mark c.in-Row.row old new had1 has1 = subst (λ (a : Got). GotNext q c.taking.mark a old new had1 has1) c.in-Row.is (c.next_fed.ensures.step q c.taking.mark r) in
    let less : length c.taking.rows < c.args.size = omega (arith, c.taking-test.true, c.len.ensures) in
    filled_lack (length c.taking.rows) q m c.taking.mark first old new had had1 has1 [] c.taking.rows f c.args.size c.step_mark.result c.push.new.rows c.in-Row.row less n (c.step_mark.ensures ∙ ap (step_mark c.taking.mark) c.of.ensures)

pub returns-in-Dry-clause-fills : goal.returns-in-Dry-clause-fills
returns-in-Dry-clause-fills g c q m first had f0 =
    let w = g.F.Feed.waiting in
    let old = reading_of c.taking.reader in
    let new = reading_of c.next_fed.new.self in
    let had1 = only (w c.taking.feed) in
    let has1 = only (w c.next_fed.new.feed) in
    let f = c.taking.invariant.filling q m first had f0 in
    let r = filling_reads (length c.taking.rows) q m c.taking.mark first old had had1 [] c.taking.rows f in
    let n : NextDry q c.taking.mark old new had1 has1 = subst (λ (a : Got). GotNext q c.taking.mark a old new had1 has1) c.in-Dry.is (c.next_fed.ensures.step q c.taking.mark r) in
    record {
      filling = filling_dry (length c.taking.rows) q m c.taking.mark first old new had had1 has1 [] c.taking.rows f n;
      few = omega (arith, c.taking-test.true, c.len.ensures);
      needs = n.needs;
      open_still = n.open_still;
    }

pub returns-in-Ended-clause-fills : goal.returns-in-Ended-clause-fills
returns-in-Ended-clause-fills g c q m first had f0 =
    let w = g.F.Feed.waiting in
    let old = reading_of c.taking.reader in
    let new = reading_of c.next_fed.new.self in
    let had1 = only (w c.taking.feed) in
    let has1 = only (w c.next_fed.new.feed) in
    let f = c.taking.invariant.filling q m first had f0 in
    let r = filling_reads (length c.taking.rows) q m c.taking.mark first old had had1 [] c.taking.rows f in
    let n : NextNone q c.taking.mark c.in-Ended.end old new had1 has1 = subst (λ (a : Got). GotNext q c.taking.mark a old new had1 has1) c.in-Ended.is (c.next_fed.ensures.step q c.taking.mark r) in
    let less : length c.taking.rows < c.args.size = omega (arith, c.taking-test.true, c.len.ensures) in
    filled_none (length c.taking.rows) q m c.taking.mark first old new had had1 has1 [] c.taking.rows f c.args.size c.in-Ended.end less n

pub returns-clause-fills : goal.returns-clause-fills
returns-clause-fills g c q m first had f0 =
    let f = c.taking.invariant.filling q m first had f0 in
    let same : length c.taking.rows ≡ c.args.size = omega (arith, c.taking-test.false, c.len.ensures, c.taking.invariant.few) in
    let here = only (g.F.Feed.waiting c.taking.feed) in
    filled_all c.args.size tt q m c.taking.mark first (reading_of c.taking.reader) had here [] c.taking.rows
    (subst (λ k. Filling k q m c.taking.mark first (reading_of c.taking.reader) had here [] c.taking.rows) same f) c.taking.invariant.opened

pub returns-in-Ended-clause-seen : goal.returns-in-Ended-clause-seen
returns-in-Ended-clause-seen g c s = c.next_fed.ensures.stands.1 ∙ c.next_fed.ensures.seen c.taking.invariant.seen s

pub returns-in-Ended-clause-told : goal.returns-in-Ended-clause-told
returns-in-Ended-clause-told g c =
    let w = g.F.Feed.waiting c.next_fed.new.feed in
    let before = g.F.Feed.mark c.taking.feed in
    let told = subst (λ (a : Got). GotTold a w before) c.in-Ended.is (c.next_fed.ensures.told c.taking.invariant.opened c.taking.invariant.seen) in
    subst (λ k. EndTold c.in-Ended.end w k) (sym c.next_fed.ensures.stands.1) told

pub returns-in-Ended-clause-good : goal.returns-in-Ended-clause-good
returns-in-Ended-clause-good g c h = c.next_fed.ensures.good (λ side e. h side (as_part c.in-Ended.end (ReadFault side) (sym c.in-Ended.is ∙ e))) ∙ c.taking.invariant.same

pub returns-in-Ended-clause-short : goal.returns-in-Ended-clause-short
returns-in-Ended-clause-short g c h =
    let w = g.F.Feed.waiting in
    let inv = c.taking.invariant in
    let old = known_of (reading_of c.taking.reader) (w c.taking.feed) in
    let new = known_of (reading_of c.next_fed.new.self) (w c.next_fed.new.feed) in
    subst (λ (a : Got). KnownStep a old new) c.in-Ended.is (c.next_fed.ensures.known inv.opened inv.seen (inv.mark ∙ h.unmarked)) (inv.short h.unmarked h.goes).0

pub returns-clause-short : goal.returns-clause-short
returns-clause-short g c f =
    let h = (c.taking.invariant.short f.unmarked f.goes).1 in
    let same : length c.taking.rows ≡ c.args.size = omega (arith, c.taking-test.false, c.len.ensures, c.taking.invariant.few) in
    absurd (omega (arith, f.few, h, same))

-- ---- what the feed did

pub returns-then-is_err-clause-seen : goal.returns-then-is_err-clause-seen
returns-then-is_err-clause-seen g c s = c.next_fed.ensures.stands.1 ∙ c.next_fed.ensures.seen c.taking.invariant.seen s

pub returns-then-is_err-clause-good : goal.returns-then-is_err-clause-good
returns-then-is_err-clause-good g c h = c.next_fed.ensures.good (λ side e. row_not_end c.in-Row.row (ReadFault side) (sym c.in-Row.is ∙ e)) ∙ c.taking.invariant.same

pub returns-then-is_err-clause-count : goal.returns-then-is_err-clause-count
returns-then-is_err-clause-count g c = omega (arith, c.taking.invariant.same, c.next_fed.ensures.count)

pub returns-then-is_err-clause-stands : goal.returns-then-is_err-clause-stands
returns-then-is_err-clause-stands g c = (c.next_fed.ensures.stands.0 ∙ c.taking.invariant.taken, c.next_fed.ensures.stands.1 ∙ c.taking.invariant.mark)

pub returns-in-Dry-clause-seen : goal.returns-in-Dry-clause-seen
returns-in-Dry-clause-seen g c s = c.next_fed.ensures.stands.1 ∙ c.next_fed.ensures.seen c.taking.invariant.seen s

pub returns-in-Dry-clause-told : goal.returns-in-Dry-clause-told
returns-in-Dry-clause-told g c =
    let w = g.F.Feed.waiting c.next_fed.new.feed in
    let told = subst (λ (a : Got). GotTold a w (g.F.Feed.mark c.taking.feed)) c.in-Dry.is (c.next_fed.ensures.told c.taking.invariant.opened c.taking.invariant.seen) in
    subst (NothingWaits w) (sym c.next_fed.ensures.stands.1) told

pub returns-in-Dry-clause-count : goal.returns-in-Dry-clause-count
returns-in-Dry-clause-count g c = omega (arith, c.taking.invariant.same, c.next_fed.ensures.count)

pub returns-in-Dry-clause-stands : goal.returns-in-Dry-clause-stands
returns-in-Dry-clause-stands g c = (c.next_fed.ensures.stands.0 ∙ c.taking.invariant.taken, c.next_fed.ensures.stands.1 ∙ c.taking.invariant.mark)

pub returns-in-Ended-clause-count : goal.returns-in-Ended-clause-count
returns-in-Ended-clause-count g c = omega (arith, c.taking.invariant.same, c.next_fed.ensures.count)

pub returns-in-Ended-clause-stands : goal.returns-in-Ended-clause-stands
returns-in-Ended-clause-stands g c = (c.next_fed.ensures.stands.0 ∙ c.taking.invariant.taken, c.next_fed.ensures.stands.1 ∙ c.taking.invariant.mark)

pub returns-clause-seen : goal.returns-clause-seen
returns-clause-seen g c = c.taking.invariant.seen

pub returns-clause-good : goal.returns-clause-good
returns-clause-good g c _ = c.taking.invariant.same

pub returns-clause-count : goal.returns-clause-count
returns-clause-count g c = omega (arith, c.taking.invariant.same)

pub returns-clause-stands : goal.returns-clause-stands
returns-clause-stands g c = (c.taking.invariant.taken, c.taking.invariant.mark)
