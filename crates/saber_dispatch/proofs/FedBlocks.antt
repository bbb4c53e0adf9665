-- Blocks of a feed: begun, gone on with, given.
use Rattle.std.proofs.Common.{◌≡◌, ℕ, length, List, [], ◌∷◌, ◌++◌, Option, Some, None, Result, Ok, Err, Bool, refl, sym, ◌∙◌, ap, subst, arith}
use Rattle.saber_io.specs.declared.feeds.EndMark.{EndMark}
use Rattle.saber_io.specs.declared.feeds.EndMark.TheVariants as marks
use Rattle.saber_plan.specs.declared.rows.Row.{Row}
use Rattle.saber_plan.specs.declared.windows.Mark.{Mark}
use Rattle.saber_plan.specs.declared.sizes.Sizes.{Sizes}
use Rattle.saber_plan.specs.Sizes.{FileLimits, limits_of}
use Rattle.saber_plan.specs.declared.windows.Stream.{Stream}
use Rattle.saber_plan.specs.Trees.{Tree}
use Rattle.saber_plan.specs.Inputs.{Input}
use Rattle.saber_dispatch.specs.declared.ends.End.{End}
use Rattle.saber_dispatch.specs.declared.ends.End.TheVariants.{AllRead, Bad, ReadFault, TooWide, NoMemory}
use Rattle.saber_dispatch.specs.declared.reader.Reader.{Reader}
use Rattle.saber_dispatch.specs.declared.cutter.Cutter.{Cutter}
use Rattle.saber_dispatch.specs.declared.cutter.Cut.{Cut}
use Rattle.saber_dispatch.specs.declared.cutter.Cut.TheVariants as cuts
use Rattle.saber_dispatch.specs.declared.fed_cutter.Begun.{Begun}
use Rattle.saber_dispatch.specs.declared.fed_cutter.FedCutter.{FedCutter}
use Rattle.saber_dispatch.specs.declared.fed_cutter.Step.{Step}
use Rattle.saber_dispatch.specs.declared.fed_cutter.Step.TheVariants as steps
use Rattle.saber_dispatch.specs.Readings.{reading_of, Suits}
use Rattle.saber_dispatch.specs.Filling.{prepend, Fills}
use Rattle.saber_dispatch.specs.Cutting.{Cuts, CutState, Goes, CutTo, CutsNothing, fresh, fresh_on, told_end, end_of}
use Rattle.saber_dispatch.specs.Closing.{Closes, ClosedBy, EndStays}
use Rattle.saber_dispatch.specs.FedReadings.{only, SawEnd, IsSeen, EndTold, NothingWaits}
use Rattle.saber_dispatch.specs.FedFilling.{Paused}
use Rattle.saber_dispatch.specs.Feeding.{Begins, Gave, Agrees, CutsNothingFed, StepTo, step_of}
use Rattle.saber_dispatch.proofs.Fillings.{filling_nothing, still_suits}
use Rattle.saber_dispatch.proofs.BlockReads.{reads_now}
use Rattle.saber_dispatch.proofs.TaskBlocks.{told_is}

none_some : {A : Type 0} (x : A) → ◌≡◌ {A = Option A} None (Some x) → ⊥
none_some x e = cc

-- ---- a block is begun

module _ (q : Tree) (s : Sizes) (taken waiting : List ℕ) (c : Cutter) (r : Input) (k : Cuts q s (only taken) (only waiting) c r) (e : c.ended ≡ None) where
  going : Goes q s c r k.dropped
  going = subst (CutState q s c r k.dropped) e k.state

  suits : Suits (reading_of c.reader) (only waiting)
  suits = still_suits (prepend (r.rows ++ k.dropped)) (fresh q (limits_of s)) (reading_of c.reader) (only taken) (only waiting) k.took.moves

  begun_empty : Begins q s taken waiting c r c.mark []
  begun_empty = record {
    start = c;
    there = waiting;
    cuts = k;
    goes = e;
    same = refl;
    before_is = refl;
    filling = filling_nothing q c.mark (reading_of c.reader) (only waiting) [] suits (reads_now q s (only taken) (only waiting) c r k e);
    few = omega (arith, k.sizes.task);
    open_still = going.open_still;
  }

  pub begun_new : (rows : List Row) → rows ≡ [] → Begins q s taken waiting c r c.mark rows
  begun_new rows none = subst (λ (l : List Row). Begins q s taken waiting c r c.mark l) (sym none) begun_empty

-- ---- it is gone on with

module _ (q : Tree) (s : Sizes) (taken waiting left : List ℕ) (c : Cutter) (r : Input) (before : Mark) (begun : List Row) (b : Begins q s taken waiting c r before begun) (new : Reader) (mark : Mark) (rows : List Row) where
  abbrev after : Cutter
  after = record c { reader = new; mark = mark }

  same_size : c.size ≡ b.start.size
  same_size = ap (λ (x : Cutter). x.size) b.same

  after_same : after ≡ record b.start { reader = new; mark = mark }
  after_same = ap (λ (x : Cutter). record x { reader = new; mark = mark }) b.same

  pub closes : (filled : Result (Unit {0}) End) → Fills filled q c.size before mark (reading_of b.start.reader) (reading_of new) (only b.there) (only left) [] rows → Closes q s (only taken) (only left) after r filled before rows
  closes filled f = record {
    start = b.start;
    there = only b.there;
    cuts = b.cuts;
    goes = b.goes;
    same = after_same;
    before_is = b.before_is;
    fills = subst (λ (m : Mark). Fills filled q b.start.size m mark (reading_of b.start.reader) (reading_of new) (only b.there) (only left) [] rows) b.before_is
        (subst (λ (n : ℕ). Fills filled q n before mark (reading_of b.start.reader) (reading_of new) (only b.there) (only left) [] rows) same_size f);
  }

  pub goes_on : Paused q c.size before mark (reading_of b.start.reader) (reading_of new) (only b.there) (only left) rows → Begins q s taken left after r before rows
  goes_on p = record {
    start = b.start;
    there = b.there;
    cuts = b.cuts;
    goes = b.goes;
    same = after_same;
    before_is = b.before_is;
    filling = p.filling;
    few = omega (arith, p.few, same_size, b.cuts.made.size);
    open_still = p.open_still;
  }

  pub not_ended : c.ended ≡ None
  not_ended = ap (λ (x : Cutter). x.ended) b.same ∙ b.goes

  -- and is dry
  pub is_dry : (feed_mark : Option EndMark) → Paused q c.size before mark (reading_of b.start.reader) (reading_of new) (only b.there) (only left) rows → NothingWaits left feed_mark → IsSeen (reading_of new) feed_mark
      → StepTo steps.Dry q s taken left feed_mark (record { cutter = after; begun = Some (record { before = before; rows = rows }) }) r
  is_dry feed_mark p n seen = (
    record { unended = ap (told_end c.flush c.number) not_ended; needs = p.needs; nothing = n },
    record { gave = goes_on p; agrees = record { seen = seen; told = λ e h. absurd (none_some e (sym not_ended ∙ h)) } },
  )

-- ---- an end, or a block

agree_by : (filled : Result (Unit {0}) End) (old new : Cutter) (w : List ℕ) (mark : Option EndMark) → ((e : End) → filled ≡ Err e → EndTold e w mark) → ClosedBy filled old new → (e : End) → new.ended ≡ Some e → EndTold e w mark
agree_by filled old new w mark told k AllRead h = told AllRead (k.all h)
agree_by filled old new w mark told k (ReadFault side) h = told (ReadFault side) (k.fault side h)
agree_by filled old new w mark told k (Bad side line cause) h = tt
agree_by filled old new w mark told k (TooWide task needs) h = tt
agree_by filled old new w mark told k NoMemory h = tt

pub agrees_closed : (filled : Result (Unit {0}) End) (old new : Cutter) (w : List ℕ) (mark : Option EndMark) → ((e : End) → filled ≡ Err e → EndTold e w mark) → ClosedBy filled old new → IsSeen (reading_of old.reader) mark → Agrees new w mark
agrees_closed filled old new w mark told k seen = record { seen = subst (λ (x : Reader). IsSeen (reading_of x) mark) (sym k.reader) seen; told = agree_by filled old new w mark told k }

-- an end is the block's
pub told_full : (w : List ℕ) (mark : Option EndMark) (e : End) → ◌≡◌ {A = Result (Unit {0}) End} (Ok tt) (Err e) → EndTold e w mark
told_full w mark e h = absurd (no h) where
  no : ◌≡◌ {A = Result (Unit {0}) End} (Ok tt) (Err e) → ⊥
  no i = cc

pub told_ended : (end : End) (w : List ℕ) (mark : Option EndMark) → EndTold end w mark → (e : End) → ◌≡◌ {A = Result (Unit {0}) End} (Err end) (Err e) → EndTold e w mark
told_ended end w mark t e h = subst (λ (x : End). EndTold x w mark) (same h) t where
  same : ◌≡◌ {A = Result (Unit {0}) End} (Err end) (Err e) → end ≡ e
  same i = cc

stay_by : (old new : Cutter) (w : List ℕ) (mark : Option EndMark) → Agrees old w mark → EndStays old new → (e : End) → new.ended ≡ Some e → EndTold e w mark
stay_by old new w mark a k AllRead h = a.told AllRead (k.all h)
stay_by old new w mark a k (ReadFault side) h = a.told (ReadFault side) (k.fault side h)
stay_by old new w mark a k (Bad side line cause) h = tt
stay_by old new w mark a k (TooWide task needs) h = tt
stay_by old new w mark a k NoMemory h = tt

pub agrees_still : (old new : Cutter) (w : List ℕ) (mark : Option EndMark) → Agrees old w mark → EndStays old new → Agrees new w mark
agrees_still old new w mark a k = record { seen = subst (λ (x : Reader). IsSeen (reading_of x) mark) (sym k.reader) a.seen; told = stay_by old new w mark a k }

-- what a cutter comes to is a step
pub cut_step : (cut : Cut) (q : Tree) (s : Sizes) (taken w : List ℕ) (mark : Option EndMark) (c : Cutter) (r : Input) (o : Option Begun) → o ≡ None → CutTo cut q s (only taken) (only w) c r → Agrees c w mark
    → StepTo (step_of cut) q s taken w mark (record { cutter = c; begun = o }) r
cut_step cut q s taken w mark c r o none x a = subst (λ (y : Option Begun). StepTo (step_of cut) q s taken w mark (record { cutter = c; begun = y }) r) (sym none) (by_case cut x) where
  by_case : (k : Cut) → CutTo k q s (only taken) (only w) c r → StepTo (step_of k) q s taken w mark (record { cutter = c; begun = None }) r
  by_case (cuts.Block b) h = (h.0, record { gave = h.1; agrees = a })
  by_case (cuts.Ended e) h = (h.0, record { gave = h.1; agrees = a })

-- ---- before a block is begun

-- where no more rows come no block is begun
pub none_begun : (q : Tree) (s : Sizes) (taken w : List ℕ) (c : Cutter) (r : Input) (o : Option Begun) (e : End) → c.ended ≡ Some e → Gave q s taken w c r o → (o ≡ None) × Cuts q s (only taken) (only w) c r
none_begun q s taken w c r None e h g = (refl, g)
none_begun q s taken w c r (Some b) e h g = absurd (none_some e (sym (ap (λ (x : Cutter). x.ended) g.same ∙ g.goes) ∙ h))

pub was_begun : (q : Tree) (s : Sizes) (taken w : List ℕ) (c : Cutter) (r : Input) (o : Option Begun) (b : Begun) → o ≡ Some b → Gave q s taken w c r o → Begins q s taken w c r b.before b.rows
was_begun q s taken w c r o b h g = subst (Gave q s taken w c r) h g

pub was_none : (q : Tree) (s : Sizes) (taken w : List ℕ) (c : Cutter) (r : Input) (o : Option Begun) → o ≡ None → Gave q s taken w c r o → Cuts q s (only taken) (only w) c r
was_none q s taken w c r o h g = subst (Gave q s taken w c r) h g

-- ---- what a step tells

pub step_told : (step : Step) (q : Tree) (s : Sizes) (taken w : List ℕ) (mark : Option EndMark) (c : FedCutter) (r : Input) (e : End) → StepTo step q s taken w mark c r → step ≡ steps.Ended e → EndTold e w mark
step_told step q s taken w mark c r e t h =
    let x = subst (λ (y : Step). StepTo y q s taken w mark c r) h t in
    x.1.agrees.told e (told_is c.cutter.flush c.cutter.number c.cutter.ended e x.0).0

pub step_dry : (step : Step) (q : Tree) (s : Sizes) (taken w : List ℕ) (mark : Option EndMark) (c : FedCutter) (r : Input) → StepTo step q s taken w mark c r → step ≡ steps.Dry → NothingWaits w mark
step_dry step q s taken w mark c r t h = (subst (λ (y : Step). StepTo y q s taken w mark c r) h t).0.nothing

-- where rows come no more, but an end is still to be told, all is read
pub told_none : (flush : Bool) (count : ℕ) (e : End) → told_end flush count (Some e) ≡ None → e ≡ AllRead
told_none flush count AllRead h = refl
told_none flush count (Bad side line cause) h = cc
told_none flush count (ReadFault side) h = cc
told_none flush count (TooWide task needs) h = cc
told_none flush count NoMemory h = cc

pub unmarked_goes : (c : Cutter) (w : List ℕ) (mark : Option EndMark) (e : End) → Agrees c w mark → c.ended ≡ Some e → end_of c ≡ None → mark ≡ None → ⊥
unmarked_goes c w mark e a h told none =
    let all : e ≡ AllRead = told_none c.flush c.number e (sym (ap (told_end c.flush c.number) h) ∙ told) in
    let f : None ≡ Some marks.End = sym none ∙ a.told AllRead (h ∙ ap (λ x. Some x) all) in cc

-- ---- nothing is given yet

pub one_suits : (q : Tree) (limits : FileLimits) (streams : List Stream) (bytes : List ℕ) → length streams ≡ 1 → Suits (fresh_on q limits streams) (only bytes)
one_suits q limits [] bytes e = tt
one_suits q limits (x ∷ []) bytes e = tt
one_suits q limits (x ∷ y ∷ more) bytes e = absurd (omega arith)

fresh_unseen : (q : Tree) (limits : FileLimits) (streams : List Stream) → SawEnd (fresh_on q limits streams) → ⊥
fresh_unseen q limits [] h = cc
fresh_unseen q limits (x ∷ []) h = cc
fresh_unseen q limits (x ∷ y ∷ more) h = h

pub nothing_fed : (q : Tree) (s : Sizes) (c : Cutter) → length q.streams ≡ 1 → CutsNothing q s c → reading_of c.reader ≡ fresh q (limits_of s) → c.ended ≡ None → CutsNothingFed q s (record { cutter = c; begun = None })
nothing_fed q s c one k new unended bytes mark = record {
  gave = k (only bytes) (one_suits q (limits_of s) q.streams bytes one);
  agrees = record {
    seen = λ h. absurd (fresh_unseen q (limits_of s) q.streams (subst SawEnd new h));
    told = λ e h. absurd (none_some e (sym unended ∙ h));
  };
}
