-- A block of which all rows that come are there.
use Rattle.std.proofs.Common.{◌≡◌, ℕ, length, List, [], Option, Some, None, Result, Ok, Err, refl, sym, ◌∙◌, ap, subst}
use Rattle.saber_plan.specs.declared.rows.Row.{Row}
use Rattle.saber_plan.specs.declared.windows.Mark.{Mark}
use Rattle.saber_plan.specs.declared.sizes.Sizes.{Sizes}
use Rattle.saber_plan.specs.Trees.{Tree}
use Rattle.saber_plan.specs.Inputs.{Input, going_on}
use Rattle.saber_dispatch.specs.declared.ends.End.{End}
use Rattle.saber_dispatch.specs.declared.cutter.Cutter.{Cutter}
use Rattle.saber_dispatch.specs.Cutting.{Cuts, Filled, ended_by, stops}
use Rattle.saber_dispatch.specs.Closing.{Closes}
use Rattle.saber_dispatch.specs.Filling.{Fills}
use Rattle.saber_dispatch.specs.Readings.{reading_of}
use Rattle.saber_dispatch.specs.declared.reader.Reader.{Reader}
use Rattle.saber_dispatch.proofs.BlockReads.{is_rows, is_filled, is_ended}

abbrev Lefts : Type 0
Lefts = List (Option (List ℕ))

module _ (q : Tree) (s : Sizes) (had has : Lefts) (c : Cutter) (r : Input) (filled : Result (Unit {0}) End) (before : Mark) (rows : List Row) (k : Closes q s had has c r filled before rows) where
  abbrev at : Option End → Cutter
  at e = record c { ended = e }

  with_end : (e : Option End) → at e ≡ record k.start { reader = c.reader; mark = c.mark; ended = e }
  with_end e = ap (λ (x : Cutter). record x { ended = e }) k.same

  pub closed_rows : r ≡ going_on r.rows
  closed_rows = is_rows q s had k.there has k.start r k.cuts k.goes filled c.reader c.mark [] rows refl k.fills

  pub closed_filled : (o : Option End) → o ≡ ended_by filled → stops filled (length rows) ≡ None → Filled q s had has (at o) r.rows before rows
  closed_filled o e h =
      let done = is_filled q s had k.there has k.start r k.cuts k.goes filled c.reader c.mark [] rows refl k.fills filled refl h in
      let here = subst (λ (x : Cutter). Filled q s had has x r.rows k.start.mark rows) (sym (with_end (ended_by filled))) done in
      subst (λ (m : Mark). Filled q s had has (at o) r.rows m rows) (sym k.before_is) (subst (λ (y : Option End). Filled q s had has (at y) r.rows k.start.mark rows) (sym e) here)

  pub closed_ended : (o : Option End) (end : End) → o ≡ ended_by filled → stops filled (length rows) ≡ Some end → (o ≡ Some end) × Cuts q s had has (at o) r
  closed_ended o end e h =
      let done = is_ended q s had k.there has k.start r k.cuts k.goes filled c.reader c.mark [] rows refl k.fills filled end refl h in
      let here = subst (λ (x : Cutter). Cuts q s had has x r) (sym (with_end (ended_by filled))) done.1 in
      (e ∙ done.0, subst (λ (y : Option End). Cuts q s had has (at y) r) (sym e) here)

-- rows that were read behind the blocks that a cutter gave
pub read_closes : (q : Tree) (s : Sizes) (had has now : Lefts) (c : Cutter) (r : Input) (filled : Result (Unit {0}) End) (new : Reader) (mark : Mark) (start rows kept : List Row) →
    start ≡ [] → kept ≡ rows → Cuts q s had has c r → c.ended ≡ None → Fills filled q c.size c.mark mark (reading_of c.reader) (reading_of new) has now start rows →
    Closes q s had now (record c { reader = new; mark = mark }) r filled c.mark kept
read_closes q s had has now c r filled new mark start rows kept empty same k goes f = record {
  start = c;
  there = has;
  cuts = k;
  goes = goes;
  same = refl;
  before_is = refl;
  fills = subst (λ xs. Fills filled q c.size c.mark mark (reading_of c.reader) (reading_of new) has now [] xs) (sym same)
      (subst (λ xs. Fills filled q c.size c.mark mark (reading_of c.reader) (reading_of new) has now xs rows) empty f);
}

-- why a block is closed
pub ended_is : (filled : Result (Unit {0}) End) (end : End) → ended_by filled ≡ Some end → filled ≡ Err end
ended_is (Ok u) end e = absurd (none_some e) where
  none_some : ◌≡◌ {A = Option End} None (Some end) → ⊥
  none_some i = cc
ended_is (Err x) end e = let same : x ≡ end = cc in ap (λ y. Err y) same
