use Rattle.std.proofs.Common.{◌≡◌, ◌≤◌, [], ◌∷◌, ◌++◌, length, append-nil, append_assoc, refl, sym, subst, ◌∙◌, ap, arith}
use Rattle.std.proofs.lemmas.List.{take_all}
use Rattle.std.specs.List.{AllByRecursion}
use Rattle.saber_plan.specs.Trees.{tree_of}
use Rattle.saber_plan.specs.Windows.{mark_after}
use Rattle.saber_partial.specs.Ones.{AreOf}
use Rattle.saber_group.specs.declared.slice_list.Span.{Span}
use Rattle.saber_group.specs.SliceLists.{slice_with, spans_left, Stands}
use Rattle.saber_group.specs.SlicePieces.{SlicesFrom}
use Rattle.saber_group.proofs.SlicesGiven.{stand_on, spans_more}
use Rattle.saber_group.proofs.group.Group.spans_of.Goals as goal

pub loop-from-init : goal.loop-from-init
loop-from-init c =
    let q = tree_of c.args.self.now in
    let b = c.args.batch.now in
    record {
      none = c.requires.no_row;
      within = omega arith;
      mark = refl;
      all = subst (AreOf q) (sym c.requires.no_part) (0, tt);
      stand = subst (AllByRecursion (λ (s : Span). Stands c.args.parts.now.done s.part)) (sym c.requires.none) tt;
      slices = λ more h. subst (λ l. SlicesFrom q b.before b.rows.now 0 (spans_left c.args.parts.now.done l ++ more)) (sym c.requires.none) h;
    }

pub loop-from-preserved : goal.loop-from-preserved
loop-from-preserved c =
    let q = tree_of c.args.self.now in
    let b = c.args.batch.now in
    let inv = c.loop-from.invariant in
    let s = c.in_ok-span.span in
    let told = c.in_ok-span.ensures in
    let old = c.loop-from.parts.done in
    let new = c.span_from.new.part.done in
    let spans = c.loop-from.spans.items in
    record {
      none = told.none;
      within = told.within;
      mark = c.mark_behind-mark.ensures;
      all = told.all;
      stand = subst (AllByRecursion (λ (r : Span). Stands new r.part)) (sym c.in_ok-keep_span.ensures) (stand_on old new told.grew spans s inv.stand told.stands);
      slices = λ more h.
          subst (λ l. SlicesFrom q b.before b.rows.now 0 (spans_left new l ++ more)) (sym c.in_ok-keep_span.ensures)
          (subst (SlicesFrom q b.before b.rows.now 0) (sym (ap (λ l. l ++ more) (spans_more old new told.grew spans s inv.stand told.stands) ∙ append_assoc (spans_left old spans) (slice_with new s ∷ []) more))
          (inv.slices (slice_with new s ∷ more) (told.slice, (told.more, (told.within, h)))));
    }

pub returns-clause-slices : goal.returns-clause-slices
returns-clause-slices c =
    let b = c.args.batch.now in
    let within = c.loop-from.invariant.within in
    let over = subst (λ n. n ≤ c.loop-from.from) c.len.ensures c.loop-from-test.false in
    let at_end : c.loop-from.from ≡ length b.rows.now = omega (arith, within, over) in
    subst (SlicesFrom (tree_of c.args.self.now) b.before b.rows.now 0) (append-nil (spans_left c.loop-from.parts.done c.loop-from.spans.items)) (c.loop-from.invariant.slices [] at_end)

pub returns-clause-mark : goal.returns-clause-mark
returns-clause-mark c =
    let b = c.args.batch.now in
    let over = subst (λ n. n ≤ c.loop-from.from) c.len.ensures c.loop-from-test.false in
    c.loop-from.invariant.mark ∙ ap (mark_after b.before) (take_all c.loop-from.from b.rows.now over)
