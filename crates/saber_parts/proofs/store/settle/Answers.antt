use Rattle.std.proofs.Common.{◌≡◌, ◌++◌, T, refl, append_assoc, sym, ◌∙◌, ap, subst, nat_cmp}
use Rattle.std.specs.FinMap.{is_sorted, from_entries}
use Rattle.saber_plan.specs.Facts.Trees.{sorted_seen}
use Rattle.saber_fragment.specs.Shown.{windows_by, shares_of}
use Rattle.saber_parts.specs.Stored.{parts_by, closed_of, CanTakeIn, lines_of}
use Rattle.saber_parts.proofs.Continuing.{rising_now, can_take_in, shown_joined, left_is, written_is}
use Rattle.saber_parts.proofs.Cutting.{cut_from, cut_below}
use Rattle.saber_parts.proofs.store.settle.Goals as goal

pub take_in-requires-clause-rising : goal.take_in-requires-clause-rising
take_in-requires-clause-rising g c =
    let shown = g.A.Assembles.shown in
    let s = shares_of shown c.args.piece in
    subst (λ l. T (is_sorted nat_cmp l)) (sym (shown_joined shown c.args.piece c.in_ok-parts.parts.items c.in_ok-parts.ensures)) (rising_now (g.A.Assembles.plan c.args.by.now) (parts_by shown c.args.store.now.entries) s c.requires)

pub take_in-requires-clause-fits : goal.take_in-requires-clause-fits
take_in-requires-clause-fits g c =
    let shown = g.A.Assembles.shown in
    let q = g.A.Assembles.plan c.args.by.now in
    let m = parts_by shown c.args.store.now.entries in
    let s = shares_of shown c.args.piece in
    subst (λ l. CanTakeIn q m (from_entries {R = nat_cmp} l)) (sym (shown_joined shown c.args.piece c.in_ok-parts.parts.items c.in_ok-parts.ensures)) (can_take_in q m s c.requires)

pub returns-clause-taken : goal.returns-clause-taken
returns-clause-taken g c =
    let shown = g.A.Assembles.shown in
    left_is (g.A.Assembles.plan c.args.by.now) (parts_by shown c.args.store.now.entries) (shares_of shown c.args.piece) _ _ (shown_joined shown c.args.piece c.in_ok-parts.parts.items c.in_ok-parts.ensures) (cut_from shown c.args.piece.closed_below _ c.take_in.new.store.entries c.in_ok-take_in.ensures)

pub returns-clause-text : goal.returns-clause-text
returns-clause-text g c =
    let shown = g.A.Assembles.shown in
    let q = g.A.Assembles.plan c.args.by.now in
    let m = parts_by shown c.args.store.now.entries in
    let es = c.take_in.new.store.entries in
    let closed = cut_below shown c.args.piece.closed_below _ es c.in_ok-take_in.ensures (sorted_seen nat_cmp (λ k. k) shown es c.len-count.ensures.ordered) in
    let below = windows_by shown (closed_of c.args.piece.closed_below es) in
    let old = c.args.out.now.items in
    let out : c.extend_from_slice.new.self.items ≡ old ++ (lines_of q below ++ c.args.piece.complete_text) = c.in_ok-extend_from_slice.ensures.items ∙ (λ j. c.in_ok-write_closed.ensures.ok j ++ c.as_slice.ensures j) ∙ append_assoc old (lines_of q below) c.args.piece.complete_text in
    out ∙ ap (λ t. old ++ t) (written_is q m (shares_of shown c.args.piece) (windows_by shown c.in_ok-parts.parts.items) below (lines_of q below ++ c.args.piece.complete_text) (shown_joined shown c.args.piece c.in_ok-parts.parts.items c.in_ok-parts.ensures) closed refl)
