use Rattle.std.proofs.Common.{T, sym, ◌∙◌, ap, subst, nat_cmp, nat_lt, nat_le}
use Rattle.std.specs.FinMap.{is_sorted, from_entries, entries, retain_keys}
use Rattle.saber_plan.specs.Facts.Trees.{sorted_seen}
use Rattle.saber_fragment.specs.Shown.{shares_of}
use Rattle.saber_parts.specs.Stored.{parts_by, parts_from, CanTakeIn}
use Rattle.saber_parts.specs.Changing.{Rises, Tells}
use Rattle.saber_parts.proofs.Continuing.{taken_now_of, shown_joined}
use Rattle.saber_parts.proofs.Cutting.{cut_from, cut_below}
use Rattle.saber_parts.proofs.Changed.{rising, can, closed_rise_on, stands, told, handed}
use Rattle.saber_parts.proofs.changes.settle_changes.Goals as goal

pub take_in-requires-clause-rising : goal.take_in-requires-clause-rising
take_in-requires-clause-rising g c =
    let shown = g.A.Assembles.shown in
    let s = shares_of shown c.args.piece in
    subst (λ l. T (is_sorted nat_cmp l)) (sym (shown_joined shown c.args.piece c.in_ok-parts.parts.items c.in_ok-parts.ensures))
    (rising (g.A.Assembles.plan c.args.by.now) (parts_by shown c.args.store.now.entries) c.args.walk.now s c.requires.0 c.requires.1 c.requires.2 c.requires.3)

pub take_in-requires-clause-fits : goal.take_in-requires-clause-fits
take_in-requires-clause-fits g c =
    let shown = g.A.Assembles.shown in
    let q = g.A.Assembles.plan c.args.by.now in
    let m = parts_by shown c.args.store.now.entries in
    let s = shares_of shown c.args.piece in
    subst (λ l. CanTakeIn q m (from_entries {R = nat_cmp} l)) (sym (shown_joined shown c.args.piece c.in_ok-parts.parts.items c.in_ok-parts.ensures))
    (can q m c.args.walk.now s c.requires.0 c.requires.1 c.requires.2 c.requires.3)

pub walk_closed-requires : goal.walk_closed-requires
walk_closed-requires g c =
    let shown = g.A.Assembles.shown in
    let q = g.A.Assembles.plan c.args.by.now in
    let m = parts_by shown c.args.store.now.entries in
    let s = shares_of shown c.args.piece in
    let es = c.take_in.new.store.entries in
    let below = cut_below shown c.args.piece.closed_below _ es c.in_ok-take_in.ensures (sorted_seen nat_cmp (λ k. k) shown es c.len-count.ensures.ordered) in
    subst (Rises c.args.walk.now.next c.args.piece.closed_below) (sym (below ∙ ap (λ l. entries (retain_keys (taken_now_of m l) (λ i. nat_lt i c.args.piece.closed_below))) (shown_joined shown c.args.piece c.in_ok-parts.parts.items c.in_ok-parts.ensures)))
    (closed_rise_on q m c.args.walk.now s c.requires.0 c.requires.1 c.requires.2 c.requires.3)

pub returns-clause-ok : goal.returns-clause-ok
returns-clause-ok g c r x y h =
    let shown = g.A.Assembles.shown in
    let q = g.A.Assembles.plan c.args.by.now in
    let m = parts_by shown c.args.store.now.entries in
    let s = shares_of shown c.args.piece in
    let w = c.args.walk.now in
    let es = c.take_in.new.store.entries in
    let joined = shown_joined shown c.args.piece c.in_ok-parts.parts.items c.in_ok-parts.ensures in
    let below = cut_below shown c.args.piece.closed_below _ es c.in_ok-take_in.ensures (sorted_seen nat_cmp (λ k. k) shown es c.len-count.ensures.ordered) in
    let these = below ∙ ap (λ l. entries (retain_keys (taken_now_of m l) (λ i. nat_lt i c.args.piece.closed_below))) joined in
    let left = ap (λ n. parts_from shown n es) c.in_ok-walk_closed.ensures.next ∙ cut_from shown c.args.piece.closed_below _ es c.in_ok-take_in.ensures
    ∙ ap (λ l. retain_keys (taken_now_of m l) (λ i. nat_le c.args.piece.closed_below i)) joined in
    handed q m w s r x y h c.args.change c.walk_closed.new.walk _ c.args.out.now.items c.walk_closed.new.out.items left c.in_ok-walk_closed.ensures.next
    (c.in_ok-walk_closed.ensures.ok _ (stands q m w s r x y h) (subst (Tells q _ w.next c.args.piece.closed_below) (sym these) (told q m w s r x y h)))
