-- What a selection's plan says of its rows, and what a task of one gives.
use Rattle.std.proofs.Common.{◌≡◌, ℕ, List, [], ◌-◌, filter, flat_map, Option, Bool, true, false, cond, refl, sym, ◌∙◌, ap, subst, arith}
use Rattle.std.specs.List.{AllByRecursion}
use Rattle.saber_plan.specs.declared.rows.Row.{Row}
use Rattle.saber_plan.specs.declared.windows.Mark.{Mark}
use Rattle.saber_plan.specs.declared.windows.Kind.{Kind}
use Rattle.saber_plan.specs.declared.plans.Shape.TheVariants.{Select}
use Rattle.saber_plan.specs.Trees.{Tree}
use Rattle.saber_plan.specs.Checked.{ExprFits, IsChecked, IsPlain, ItemFits, group_width}
use Rattle.saber_plan.specs.GivenRows.{IsRowOf}
use Rattle.saber_laws.proofs.CheckedLaws.{selections_have_no_window}
use Rattle.saber_plan.specs.Windows.{Frame, unwindowed, has_windows, mark_after, end_mark, closed_count, begun_count, kind_of, from}
use Rattle.saber_plan.specs.Answers.{by_shape, frame, selected_lines}
use Rattle.saber_plan.specs.Parts.{Part, part_lines}
use Rattle.saber_plan.specs.Tasks.{numbered_list, is_complete}
use Rattle.saber_plan.specs.Needs.{of_kind, piece_here, part_here, is_closing, is_pending, is_opening}
use Rattle.saber_plan.specs.Shares.{shares_here}
use Rattle.saber_eval.specs.Widths.{widths}
use Rattle.saber_eval.proofs.FittingLaws.{selection_fits}

-- what its operator keeps
abbrev pub IsSelection : Tree → Type 0
IsSelection q = IsChecked q × (q.shape ≡ Select) × IsPlain q

-- its items fit each row of the one stream
pub items_fit : (q : Tree) (r : Row) → IsChecked q → q.shape ≡ Select → IsRowOf q r → AllByRecursion (ExprFits (widths r.values [])) q.items
items_fit q r checked select h = subst (λ s. AllByRecursion (ItemFits s (widths r.values []) (group_width q)) q.items) select (selection_fits q r checked select h).items

-- ---- what a task gives

none_from : (c : ℕ) (f : ℕ → Option Part) → [] ≡ numbered_list c (0 - c) f
unfolding from
none_from c f = let none : 0 - c ≡ 0 = omega arith in sym (ap (λ n. numbered_list c n f) none)

none_closed : (m : Mark) → 0 ≡ closed_count unwindowed m
none_closed m = elim (m.ended) as (λ b. 0 ≡ cond b 0 0) [ true ↦ refl | false ↦ refl ]

none_of_kind : (wanted : Option Kind → Bool) (f : Frame) (a b : Mark) (p : ℕ → Part) → f ≡ unwindowed → [] ≡ of_kind wanted f a b p
unfolding of_kind
none_of_kind wanted f a b p e = subst (λ g. [] ≡ of_kind wanted g a b p) (sym e) (none_from (closed_count unwindowed a) _)

-- its text, and no window's part
pub shares_are : (q : Tree) (m : Mark) (back rows : List Row) (ended : Bool) → IsChecked q → q.shape ≡ Select → IsPlain q → record { closing = []; pending = []; opening = []; lines = selected_lines q rows; closed = 0 } ≡ shares_here q m back rows ended
unfolding shares_here piece_here
shares_are q m back rows ended checked e plain =
    let f = (selections_have_no_window q checked e plain.no_word).has_frame in
    let a = mark_after m back in
    let b = end_mark ended (mark_after a rows) in
    let p : ℕ → Part = λ i. part_here q i m back rows in
    let c = closed_count (frame q) a in
    let complete : List ℕ = flat_map (λ i. part_lines q i (p i)) (filter (λ i. is_complete (kind_of (frame q) i a b)) (from c (begun_count (frame q) b - c))) in
    λ j. record {
      closing = none_of_kind is_closing (frame q) a b p f j;
      pending = none_of_kind is_pending (frame q) a b p f j;
      opening = none_of_kind is_opening (frame q) a b p f j;
      lines = (ap (λ g. cond (has_windows g) complete (selected_lines q rows)) (sym f) ∙ ap (λ s. by_shape s (cond (has_windows (frame q)) complete (selected_lines q rows)) complete complete) (sym e)) j;
      closed = (none_closed b ∙ ap (λ g. closed_count g b) (sym f)) j;
    }
