use Rattle.std.proofs.Common.{◌≡◌, ◌∙◌, ◌++◌, ap, subst, sym}
use Rattle.std.specs.FinMap.{empty}
use Rattle.saber_plan.specs.declared.plans.Plan.{Plan}
use Rattle.saber_plan.specs.Trees.{tree_of}
use Rattle.saber_plan.specs.Inputs.{first_arrivals}
use Rattle.saber_plan.specs.Shares.{shares_between}
use Rattle.saber_plan.specs.Tasks.{by_windows, unclosed, written_by, left_by}
use Rattle.saber_plan.specs.Facts.Kept.{plain_way, alike_added, alike_kept, alike_parts}
use Rattle.saber_laws.proofs.SharesLaws.{shares_make_piece}
use Rattle.saber_laws.proofs.StepLaws.{open_goes_on, pieces_print}
use Rattle.saber_select.proofs.Shown.{IsSelection}
use Rattle.saber_select.proofs.Texts.{text_written, none_left}
use Rattle.saber_select.proofs.operator.SelectOperator.take_in.Goals as goal

pub returns-clause-text : goal.returns-clause-text
returns-clause-text c r x y f =
    let q = tree_of c.args.self.now in
    let text = c.args.piece in
    let w = plain_way q (subst (λ (p : Plan). IsSelection (tree_of p)) c.self.view_is (c.self.invariant.0, c.self.invariant.1, c.self.invariant.2)).2 in
    let kept : empty ≡ unclosed q (first_arrivals r x) = alike_parts q w empty (first_arrivals r x) f.kept_is in
    c.in_ok-extend_from_slice.ensures.items ∙ ap (λ l. c.args.out.now.items ++ l) (
    c.as_slice.ensures ∙ text_written q text (shares_between q r x y) f.of_is
    ∙ (λ j. written_by q (kept j) (shares_make_piece q r x y (record { fits = f.windows; ordered = f.fits.ordered; rises = f.rises }) j))
    ∙ sym (alike_added q w r x y ∙ pieces_print q f.windows r x y f.fits.ordered f.rises))

pub returns-clause-stays : goal.returns-clause-stays
returns-clause-stays c r x y f =
    let q = tree_of c.args.self.now in
    let w = plain_way q (subst (λ (p : Plan). IsSelection (tree_of p)) c.self.view_is (c.self.invariant.0, c.self.invariant.1, c.self.invariant.2)).2 in
    let kept : empty ≡ unclosed q (first_arrivals r x) = alike_parts q w empty (first_arrivals r x) f.kept_is in
    ap by_windows (
    none_left q c.args.piece (shares_between q r x y) f.of_is
    ∙ (λ j. left_by q (kept j) (shares_make_piece q r x y (record { fits = f.windows; ordered = f.fits.ordered; rises = f.rises }) j))
    ∙ sym (open_goes_on q f.windows r x y f.fits.ordered f.rises))
    ∙ sym (alike_kept q w (first_arrivals r y))
