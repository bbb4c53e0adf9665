use Rattle.std.proofs.Common.{◌≡◌, ◌++◌, ◌∙◌, ap, subst}
use Rattle.std.specs.List.{AllByRecursion}
use Rattle.saber_group.specs.declared.slice_list.Span.{Span}
use Rattle.saber_group.specs.SliceLists.{spans_left, IsWithin}
use Rattle.saber_group.proofs.SlicesGiven.{spans_within}
use Rattle.saber_group.proofs.slice_list.copy_spans.Goals as goal

pub returns : goal.returns
returns c =
    let n = c.all_needed.result in
    let spans = c.args.spans.now in
    let copies : c.extend_from_slice.new.self.items ≡ spans = c.in_ok-extend_from_slice.ensures.items ∙ ap (λ l. l ++ spans) c.new-copies.ensures.items in
    let all = subst (λ k. AllByRecursion (λ (s : Span). IsWithin n k s.part) spans) c.len.ensures c.all_needed.ensures.all in
    (λ j. spans_left (c.in_ok-parts.ensures j) (copies j)) ∙ spans_within n c.args.parts.now spans all
