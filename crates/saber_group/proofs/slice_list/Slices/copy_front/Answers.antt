use Rattle.std.proofs.Common.{◌≡◌, drop, take, sym, ◌∙◌, ap}
use Rattle.std.proofs.lemmas.List.{take-map}
use Rattle.std.proofs.lemmas.Result.{IfOk-weaker}
use Rattle.saber_group.specs.SliceLists.{listed_slices, slice_with, spans_left}
use Rattle.saber_group.proofs.slice_list.Slices.copy_front.Goals as goal

pub returns-in-Ones : goal.returns-in-Ones
returns-in-Ones c =
    let spans = c.in-Ones.spans.items in
    let next = c.in-Ones.next in
    let parts = c.in-Ones.parts in
    let rest : c.rest_of.result.now ≡ drop next spans = c.rest_of.ensures ∙ ap (drop next) c.deref.ensures.value in
    let whole : spans_left parts (drop next spans) ≡ c.args.self.now = ap listed_slices (sym c.in-Ones.is) ∙ c.self.view_is in
    IfOk-weaker c.copy_spans.result (λ s. s ≡ spans_left parts (take c.args.count c.rest_of.result.now)) (λ s. s ≡ take c.args.count c.args.self.now)
    (λ s h. h ∙ sym (take-map (slice_with parts) c.args.count c.rest_of.result.now) ∙ ap (take c.args.count) (ap (spans_left parts) rest ∙ whole)) c.copy_spans.ensures
