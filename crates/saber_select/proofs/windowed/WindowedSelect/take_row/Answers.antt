use Rattle.std.proofs.Common.{◌≡◌, ◌∷◌, [], ℕ, List, ◌∙◌, sym, ap, subst, true, max, OnOk}
use Rattle.saber_plan.specs.Trees.{tree_of}
use Rattle.saber_plan.specs.Windows.{Frame, Placed, place}
use Rattle.saber_plan.specs.Answers.{frame}
use Rattle.saber_plan.specs.Needs.{first_window, past_window}
use Rattle.saber_select.specs.Found.{Found, found_of}
use Rattle.saber_select.specs.Open.{seen_windows, Puts}
use Rattle.saber_select.proofs.Finding.{found_one}
use Rattle.saber_select.proofs.windowed.WindowedSelect.take_row.Goals as goal

pub returns-clause-windows : goal.returns-clause-windows
returns-clause-windows c =
    let q = tree_of c.args.self.now in
    let x : Placed = record { row = c.args.row.now; before = c.args.before.now } in
    let e : Found = (place x, c.as_slice.result.now) in
    let old = seen_windows c.args.windows.now.entries in
    let new = seen_windows c.put_from.new.windows.entries in
    let rows : e ∷ [] ≡ found_of q (x ∷ []) = (λ i. (place x, (c.as_slice.ensures.value ∙ c.in_ok-work_out.ensures) i) ∷ []) ∙ sym (found_one q x true (sym c.passes.ensures ∙ c.if-not-passes.false)) in
    let low : c.max-low.result ≡ max (first_window (frame q) x) c.args.closed = c.max-low.ensures ∙ ap (λ n. max n c.args.closed) (c.row_windows-first.ensures.first ∙ ap (λ (f : Frame). first_window f x) c.requires.lately) in
    let past : c.row_windows-first.result.1 ≡ past_window (frame q) x = c.row_windows-first.ensures.past ∙ ap (λ (f : Frame). past_window f x) c.requires.lately in
    subst (λ (es : List Found). OnOk c.put_from.result (Puts es (max (first_window (frame q) x) c.args.closed) (past_window (frame q) x) old new)) rows
    (subst (λ (n : ℕ). OnOk c.put_from.result (Puts (e ∷ []) n (past_window (frame q) x) old new)) low
    (subst (λ (n : ℕ). OnOk c.put_from.result (Puts (e ∷ []) c.max-low.result n old new)) past c.put_from.ensures))
