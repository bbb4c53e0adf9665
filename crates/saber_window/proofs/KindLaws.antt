-- What a window is to a task, by counts.
use Rattle.std.proofs.Common.{◌≡◌, ℕ, ◌≤◌, ◌<◌, true, false, cond, nat_lt, None, Some, sym, ◌∙◌, ap}
use Rattle.std.proofs.lemmas.Bool.{lt-ltb, le-ltb}
use Rattle.saber_plan.specs.declared.windows.Mark.{Mark}
use Rattle.saber_plan.specs.declared.windows.Kind.TheVariants.{Opening, Closing, Pending, Complete}
use Rattle.saber_plan.specs.Windows.{Frame, Fits, closed, begun, closed_count, begun_count, kind_of}
use Rattle.saber_laws.proofs.WindowLaws.{begun_are_counted, closed_are_counted}
use Rattle.saber_window.specs.declared.bounds.Bounds.{Bounds}
use Rattle.saber_window.specs.Kinds.{kind_in, AreBounds}

kind_is : (f : Frame) → Fits f → (a z : Mark) (b : Bounds)
    → b.begun_before ≡ begun_count f a → b.closed_after ≡ closed_count f z
    → (i : ℕ) → closed_count f a ≤ i → i < begun_count f z → Some (kind_in b i) ≡ kind_of f i a z
kind_is f fits a z b begun_before closed_after i low high =
    let not_closed : closed f i a ≡ false = sym (closed_are_counted f fits i a) ∙ le-ltb i (closed_count f a) low in
    let is_begun : begun f i z ≡ true = sym (begun_are_counted f fits i z) ∙ lt-ltb i (begun_count f z) high in
    let closes : closed f i z ≡ nat_lt i b.closed_after = sym (closed_are_counted f fits i z) ∙ ap (nat_lt i) (sym closed_after) in
    let before : begun f i a ≡ nat_lt i b.begun_before = sym (begun_are_counted f fits i a) ∙ ap (nat_lt i) (sym begun_before) in
    sym (λ j. cond (not_closed j) None (cond (is_begun j) (Some (cond (closes j) (cond (before j) Closing Complete) (cond (before j) Pending Opening))) None))

-- these counts are a task's bounds
pub are_bounds : (f : Frame) → Fits f → (a z : Mark) (b : Bounds)
    → b.begun_before ≡ begun_count f a → b.closed_after ≡ closed_count f z → AreBounds f a z b
are_bounds f fits a z b begun_before closed_after = record {
  begun_before = begun_before;
  closed_after = closed_after;
  kinds = kind_is f fits a z b begun_before closed_after;
}
