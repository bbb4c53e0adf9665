-- Points of rows, cut into panes: they don't fall, and the panes of a window are those of its points.
use Rattle.std.proofs.Common.{◌≡◌, ℕ, suc, ◌+◌, ◌*◌, ◌/◌, ◌≤◌, ◌<◌, List, [], ◌∷◌, map, filter, Bool, true, false, cond, not, ◌&&◌, nat_le, nat_lt, Some, refl, sym, ◌∙◌, ap, ap₂, subst, pos, arith}
use Rattle.std.specs.Int.{◌∣◌}
use Rattle.std.proofs.lemmas.Bool.{both_ways, leb-true, leb-false, le-leb, lt-leb}
use Rattle.std.proofs.lemmas.Nat.{le-div}
use Rattle.std.proofs.Math.Nat.{div-mul-le_self, div-lt_iff_lt-mul, le-div_iff_mul-le, div-mul_cancel, dvd-mul_left_of_dvd}
use Rattle.saber_plan.specs.declared.rows.Row.{Row}
use Rattle.saber_plan.specs.declared.rows.Side.{Side}
use Rattle.saber_plan.specs.declared.rows.Side.TheVariants.{Left, Right}
use Rattle.saber_plan.specs.declared.windows.Stream.{Stream}
use Rattle.saber_plan.specs.declared.windows.Mark.{Mark}
use Rattle.saber_plan.specs.declared.windows.Measure.{Measure}
use Rattle.saber_plan.specs.declared.windows.Measure.TheVariants.{Rows, Range}
use Rattle.saber_plan.specs.Checked.{columns_on}
use Rattle.saber_plan.specs.GivenRows.{IsRowOf}
use Rattle.saber_plan.specs.Trees.{Tree}
use Rattle.saber_plan.specs.Rows.{stamp}
use Rattle.saber_window.specs.Points.{point}
use Rattle.saber_plan.specs.Windows.{Placed, time, placed_after, step_mark, by_side, spans, Ordered, in_order, can_follow}
use Rattle.saber_plan.specs.Facts.Lists.{Each, each-weaker}
use Rattle.saber_panes.specs.Panes.{point_by}
use Rattle.saber_panes.proofs.PaneWindows.{Rises, within}

-- ---- the points of a group query's rows, which are of the one stream

left_only : (s : Stream) (side : Side) → 1 ≤ columns_on (s ∷ []) side → side ≡ Left
left_only s Left h = refl
left_only s Right h = absurd (omega (arith, h))

pub row_is_left : (q : Tree) (s : Stream) (r : Row) → q.streams ≡ s ∷ [] → IsRowOf q r → r.side ≡ Left
row_is_left q s r e h = left_only s r.side (subst (λ ss. 1 ≤ columns_on ss r.side) e h.stream)

pub point_of_left : (measure : Measure) (x : Placed) → x.row.side ≡ Left → point measure x ≡ point_by measure x
point_of_left Rows x e = ap (λ s. by_side s x.before.left x.before.right) e
point_of_left Range x e = refl

-- ---- points don't fall

left_grows : (t : ℕ) (m : Mark) (x : Row) → t ≤ m.left → t ≤ (step_mark m x).left
left_grows t m x l = elim x.side as (λ s. t ≤ by_side s (m.left + 1) m.left) [ Left ↦ omega (arith, l) | Right ↦ l ]

all_left : (t : ℕ) (m : Mark) (xs : List Row) → t ≤ m.left → Each (λ y. t ≤ y.before.left) (placed_after m xs)
unfolding placed_after
all_left t m [] l = tt
all_left t m (x ∷ xs) l = (l, all_left t (step_mark m x) xs (left_grows t m x l))

both_hold : (a b : Bool) → (a && b) ≡ true → b ≡ true
both_hold true b h = h
both_hold false b h = absurd (both_ways _ refl h)

later_time : (t u s : ℕ) (m : Mark) → m.last ≡ Some (pos u) → t ≤ u → can_follow m s ≡ true → t ≤ s
later_time t u s m e l o =
    let next = both_hold (not m.ended) (in_order m.last s) o in
    let low = leb-true u s (sym (ap (λ z. in_order z s) e) ∙ next) in
    omega (arith, l, low)

all_time : (t u : ℕ) (m : Mark) (xs : List Row) → m.last ≡ Some (pos u) → t ≤ u → Ordered m xs → Each (λ y. t ≤ time y) (placed_after m xs)
unfolding placed_after Ordered
all_time t u m [] e l o = tt
all_time t u m (x ∷ xs) e l o =
    let here = later_time t u (stamp x.values) m e l o.0 in
    (here, all_time t (stamp x.values) (step_mark m x) xs refl here o.1)

pub points_rise : (measure : Measure) (m : Mark) (xs : List Row) → Ordered m xs → Rises (point_by measure) (placed_after m xs)
unfolding placed_after Ordered
points_rise Rows m [] o = tt
points_rise Rows m (x ∷ xs) o = (all_left m.left (step_mark m x) xs (left_grows m.left m x (omega arith)), points_rise Rows (step_mark m x) xs o.1)
points_rise Range m [] o = tt
points_rise Range m (x ∷ xs) o = (all_time (stamp x.values) (stamp x.values) (step_mark m x) xs refl (omega arith) o.1, points_rise Range (step_mark m x) xs o.1)

div_stays : (a b g : ℕ) → 0 < g → a ≤ b → a / g ≤ b / g
div_stays a b g l h = let low = div-mul-le_self a g in le-div (a / g) b g l (omega (arith, low, h))

pub panes_rise : {X : Type 0} (p : X → ℕ) (g : ℕ) → 0 < g → (xs : List X) → Rises p xs → Rises (λ x. p x / g) xs
panes_rise p g l [] h = tt
panes_rise p g l (x ∷ xs) h = (each-weaker (λ y. p x ≤ p y) (λ y. p x / g ≤ p y / g) (λ y k. div_stays (p x) (p y) g l k) xs h.0, panes_rise p g l xs h.1)

-- ---- the panes of a window

from_case : (g a p : ℕ) → 0 < g → a / g * g ≡ a → (t : Bool) → nat_le a p ≡ t → nat_le (a / g) (p / g) ≡ t
from_case g a p l e true h = le-leb (a / g) (p / g) ((le-div_iff_mul-le l).1 (subst (λ n. n ≤ p) (sym e) (leb-true a p h)))
from_case g a p l e false h = lt-leb (a / g) (p / g) ((div-lt_iff_lt-mul l).1 (subst (λ n. p < n) (sym e) (leb-false a p h)))

to_case : (g a n p : ℕ) → 0 < g → n * g ≡ a → (t : Bool) → nat_lt p a ≡ t → nat_lt (p / g) n ≡ t
to_case g a n p l e true h = le-leb (suc (p / g)) n ((div-lt_iff_lt-mul l).1 (subst (λ k. p < k) (sym e) (leb-true (suc p) a h)))
to_case g a n p l e false h =
    let low = leb-false (suc p) a h in
    let there : a ≤ p = omega (arith, low) in
    let cut = (le-div_iff_mul-le l).1 (subst (λ k. k ≤ p) (sym e) there) in
    lt-leb (suc (p / g)) n (omega (arith, cut))

-- a window's points are those of its panes
pub spans_panes : (g slide size i p : ℕ) → 0 < g → g ∣ slide → g ∣ size → spans slide size i p ≡ within (λ n. n / g) (i * slide / g) (size / g) p
spans_panes g slide size i p l d e =
    let start : i * slide / g * g ≡ i * slide = div-mul_cancel g (dvd-mul_left_of_dvd g d i) in
    let long : size / g * g ≡ size = div-mul_cancel g e in
    let end : (i * slide / g + size / g) * g ≡ i * slide + size = omega (arith, start, long) in
    ap₂ (λ a b. a && b) (sym (from_case g (i * slide) p l start (nat_le (i * slide) p) refl)) (sym (to_case g (i * slide + size) (i * slide / g + size / g) p l end (nat_lt p (i * slide + size)) refl))

-- ---- rows chosen twice

pub filter-filter : {X : Type 0} (b c : X → Bool) (ps : List X) → filter c (filter b ps) ≡ filter (λ x. b x && c x) ps
filter-filter b c [] = refl
filter-filter b c (x ∷ ps) = elim (b x) as (λ t. filter c (cond t (x ∷ filter b ps) (filter b ps)) ≡ cond (t && c x) (x ∷ filter (λ x. b x && c x) ps) (filter (λ x. b x && c x) ps)) [
  | true ↦ ap (λ r. cond (c x) (x ∷ r) r) (filter-filter b c ps)
  | false ↦ filter-filter b c ps
]

pub filter-map : {X Y : Type 0} (v : X → Y) (c : Y → Bool) (ps : List X) → filter c (map v ps) ≡ map v (filter (λ x. c (v x)) ps)
filter-map v c [] = refl
filter-map v c (x ∷ ps) = elim (c (v x)) as (λ t. cond t (v x ∷ filter c (map v ps)) (filter c (map v ps)) ≡ map v (cond t (x ∷ filter (λ x. c (v x)) ps) (filter (λ x. c (v x)) ps))) [
  | true ↦ ap (λ r. v x ∷ r) (filter-map v c ps)
  | false ↦ filter-map v c ps
]
