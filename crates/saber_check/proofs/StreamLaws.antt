-- The streams of a query without a fault have windows and columns that fit.
use Rattle.std.proofs.Common.{◌≡◌, ℕ, ◌+◌, ◌^◌, ◌≤◌, le_trans, List, [], ◌∷◌, length, map, take, Bool, true, false, ◌&&◌, ◌||◌, not, ◌==◌, Option, Some, None, option_map, option_to_list, is_some, IfSome, nat_lt, if◌then◌else◌, refl, sym, ap, ◌∙◌, subst, arith}
use Rattle.std.specs.Option.{option_map_or}
use Rattle.std.proofs.lemmas.Bool.Decides.{nat_tests}
use Rattle.saber_plan.specs.declared.windows.Window.{Window as Plan_window}
use Rattle.saber_plan.specs.declared.windows.Stream.{Stream}
use Rattle.saber_plan.specs.declared.plans.Shape.TheVariants as shape
use Rattle.saber_plan.specs.Overlap.{overlap}
use Rattle.saber_plan.specs.Checked.{most_overlap, most_overlap_joined, WindowFits, Pairs, StreamsFit, ColumnsFit}
use Rattle.saber_query.specs.declared.fault.Cause.TheVariants as cause
use Rattle.saber_query.specs.declared.tree.Measure.{Measure}
use Rattle.saber_query.specs.declared.tree.Measure.TheVariants.{Rows, Range, Partition}
use Rattle.saber_query.specs.declared.tree.Window.{Window}
use Rattle.saber_query.specs.declared.tree.Source.{Source}
use Rattle.saber_query.specs.declared.tree.Decl.{Decl}
use Rattle.saber_query.specs.Trees.{Query}
use Rattle.saber_check.specs.Least.{row, each}
use Rattle.saber_check.specs.Widths.{measure_width, decl_width, name_width}
use Rattle.saber_check.specs.Names.{same, names, decls, names_stream, is_declared}
use Rattle.saber_check.specs.Faults.{is_out, most_windows, is_overlapping, is_join, sizes_faults, has_windows, may_partition, partition_of, same_measure, is_apart, is_group, is_selection, column_name_faults}
use Rattle.saber_check.specs.Walked.{measure_faults, window_faults, source_faults, second_faults, second_part_faults, decl_faults}
use Rattle.saber_check.specs.Plans.{columns, plan_measure, plan_window, plan_stream, plan_shape, streams}
use Rattle.saber_check.proofs.NoFaults.{before, behind, passes, rows_and, four_rows_and, first_part, other_parts, few, is_true, neither, not_both}

-- ---- windows

in_range : (n : ℕ) → is_out n ≡ false → (1 ≤ n) × (n ≤ 2 ^ 40)
in_range n e =
    let h = neither (nat_lt n 1) (nat_lt 1099511627776 n) e in
    (at_least n 1 h.0, at_least 1099511627776 n h.1)
  where
    at_least : (m n : ℕ) → nat_lt m n ≡ false → n ≤ m
    at_least m n e = grind (arith, nat_tests)

few_windows : (most : ℕ) (w : Window) → is_out w.size ≡ false → is_out w.slide ≡ false → is_overlapping most w ≡ false → overlap w.size w.slide ≤ most
few_windows most w a b e =
    let h : nat_lt most (overlap w.size w.slide) ≡ false = not_both (not (is_out w.size) && not (is_out w.slide)) (nat_lt most (overlap w.size w.slide)) e (ap (λ (x : Bool). not x && not (is_out w.slide)) a ∙ ap not b) in
    at_most (overlap w.size w.slide) h
  where
    at_most : (n : ℕ) → nat_lt most n ≡ false → n ≤ most
    at_most n e = grind (arith, nat_tests)

-- a window that fits, with so many windows at a point at most
pub record FitsIn (most : ℕ) (w : Window) : Type 0 where
  pub fits : WindowFits (plan_window w)
  pub few : overlap w.size w.slide ≤ most

most_case : (b : Bool) → (if b then most_overlap_joined else most_overlap) ≤ most_overlap
most_case true = omega arith
most_case false = omega arith

sizes_fit : (most i : ℕ) (w : Window) → most ≤ most_overlap → sizes_faults most i w ≡ [] → FitsIn most w
sizes_fit most i w low e =
    let h = rows_and (is_out w.size) (is_out w.slide) i (i + 2) cause.WindowRange cause.WindowRange (row (is_overlapping most w) i cause.Overlap) e in
    let few = few_windows most w h.0 h.1 (passes (is_overlapping most w) i cause.Overlap h.2) in
    record { fits = record { size = in_range w.size h.0; slide = in_range w.slide h.1; few = le_trans few low }; few = few }

window_fits : (q : Query) (i : ℕ) (w : Window) → window_faults q i w ≡ [] → FitsIn (most_windows q) w
unfolding window_faults
window_fits q i w e =
    let j = i + 1 + measure_width w.measure in
    sizes_fit (most_windows q) j w (most_case (is_join q)) (behind (measure_faults q (i + 1) w.measure) (sizes_faults (most_windows q) j w) e)

pub measure_passes : (q : Query) (i : ℕ) (w : Window) → window_faults q i w ≡ [] → measure_faults q (i + 1) w.measure ≡ []
unfolding window_faults
measure_passes q i w e = before (measure_faults q (i + 1) w.measure) (sizes_faults (most_windows q) (i + 1 + measure_width w.measure) w) e

-- the rows of a stream of FROM
pub record SourcePasses (q : Query) (i : ℕ) (s : Source) : Type 0 where
  pub declared : is_declared q s.name ≡ true
  pub bare : (is_some s.window && not (has_windows q)) ≡ false
  pub windowed : (has_windows q && not (is_some s.window)) ≡ false
  pub parted : (is_some (partition_of s) && not (may_partition q)) ≡ false
  pub fits : option_map_or (window_faults q (i + 1)) s.window [] ≡ []

pub source_passes : (q : Query) (i : ℕ) (s : Source) → source_faults q i s ≡ [] → SourcePasses q i s
unfolding source_faults
source_passes q i s e =
    let h = four_rows_and (not (is_declared q s.name)) (is_some s.window && not (has_windows q)) (has_windows q && not (is_some s.window)) (is_some (partition_of s) && not (may_partition q)) i (i + 1) i (i + 1) cause.UnknownStream cause.Shape cause.Shape cause.Shape (option_map_or (window_faults q (i + 1)) s.window []) e in
    record { declared = is_true (is_declared q s.name) h.0; bare = h.1; windowed = h.2; parted = h.3; fits = h.4 }

pub second_passes : (q : Query) (i : ℕ) (s : Source) → second_faults q i s ≡ [] → (is_apart q.from.window s.window ≡ false) × (source_faults q i s ≡ [])
unfolding second_faults
second_passes q i s e =
    let h = rows_and (same q.from.name s.name) (is_apart q.from.window s.window) i (i + 1) cause.DuplicateName cause.Shape (source_faults q i s) e in
    (h.1, h.2)

window_there : (q : Query) (i : ℕ) (o : Option Window) → is_some o ≡ true → option_map_or (window_faults q (i + 1)) o [] ≡ [] → (w : Window) × (o ≡ Some w) × FitsIn (most_windows q) w
window_there q i None t f = cc
window_there q i (Some w) t f = (w, refl, window_fits q (i + 1) w f)

-- a window that a stream has fits
some_fits : (q : Query) (i : ℕ) (o : Option Window) → option_map_or (window_faults q (i + 1)) o [] ≡ [] → IfSome (option_map plan_window o) WindowFits
some_fits q i None f = tt
some_fits q i (Some w) f = (window_fits q (i + 1) w f).fits

-- a stream that must have a window has one that fits
pub windowed : (q : Query) (i : ℕ) (s : Source) → has_windows q ≡ true → source_faults q i s ≡ [] → (w : Window) × (s.window ≡ Some w) × FitsIn (most_windows q) w
windowed q i s n e =
    let h = source_passes q i s e in
    window_there q i s.window (is_true (is_some s.window) (not_both (has_windows q) (not (is_some s.window)) h.windowed n)) h.fits

-- a query that is no selection has windows
no_selection : (q : Query) → is_selection q ≡ false → has_windows q ≡ true
no_selection q n = ap (λ (b : Bool). not b || is_some q.word) n

none_there : (o : Option Window) → is_some o ≡ false → o ≡ None
none_there None e = refl
none_there (Some w) e = cc

either_way : (a b : Bool) → (a && not b) ≡ false → b ≡ false → a ≡ false
either_way true true e h = cc
either_way true false e h = cc
either_way false b e h = refl

pub bare : (q : Query) (i : ℕ) (s : Source) → has_windows q ≡ false → source_faults q i s ≡ [] → s.window ≡ None
bare q i s n e = none_there s.window (either_way (is_some s.window) (has_windows q) (source_passes q i s e).bare n)

same_measures : (m n : Measure) → same_measure m n ≡ true → plan_measure m ≡ plan_measure n
same_measures Rows Rows e = refl
same_measures Rows Range e = cc
same_measures Rows (Partition h) e = refl
same_measures Range Rows e = cc
same_measures Range Range e = refl
same_measures Range (Partition h) e = cc
same_measures (Partition g) Rows e = refl
same_measures (Partition g) Range e = cc
same_measures (Partition g) (Partition h) e = refl

alike : (a b : Bool) → not (a && b) ≡ false → (a ≡ true) × (b ≡ true)
alike true true e = (refl, refl)
alike true false e = cc
alike false b e = cc

pairs : (v w : Window) → overlap v.size v.slide ≤ most_overlap_joined → overlap w.size w.slide ≤ most_overlap_joined → is_apart (Some v) (Some w) ≡ false → Pairs (plan_window v) (plan_window w)
pairs v w few more e =
    let h = alike (same_measure v.measure w.measure) (v.slide == w.slide) e in
    record { measure = same_measures v.measure w.measure h.0; slide = equal v.slide w.slide h.1; few_left = few; few_right = more }
  where
    equal : (m n : ℕ) → (m == n) ≡ true → m ≡ n
    equal m n e = grind (arith, nat_tests)

-- ---- the streams

-- what the plan's streams must fit, by what is behind the first
abbrev Fit : Query → Option Source → Type 0
Fit q o = StreamsFit (if is_some o then shape.Join else (if is_group q then shape.Group else shape.Select)) (map (plan_stream q) (q.from ∷ option_to_list o))

joins : (q : Query) (i j : ℕ) (s : Source) → q.second ≡ Some s → source_faults q i q.from ≡ [] → second_faults q j s ≡ [] → Fit q (Some s)
joins q i j s e f g =
    let n : has_windows q ≡ true = no_selection q (ap (λ (o : Option Source). not (is_some o) && not (is_group q)) e) in
    let h = second_passes q j s g in
    let a = windowed q i q.from n f in
    let b = windowed q j s n h.1 in
    let p : is_apart (Some a.0) (Some b.0) ≡ false = subst (λ (o : Option Window). is_apart o (Some b.0) ≡ false) a.1 (subst (λ (o : Option Window). is_apart q.from.window o ≡ false) b.1 h.0) in
    let joined : most_windows q ≡ most_overlap_joined = ap (λ (o : Option Source). if is_some o then most_overlap_joined else most_overlap) e in
    let few : (w : Window) → FitsIn (most_windows q) w → overlap w.size w.slide ≤ most_overlap_joined = λ w f. subst (λ n. overlap w.size w.slide ≤ n) joined f.few in
    (plan_window a.0, plan_window b.0, ap (option_map plan_window) a.1, ap (option_map plan_window) b.1, a.2.fits, b.2.fits, pairs a.0 b.0 (few a.0 a.2) (few b.0 b.2) p)

one_fits : (g : Bool) (s : Stream) → (g ≡ true → (w : Plan_window) × (s.window ≡ Some w) × WindowFits w) → IfSome s.window WindowFits → StreamsFit (if g then shape.Group else shape.Select) (s ∷ [])
one_fits true s a b = a refl
one_fits false s a b = b

alone : (q : Query) (i : ℕ) → q.second ≡ None → source_faults q i q.from ≡ [] → Fit q None
alone q i e f =
    let n : is_selection q ≡ not (is_group q) = ap (λ (o : Option Source). not (is_some o) && not (is_group q)) e in
    one_fits (is_group q) (plan_stream q q.from)
    (λ g. let a = windowed q i q.from (no_selection q (n ∙ ap not g)) f in (plan_window a.0, ap (option_map plan_window) a.1, a.2.fits))
    (some_fits q i q.from.window (source_passes q i q.from f).fits)

pub streams_fit : (q : Query) (i j : ℕ) → source_faults q i q.from ≡ [] → second_part_faults q j ≡ [] → StreamsFit (plan_shape q) (map (plan_stream q) (streams q))
streams_fit q i j f g = elim (q.second) as (λ (o : Option Source). q.second ≡ o → Fit q o) [
  | None ↦ λ e. alone q i e f
  | Some s ↦ λ e. joins q i (j + 1) s e f (sym (ap (λ (o : Option Source). option_map_or (second_faults q (j + 1)) o []) e) ∙ g)
] refl

-- ---- columns

named : (d : Decl) (i : ℕ) (n : List ℕ) → ¬ (column_name_faults d 32 i n ≡ [])
unfolding column_name_faults
named d i n e = cc

declares_few : (q : Query) (k i : ℕ) (d : Decl) → decl_faults q k i d ≡ [] → length (names d) ≤ 32
unfolding decl_faults
declares_few q k i d e =
    let h = rows_and (k == 8) (names_stream (take k (decls q)) d.name) i (i + 1) cause.TooMany cause.DuplicateName (each name_width (column_name_faults d) 0 (i + 3) (names d)) e in
    omega (arith, few name_width (column_name_faults d) 32 (named d) 0 (i + 3) (names d) (omega arith) h.2)

-- a stream that is declared has 1 to 32 columns
declared : (q : Query) (s : List ℕ) (k i : ℕ) (ds : List Decl) → names_stream ds s ≡ true → each decl_width (decl_faults q) k i ds ≡ [] → (1 ≤ columns ds s) × (columns ds s ≤ 32)
declared q s k i [] t e = cc
declared q s k i (d ∷ ds) t e = elim (same d.name s) as (λ (b : Bool). (b || names_stream ds s) ≡ true → (1 ≤ (if b then length (names d) else columns ds s)) × ((if b then length (names d) else columns ds s) ≤ 32)) [
  | true ↦ λ t. (omega arith, declares_few q k i d (first_part decl_width (decl_faults q) k i d ds e))
  | false ↦ λ t. declared q s (k + 1) (i + decl_width d + 1) ds t (other_parts decl_width (decl_faults q) k i d ds e)
] t

pub columns_fit : (q : Query) (k i j l : ℕ) → each decl_width (decl_faults q) k l (decls q) ≡ [] → source_faults q i q.from ≡ [] → second_part_faults q j ≡ [] → ColumnsFit (map (plan_stream q) (streams q))
columns_fit q k i j l d f g =
    let a = declared q q.from.name k l (decls q) (source_passes q i q.from f).declared d in
    elim (q.second) as (λ (o : Option Source). option_map_or (second_faults q (j + 1)) o [] ≡ [] → ColumnsFit (map (plan_stream q) (q.from ∷ option_to_list o))) [
      | None ↦ λ g. (a, tt)
      | Some s ↦ λ g. (a, (declared q s.name k l (decls q) (source_passes q (j + 1) s (second_passes q (j + 1) s g).1).declared d, tt))
    ] g
