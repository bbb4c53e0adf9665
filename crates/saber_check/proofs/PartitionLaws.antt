-- The columns of PARTITION BY and the word of a query without a fault fit its plan.
use Rattle.std.proofs.Common.{◌≡◌, ℕ, ◌+◌, List, [], ◌∷◌, map, Bool, true, false, ◌&&◌, ◌||◌, not, Option, Some, None, option_map, option_and_then, option_to_list, is_some, if◌then◌else◌, refl, sym, ap, ◌∙◌, subst, arith}
use Rattle.std.specs.Option.{option_map_or}
use Rattle.saber_plan.specs.declared.windows.Stream.{Stream}
use Rattle.saber_plan.specs.declared.plans.Shape.{Shape}
use Rattle.saber_plan.specs.declared.plans.Shape.TheVariants as shape
use Rattle.saber_plan.specs.declared.plans.Word.{Word}
use Rattle.saber_plan.specs.Checked.{WordFits, PartitionFits}
use Rattle.saber_query.specs.declared.tree.Measure.{Measure}
use Rattle.saber_query.specs.declared.tree.Measure.TheVariants.{Rows, Range, Partition}
use Rattle.saber_query.specs.declared.tree.Window.{Window}
use Rattle.saber_query.specs.declared.tree.Source.{Source}
use Rattle.saber_query.specs.declared.tree.StreamWord.{StreamWord}
use Rattle.saber_query.specs.Trees.{Query}
use Rattle.saber_check.specs.Faults.{any_aggregate, items, keys, is_join, is_group, measure_keys, may_partition}
use Rattle.saber_check.specs.Walked.{measure_faults, window_faults, source_faults}
use Rattle.saber_check.specs.Plans.{plan_place, plan_measure, plan_window, plan_stream, plan_shape, plan_word, streams, places, plan_partition}
use Rattle.saber_check.proofs.NoFaults.{is_true}
use Rattle.saber_check.proofs.ColumnLaws.{AreDeclared}
use Rattle.saber_check.proofs.ItemLaws.{PlacesFit, places_fit}
use Rattle.saber_check.proofs.StreamLaws.{source_passes, measure_passes, windowed, bare}

none_there : {X : Type 0} (o : Option X) → is_some o ≡ false → o ≡ None
none_there None e = refl
none_there (Some x) e = cc

both : (a b : Bool) → (a && b) ≡ true → (a ≡ true) × (b ≡ true)
both true b e = (refl, e)
both false b e = cc

is_false : (b : Bool) → not b ≡ true → b ≡ false
is_false true e = cc
is_false false e = refl

-- a query that may have PARTITION BY has one stream, groups, and no word
record MayPart (q : Query) : Type 0 where
  alone : q.second ≡ None
  grouped : is_group q ≡ true
  bare : q.word ≡ None

may_part : (q : Query) → may_partition q ≡ true → MayPart q
may_part q e =
    let h = both (is_group q) (not (is_some q.word)) e in
    let g = both (not (is_join q)) (any_aggregate (items q) || is_some q.group) h.0 in
    record { alone = none_there q.second (is_false (is_some q.second) g.0); grouped = h.0; bare = none_there q.word (is_false (is_some q.word) h.1) }

-- ---- PARTITION BY

abbrev Parted : Query → List ℕ → Type 0
Parted q ks = PartitionFits ks (plan_shape q) (map (plan_stream q) (streams q)) (option_map plan_word q.word)

group_shape : (q : Query) → MayPart q → plan_shape q ≡ shape.Group
group_shape q m =
    ap (λ (o : Option Source). if is_some o then shape.Join else (if is_group q then shape.Group else shape.Select)) m.alone
    ∙ ap (λ (b : Bool). if b then shape.Group else shape.Select) m.grouped

one_stream : (q : Query) → MayPart q → map (plan_stream q) (streams q) ≡ plan_stream q q.from ∷ []
one_stream q m = ap (λ (o : Option Source). map (plan_stream q) (q.from ∷ option_to_list o)) m.alone

moved : (ks : List ℕ) (s t : Shape) (xs ys : List Stream) (v w : Option Word) → s ≡ t → xs ≡ ys → v ≡ w → PartitionFits ks t ys w → PartitionFits ks s xs v
moved ks s t xs ys v w e f g h = subst (λ z. PartitionFits ks z xs v) (sym e) (subst (λ z. PartitionFits ks t z v) (sym f) (subst (λ z. PartitionFits ks t ys z) (sym g) h))

by_measure : (q : Query) (w : Window) (m : Measure) → q.from.window ≡ Some w → w.measure ≡ m → (is_some (measure_keys m) && not (may_partition q)) ≡ false → Parted q (places q (measure_keys m))
by_measure q w Rows h r e = tt
by_measure q w Range h r e = tt
by_measure q w (Partition g) h r e =
    let m = may_part q (is_true (may_partition q) e) in
    moved (map (plan_place q) (keys g)) (plan_shape q) shape.Group (map (plan_stream q) (streams q)) (plan_stream q q.from ∷ []) (option_map plan_word q.word) None (group_shape q m) (one_stream q m) (ap (option_map plan_word) m.bare) (plan_window w, ap (option_map plan_window) h, ap plan_measure r)

by_window : (q : Query) (o : Option Window) → q.from.window ≡ o → (is_some (option_and_then (λ (w : Window). measure_keys w.measure) o) && not (may_partition q)) ≡ false → Parted q (places q (option_and_then (λ (w : Window). measure_keys w.measure) o))
by_window q None h e = tt
by_window q (Some w) h e = by_measure q w w.measure h refl e

pub partition_fits : (q : Query) (i : ℕ) → source_faults q i q.from ≡ [] → Parted q (plan_partition q)
partition_fits q i f = by_window q q.from.window refl (source_passes q i q.from f).parted

-- its columns
of_measure : (q : Query) (i : ℕ) (m : Measure) → AreDeclared q → (is_some (measure_keys m) && not (may_partition q)) ≡ false → measure_faults q i m ≡ [] → PlacesFit q (places q (measure_keys m))
of_measure q i Rows d e f = (omega arith, tt)
of_measure q i Range d e f = (omega arith, tt)
of_measure q i (Partition g) d e f = places_fit q g (i + 2) (may_part q (is_true (may_partition q) e)).alone d f

of_window : (q : Query) (i : ℕ) (o : Option Window) → AreDeclared q → (is_some (option_and_then (λ (w : Window). measure_keys w.measure) o) && not (may_partition q)) ≡ false → option_map_or (window_faults q i) o [] ≡ [] → PlacesFit q (places q (option_and_then (λ (w : Window). measure_keys w.measure) o))
of_window q i None d e f = (omega arith, tt)
of_window q i (Some w) d e f = of_measure q (i + 1) w.measure d e (measure_passes q i w f)

pub lists_fit : (q : Query) (i : ℕ) → AreDeclared q → source_faults q i q.from ≡ [] → PlacesFit q (plan_partition q)
lists_fit q i d f = let h = source_passes q i q.from f in of_window q (i + 1) q.from.window d h.parted h.fits

-- ---- the word

alone_fits : (q : Query) (i : ℕ) (g : Bool) → is_group q ≡ g → q.second ≡ None → source_faults q i q.from ≡ [] → (o : Option StreamWord) → q.word ≡ o → WordFits (if g then shape.Group else shape.Select) (plan_stream q q.from ∷ []) (option_map plan_word o)
alone_fits q i true h n f o e = tt
alone_fits q i false h n f None e = ap (option_map plan_window) (bare q i q.from (none h n e) f)
  where
    none : is_group q ≡ false → q.second ≡ None → q.word ≡ None → (not (not (is_some q.second) && not (is_group q)) || is_some q.word) ≡ false
    none h n e =
        ap (λ (o : Option Source). not (not (is_some o) && not (is_group q)) || is_some q.word) n
        ∙ ap (λ (b : Bool). not (not b) || is_some q.word) h
        ∙ ap (λ (o : Option StreamWord). is_some o) e
alone_fits q i false h n f (Some w) e =
    let a = windowed q i q.from (worded (not (not (is_some q.second) && not (is_group q))) q.word e) f in
    (plan_window a.0, ap (option_map plan_window) a.1)
  where
    worded : (b : Bool) (o : Option StreamWord) → o ≡ Some w → (b || is_some o) ≡ true
    worded true o e = refl
    worded false o e = ap (λ (p : Option StreamWord). is_some p) e

pub word_fits : (q : Query) (i : ℕ) → source_faults q i q.from ≡ [] → WordFits (plan_shape q) (map (plan_stream q) (streams q)) (option_map plan_word q.word)
word_fits q i f = elim (q.second) as (λ (o : Option Source). q.second ≡ o → WordFits (if is_some o then shape.Join else (if is_group q then shape.Group else shape.Select)) (map (plan_stream q) (q.from ∷ option_to_list o)) (option_map plan_word q.word)) [
  | None ↦ λ n. alone_fits q i (is_group q) refl n f q.word refl
  | Some s ↦ λ n. tt
] refl
