-- One cutter for several queries of one stream.
use Rattle.std.proofs.Common.{◌≡◌, ℕ, false, List, [], ◌∷◌, length, sym, ◌∙◌, ap, subst, arith, ◌&&◌}
use Rattle.std.specs.Prelude.{Result, Ok, Err, IfOk}
use Rattle.std.specs.List.{AllByRecursion}
use Rattle.saber_plan.specs.declared.rows.Side.TheVariants.{Left}
use Rattle.saber_plan.specs.declared.sizes.Sizes.{Sizes}
use Rattle.saber_plan.specs.declared.windows.Stream.{Stream}
use Rattle.saber_plan.specs.Answers.{frame}
use Rattle.saber_plan.specs.Checked.{IsChecked, columns_on}
use Rattle.saber_plan.specs.Sizes.{FileLimits, SizesFit, limits_of}
use Rattle.saber_plan.specs.Trees.{Tree}
use Rattle.saber_plan.specs.Windows.{has_windows}
use Rattle.saber_dispatch.specs.declared.cutter.Cutter.{Cutter}
use Rattle.saber_dispatch.specs.Cutting.{CutsNothing, end_counts, fresh, fresh_on}
use Rattle.saber_dispatch.specs.Ending.{without_end}
use Rattle.saber_dispatch.specs.Readings.{one_new}
use Rattle.saber_dispatch.specs.Serving.{AreCutAlike}
use Rattle.saber_engine.specs.Jobs.{MayShare}
use Rattle.saber_engine.proofs.Shapes.{no_join}

one_reader : (q : Tree) (l : FileLimits) (streams : List Stream) → length streams ≡ 1 → fresh_on q l streams ≡ one_new (columns_on q.streams Left) l
one_reader q l [] e = absurd (omega (arith, e))
one_reader q l (s ∷ []) e = λ i. one_new (columns_on q.streams Left) l
one_reader q l (s ∷ t ∷ more) e = absurd (omega (arith, e))

-- the reader of a query that may share its input
reads : (q : Tree) (l : FileLimits) (columns : ℕ) → MayShare columns q → fresh q l ≡ one_new columns l
reads q l columns may = one_reader q l q.streams may.one ∙ ap (λ c. one_new c l) may.columns_are

-- no end counts where that is not asked for
no_end : (q : Tree) (s : Sizes) → s.flush ≡ false → end_counts q s ≡ false
no_end q s e = ap (λ b. b && has_windows (frame q)) e

alike : (s : Sizes) → s.flush ≡ false → (columns : ℕ) (q p : Tree) → MayShare columns q → MayShare columns p → AreCutAlike s q p
alike s e columns q p may too = record {
  reader = reads q (limits_of s) columns may ∙ sym (reads p (limits_of s) columns too);
  ends = no_end q s e ∙ sym (no_end p s e);
  alone = (λ j. no_join q.shape q.streams j may.checked.streams may.one, λ j. no_join p.shape p.streams j too.checked.streams too.one);
}

module _ {A : Type 0} (tree : A → Tree) (s : Sizes) (flush : s.flush ≡ false) (c : Cutter) (q : Tree) (serves : (p : Tree) → IsChecked p → AreCutAlike s q p → CutsNothing p s c) (columns : ℕ) (may : MayShare columns q) where
  all : (qs : List A) → AllByRecursion (λ a. MayShare columns (tree a)) qs → AllByRecursion (λ a. CutsNothing (tree a) s c) qs
  all [] each = tt
  all (a ∷ qs) each = (serves (tree a) each.0.checked (alike s flush columns q (tree a) may each.0), all qs each.1)

-- the first one's serves all
pub serves_all : {A : Type 0} (tree : A → Tree) (s : Sizes) → s.flush ≡ false → (c : Cutter) (a : A) (others qs : List A) → qs ≡ a ∷ others → ((p : Tree) → IsChecked p → AreCutAlike s (tree a) p → CutsNothing p s c)
    → (columns : ℕ) × AllByRecursion (λ a. MayShare columns (tree a)) qs → AllByRecursion (λ a. CutsNothing (tree a) s c) qs
serves_all tree s flush c a others qs e serves (columns, each) =
    let these = subst (AllByRecursion (λ a. MayShare columns (tree a))) e each in
    subst (AllByRecursion (λ a. CutsNothing (tree a) s c)) (sym e) (all tree s flush c (tree a) serves columns these.0 (a ∷ others) these)

-- each that may share is checked
pub all_checked : {A : Type 0} (tree : A → Tree) (columns : ℕ) (qs : List A) → AllByRecursion (λ a. MayShare columns (tree a)) qs → AllByRecursion (λ a. IsChecked (tree a)) qs
all_checked tree columns [] each = tt
all_checked tree columns (a ∷ qs) each = (each.0.checked, all_checked tree columns qs each.1)

-- those that are checked, of one stream and of as many columns, may share their input
pub all_share : {A : Type 0} (tree : A → Tree) (columns : ℕ) (qs : List A) → AllByRecursion (λ a. IsChecked (tree a)) qs → AllByRecursion (λ a. length (tree a).streams ≡ 1) qs
    → AllByRecursion (λ a. columns_on (tree a).streams Left ≡ columns) qs → AllByRecursion (λ a. MayShare columns (tree a)) qs
all_share tree columns [] checked one alike = tt
all_share tree columns (a ∷ qs) checked one alike = (record { checked = checked.0; one = one.0; columns_are = alike.0 }, all_share tree columns qs checked.1 one.1 alike.1)

-- where there is one
pub serves_ok : {A F : Type 0} (tree : A → Tree) (s : Sizes) → s.flush ≡ false → (a : A) (others qs : List A) → qs ≡ a ∷ others → (columns : ℕ) × AllByRecursion (λ a. MayShare columns (tree a)) qs
    → (r : Result Cutter F) → IfOk r (λ c. (p : Tree) → IsChecked p → AreCutAlike s (tree a) p → CutsNothing p s c) → IfOk r (λ c. AllByRecursion (λ a. CutsNothing (tree a) s c) qs)
serves_ok tree s flush a others qs e share (Ok c) serves = serves_all tree s flush c a others qs e serves share
serves_ok tree s flush a others qs e share (Err f) serves = tt

-- sizes fit as well where the end of the input is no task
pub still_fit : (s : Sizes) → SizesFit s → SizesFit (without_end s)
still_fit s f = record { task = f.task; ring = f.ring; threads = f.threads; lines = f.lines; slack = f.slack }
