-- A checked plan with PARTITION BY groups rows over windows by rows, without a stream word.
use Rattle.std.proofs.Common.{◌≡◌, ℕ, ◌≤◌, List, [], ◌∷◌, length, Option, Some, None, refl, sym, ◌∙◌, ap, subst, arith}
use Rattle.saber_plan.specs.declared.plans.Shape.TheVariants.{Group}
use Rattle.saber_plan.specs.declared.plans.Word.{Word}
use Rattle.saber_plan.specs.declared.windows.Measure.TheVariants.{Rows}
use Rattle.saber_plan.specs.declared.windows.Stream.{Stream}
use Rattle.saber_plan.specs.declared.windows.Window.{Window}
use Rattle.saber_plan.specs.declared.plans.Plan.{Plan}
use Rattle.saber_plan.specs.Trees.{Tree, tree_of}
use Rattle.saber_plan.specs.Checked.{IsChecked, PartitionFits}
use Rattle.saber_plan.specs.Answers.{way_of}
use Rattle.saber_laws.specs.Plans.{OneWindow}
use Rattle.saber_partition.specs.Streams.{Asks}
use Rattle.saber_laws.proofs.CheckedLaws.{checked_fit, groups_have_one_window}

record Told (ks : List ℕ) (ss : List Stream) (word : Option Word) : Type 0 where
  pub first : ℕ
  pub rest : List ℕ
  pub lists : ks ≡ first ∷ rest
  pub no_word : word ≡ None
  pub stream : Stream
  pub window : Window
  pub streams : ss ≡ stream ∷ []
  pub windowed : stream.window ≡ Some window
  pub by_rows : window.measure ≡ Rows

told : (ks : List ℕ) (ss : List Stream) (word : Option Word) → PartitionFits ks Group ss word → 1 ≤ length ks → Told ks ss word
told [] ss word h l = absurd (omega (arith, l))
told (k ∷ ks) [] None h l = absurd h
told (k ∷ ks) [] (Some word) h l = absurd h
told (k ∷ ks) (s ∷ []) None h l = record { first = k; rest = ks; lists = refl; no_word = refl; stream = s; window = h.0; streams = refl; windowed = h.1; by_rows = h.2 }
told (k ∷ ks) (s ∷ []) (Some word) h l = absurd h
told (k ∷ ks) (s ∷ t ∷ ts) None h l = absurd h
told (k ∷ ks) (s ∷ t ∷ ts) (Some word) h l = absurd h

first_stream : Stream → List Stream → Stream
first_stream d [] = d
first_stream d (s ∷ ss) = s

some_window : Window → Option Window → Window
some_window d None = d
some_window d (Some w) = w

pub asks_of : (q : Tree) → IsChecked q → q.shape ≡ Group → 1 ≤ length q.partition → Asks q
unfolding first_stream some_window
asks_of q checked group some =
    let w : OneWindow q = groups_have_one_window q checked group in
    let t : Told q.partition q.streams q.word = told q.partition q.streams q.word (subst (λ s. PartitionFits q.partition s q.streams q.word) group checked.partition) some in
    let stream : t.stream ≡ w.stream = ap (first_stream t.stream) (sym t.streams ∙ w.streams) in
    let window : t.window ≡ w.window = ap (some_window t.window) (sym t.windowed ∙ ap (λ (s : Stream). s.window) stream ∙ w.windowed) in
    record {
      checked = checked;
      group = group;
      window = w;
      by_rows = ap (λ (v : Window). v.measure) (sym window) ∙ t.by_rows;
      fits = checked_fit q checked;
      has_lists = λ j. way_of (t.lists j) q.word;
      first = t.first;
      rest = t.rest;
      lists = t.lists;
    }

-- so does the plan that its operator is over
pub asks_in : {p : Plan} (q : Plan) → p ≡ q → IsChecked (tree_of p) → (tree_of p).shape ≡ Group → 1 ≤ length (tree_of p).partition → Asks (tree_of q)
asks_in {p} q e checked group some = subst (λ (r : Plan). Asks (tree_of r)) e (asks_of (tree_of p) checked group some)
