-- What a store of slices keeps and prints, whether windows print their lines or what they gain or lose.
use Rattle.std.proofs.Common.{◌≡◌, ℕ, ◌≤◌, List, [], ◌++◌, length, take, sym, ◌∙◌, ap, subst, arith}
use Rattle.std.specs.FinMap.{empty}
use Rattle.std.proofs.lemmas.List.{take_all}
use Rattle.saber_plan.specs.declared.rows.Row.{Row}
use Rattle.saber_plan.specs.declared.plans.Shape.TheVariants.{Group}
use Rattle.saber_plan.specs.Trees.{Tree}
use Rattle.saber_plan.specs.Inputs.{Input, first_arrivals}
use Rattle.saber_plan.specs.GivenRows.{RowsFit}
use Rattle.saber_plan.specs.Windows.{Fits, no_rows, closed_count, begun_count}
use Rattle.saber_plan.specs.Answers.{Answers, frame, window_answers, before_window, by_change, way, by_way}
use Rattle.saber_plan.specs.Facts.Kept.{alike_kept}
use Rattle.saber_plan.specs.Parts.{part_answers}
use Rattle.saber_plan.specs.Tasks.{Parts, Kept, by_windows, unclosed, unclosed_by_list, closed_at, last_answers, kept_behind, plain_added, list_added, change_added, added_text}
use Rattle.saber_fragment.specs.Stores.{Follows}
use Rattle.saber_changes.specs.declared.cancel.Change.{Change}
use Rattle.saber_changes.specs.Counts.{change_of}
use Rattle.saber_changes.specs.Walks.{changes_from}
use Rattle.saber_changes.specs.declared.output.Output.{Output}
use Rattle.saber_changes.specs.declared.output.Output.TheVariants.{Each, Delta}
use Rattle.saber_changes.specs.Outputs.{change_in, last_in, way_by, printed_from, IsBefore, Passed, StandsIn}
use Rattle.saber_changes.specs.OutputFacts.{each_way, printed_lines}
use Rattle.saber_group.specs.declared.slice_pieces.SlicePiece.{SlicePiece}
use Rattle.saber_group.specs.declared.slice_stores.SliceStore.{SliceStore}
use Rattle.saber_group.specs.SliceParts.{part_of, answers_over}
use Rattle.saber_group.specs.SlicePieces.{IsOf}
use Rattle.saber_group.specs.SliceStores.{held_in, kept_in, TakenIn, Answering, CanCome, Came, HasCome}
use Rattle.saber_group.proofs.Lasting.{part_whole}
use Rattle.saber_group.proofs.SliceKeeping.{held_is, added_is, old_rows, new_rows, all_rows, closed_end, comes, taken_after}
use Rattle.saber_laws.proofs.WordLaws.{answers_are_of_parts, last_answers_stay}

-- ---- what is added and kept, where windows print what they gain or lose

module _ (q : Tree) (change : Change) (e : way q ≡ by_change (change_of change)) where
  changed_added : (r : Input) (x y : ℕ) → added_text q r x y ≡ change_added (change_of change) q r x y
  unfolding added_text
  changed_added r x y = ap (λ w. by_way w (plain_added q r x y) (list_added q r x y) (λ c. change_added c q r x y)) e

  changed_kept : (r : Input) → kept_behind q r ≡ record { parts = unclosed q r; lists = empty; answers = last_answers q r }
  unfolding kept_behind
  changed_kept r = ap (λ w. by_way w (by_windows (unclosed q r)) (record { parts = empty; lists = unclosed_by_list q r; answers = [] })
      (λ c. record { parts = unclosed q r; lists = empty; answers = last_answers q r })) e

-- ---- and whatever they print

module _ (q : Tree) (shape : q.shape ≡ Group) where
  -- the answers of windows are those of the parts that slices make
  answers_are : (xs : List Row) → answers_over q no_rows xs ≡ (λ i. window_answers q i xs)
  answers_are xs = λ j i. one i j where
    one : (i : ℕ) → answers_over q no_rows xs i ≡ window_answers q i xs
    one i = sym (ap (window_answers q i) (sym (take_all (length xs) xs (omega arith))) ∙ answers_are_of_parts q i xs (length xs) ∙ ap (part_answers q) (part_whole q shape i xs))

  -- what windows print is what is added to the text
  printed_is : (o : Output) → way q ≡ way_by (change_in o) → (r : Input) (x y : ℕ) → printed_from (change_in o) (answers_over q no_rows (take y r.rows)) (closed_at q r x) (closed_at q r y) ≡ added_text q r x y
  printed_is Each w r x y = sym (printed_lines q (λ i. part_of q i no_rows (take y r.rows)) (closed_at q r x) (closed_at q r y)) ∙ added_is q shape w r x y
  printed_is (Delta change walk) w r x y = (λ j. changes_from change (answers_are (take y r.rows) j) (closed_at q r x) (closed_at q r y)) ∙ sym (changed_added q change w r x y)

  -- the answers kept of the window before the next one are also those that it has of more rows
  stands_is : (o : Output) → way q ≡ way_by (change_in o) → (next : ℕ) → IsBefore o next → (r : Input) (x y : ℕ) → Fits (frame q) → RowsFit q no_rows r.rows → x ≤ y → next ≡ closed_at q r x
      → last_in o ≡ (kept_behind q (first_arrivals r x)).answers → StandsIn (answers_over q no_rows (take y r.rows)) o
  stands_is Each w next here r x y windows fits rises next_is kept = tt
  stands_is (Delta change walk) w next here r x y windows fits rises next_is kept =
      kept ∙ ap (λ (k : Kept). k.answers) (changed_kept q change w (first_arrivals r x)) ∙ sym (last_answers_stay q windows r x y fits.ordered rises)
      ∙ (λ j. before_window (sym (answers_are (take y r.rows)) j) (sym (here ∙ next_is) j))

  last_is : (r : Input) (y n : ℕ) (last : Answers) → last ≡ before_window (answers_over q no_rows (take y r.rows)) n → n ≡ closed_at q r y → last ≡ last_answers q (first_arrivals r y)
  unfolding last_answers
  last_is r y n last e n_is = e ∙ (λ j. before_window (answers_are (take y r.rows) j) (n_is j))

  abbrev kept_of : Parts → Answers → Kept
  kept_of parts answers = record { parts = parts; lists = empty; answers = answers }

  -- what is kept is what is to be kept
  kept_is : (o : Output) → way q ≡ way_by (change_in o) → (next : ℕ) → IsBefore o next → (r : Input) (y : ℕ) → next ≡ closed_at q r y → StandsIn (answers_over q no_rows (take y r.rows)) o
      → (parts : Parts) → parts ≡ unclosed q (first_arrivals r y) → kept_of parts (last_in o) ≡ kept_behind q (first_arrivals r y)
  kept_is Each w next here r y next_is stands parts e = ap by_windows e ∙ sym (alike_kept q w (first_arrivals r y))
  kept_is (Delta change walk) w next here r y next_is stands parts e =
      let last = last_is r y walk.next walk.last stands (here ∙ next_is) in
      (λ j. kept_of (e j) (last j)) ∙ sym (changed_kept q change w (first_arrivals r y))

-- ---- one piece more

-- the piece follows what the store has taken in
abbrev pub Goes : Tree → SliceStore → SlicePiece → Input → ℕ → ℕ → Type 0
Goes q s p = Follows q (kept_in s) (λ u. TakenIn q u s) (λ r x y. IsOf q r x y p)

pub can_take : (q t : Tree) → q ≡ t → (r : Input) (x y : ℕ) (s : SliceStore) (p : SlicePiece) (closed : ℕ) → closed ≡ closed_count (frame q) p.after → Goes t s p r x y → CanCome q s.windows p.slices p.complete closed
can_take q t same r x y s p closed closed_is g =
    let f = subst (λ (u : Tree). Goes u s p r x y) (sym same) g in
    (old_rows q r x y s p (kept_in s) f, new_rows q r x y s p (kept_in s) f, (first_arrivals r y).ended, comes q r x y s p (kept_in s) f closed closed_is)

pub may_answer : (q : Tree) (r : Input) (x y : ℕ) (s : SliceStore) (p : SlicePiece) → Goes q s p r x y → Answering s.output p.complete
may_answer q r x y s p f = λ c e. each_way (change_in s.output) (sym f.taken_is.way_is ∙ f.of_is.may c e)

-- what comes of it
pub record Took (q : Tree) (r : Input) (x y : ℕ) (new : SliceStore) (before after : List ℕ) : Type 0 where
  pub adds : after ≡ before ++ added_text q r x y
  pub stays : kept_in new ≡ kept_behind q (first_arrivals r y)
  pub taken : TakenIn q (first_arrivals r y) new

module _ (q : Tree) (shape : q.shape ≡ Group) (s : SliceStore) (p : SlicePiece) (closed : ℕ) (closed_is : closed ≡ closed_count (frame q) p.after)
    (new : SliceStore) (begun : new.begun ≡ begun_count (frame q) p.after) (before after : List ℕ)
    (went : HasCome q s.windows s.output p.slices p.complete closed new.windows new.output before after) where
  module _ (r : Input) (x y : ℕ) (f : Goes q s p r x y) where
    abbrev old : List Row
    old = old_rows q r x y s p (kept_in s) f

    abbrev rows : List Row
    rows = new_rows q r x y s p (kept_in s) f

    all : old ++ rows ≡ take y r.rows
    all = all_rows q r x y s p (kept_in s) f

    end_is : closed ≡ closed_at q r y
    end_is = closed_end q r x y s p (kept_in s) f closed closed_is

    stands : StandsIn (answers_over q no_rows (old ++ rows)) s.output
    stands = subst (λ l. StandsIn (answers_over q no_rows l) s.output) (sym all)
        (stands_is q shape s.output f.taken_is.way_is s.windows.next f.taken_is.is_before r x y f.windows f.fits f.rises f.taken_is.next_is (ap (λ (k : Kept). k.answers) f.kept_is))

    there : Came q old rows s.windows.next new.windows.slices.entries closed new.windows.next s.output new.output before after
    there = went old rows (first_arrivals r y).ended (comes q r x y s p (kept_in s) f closed closed_is) stands

    passed : Passed (answers_over q no_rows (take y r.rows)) s.output new.output s.windows.next closed before after
    passed = subst (λ l. Passed (answers_over q no_rows l) s.output new.output s.windows.next closed before after) all there.passed

    way_is : way q ≡ way_by (change_in new.output)
    way_is = f.taken_is.way_is ∙ ap way_by (sym passed.same)

    taken_is : TakenIn q (first_arrivals r y) new
    taken_is = taken_after q r x y s p (kept_in s) f closed closed_is new begun there.done_is there.holds way_is there.is_before

    took_here : Took q r x y new before after
    took_here = record {
      adds = passed.text ∙ (λ j. before ++ printed_from (change_in s.output) (answers_over q no_rows (take y r.rows)) (f.taken_is.next_is j) (end_is j))
          ∙ ap (λ l. before ++ l) (printed_is q shape s.output f.taken_is.way_is r x y);
      stays = kept_is q shape new.output way_is closed there.is_before r y end_is passed.stands (held_in new) (held_is q shape (first_arrivals r y) new taken_is);
      taken = taken_is;
    }

  pub took : (t : Tree) → q ≡ t → (r : Input) (x y : ℕ) → Goes t s p r x y → Took t r x y new before after
  took t same = subst (λ (u : Tree). (r : Input) (x y : ℕ) → Goes u s p r x y → Took u r x y new before after) same took_here
