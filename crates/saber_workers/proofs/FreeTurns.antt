-- A ring of any work whose turn is free, and what a query's stage has out.
use Rattle.std.proofs.Common.{◌^◌, ◌≡◌, ◌⊎◌, ◌≤◌, ◌<◌, ℕ, suc, ◌+◌, ◌*◌, ◌%◌, inl, inr, Bool, true, false, List, ◌++◌, get_or, length, refl, sym, ◌∙◌, ap, subst, le_refl, arith}
use mathlib.Core.Option.{some}
use lib.ListN.{get_elem?}
use Rattle.std.specs.Prelude.{Option}
use Rattle.saber_plan.specs.Outputs.{raised_by, appended_text}
use Rattle.saber_plan.specs.Runs.{tasks_with_text}
use Rattle.saber_plan.specs.Inputs.{Input}
use Rattle.saber_plan.specs.Trees.{Tree}
use Rattle.saber_plan.specs.Answers.{text}
use Rattle.saber_plan.specs.Tasks.{Kept, upto, kept_behind}
use Rattle.saber_laws.proofs.TaskCutLaws.{first_of_first}
use Rattle.saber_laws.proofs.WriteLaws.{first_with_text}
use Rattle.saber_ring.specs.declared.view.SlotValue.TheVariants as slot
use Rattle.saber_ring.specs.declared.view.TurnState.TheVariants.{Open, TookPiece, TookMark, WonStopped, Leaving}
use Rattle.saber_ring.specs.Shows.{RingPhase, idle, ready, held, done, taken, past, number_of, RingState, RingTurn, won_by, turn_word, extra, Fits, TurnFits, TakenBy, StageHome, AtHome}
use Rattle.saber_ring.specs.Shows as ring
use Rattle.saber_ring.specs.Plays.{turn_behind}
use Rattle.saber_ring.specs.Laws.{TableOf, IsTable}
use Rattle.saber_assembly.specs.declared.stage.Stage.{Stage}
use Rattle.saber_plan.specs.declared.stages.StageState.{StageState}
use Rattle.saber_plan.specs.declared.stages.StageState.TheVariants.{Running, SinkFailed, NoMemory}
use Rattle.saber_assembly.specs.declared.work.RunData.{RunData}
use Rattle.saber_assembly.specs.Stages.{stage_view}
use Rattle.saber_plan.specs.Stages.{StageView, Start, After}
use Rattle.saber_plan.specs.Runs.{IsCut}
use Rattle.saber_assembly.specs.Works.{input_of, first_tasks, start_of, IsStageOf}
use Rattle.saber_assembly.specs.WorkLaws.{keeps_on}
use Rattle.saber_workers.specs.Free.{HasOut, IsToDo, IsHandedIn, IsTaken}

-- ---- the word of the turn

even_free : (k : ℕ) (x : RingTurn) (n : ℕ) → turn_word k x ≡ n → n % 2 ≡ 0 → (y : Bool) × (x ≡ ring.free y)
even_free k (ring.free y) n e even = (y, refl)
even_free k (won_by j Open) n e even = absurd (omega arith)
even_free k (won_by j TookPiece) n e even = absurd (omega arith)
even_free k (won_by j TookMark) n e even = absurd (omega arith)
even_free k (won_by j WonStopped) n e even = absurd (omega arith)
even_free k (won_by j Leaving) n e even = absurd (omega arith)

behind_of : (k : ℕ) (y : Bool) → k ≤ 2 ^ 42 → turn_behind (turn_word k (ring.free y)) ≡ k
behind_of k false le = omega arith
behind_of k true le = omega arith

-- ---- the ring of any work

module _ {T R P S : Type 0} (is_told : T → ℕ → Type 0) (cut : T → ℕ → T) (first : T → ℕ → ℕ) (is_rows : T → ℕ → R → Type 0)
    (is_piece : T → ℕ → P → Type 0) (is_stage : T → ℕ → Bool → S → Type 0) (size : ℕ) (s : TableOf is_told cut first is_rows is_piece is_stage) (b : RingState T) where
  -- while the turn is free the stage is at home, stopped or not, with the assembled tasks behind it
  pub record AtRest : Type 0 where
    pub halted : Bool
    pub turn_is : b.turn ≡ ring.free halted
    pub word : get_or s.words 0 0 ≡ turn_word b.assembled (ring.free halted)
    pub shown : turn_behind (get_or s.words 0 0) ≡ b.assembled
    pub given : b.assembled ≡ b.given
    pub stage : S
    pub at_home : get_elem? s.homes 0 ≡ some (some (slot.Stage stage))
    pub stage_is : is_stage (cut b.told (b.assembled + extra halted)) b.assembled halted stage

  -- a task that isn't assembled is to do, or handed in; where the stage stopped the first one was taken
  abbrev pub IsUnderWay : Bool → ℕ → Type 0
  IsUnderWay halted t =
      IsToDo size s.words s.homes t ⊎ (IsHandedIn size s.words s.homes t (is_piece (cut b.told (t + 1)) t) ⊎ ((t ≡ b.assembled) × (halted ≡ true) × IsTaken size s.words s.homes t))

  module _ (sh : IsTable is_told cut first is_rows is_piece is_stage size s b) where
    few : b.assembled ≤ 2 ^ 42
    few = let k = sh.shape in let a = k.assembled_given in let g = k.given_filled in let f = k.filled_end in omega (arith, a, g, f)

    rests : (y : Bool) → b.turn ≡ ring.free y → AtRest
    rests y is =
        let fits = subst (TurnFits b (length s.views)) is sh.shape.turn_fits in
        let home = subst (StageHome is_told cut first is_rows is_piece is_stage size s b) is sh.home.stage in
        let word : get_or s.words 0 0 ≡ turn_word b.assembled (ring.free y) = sh.shape.turn_is ∙ ap (turn_word b.assembled) is in
        record {
          halted = y;
          turn_is = is;
          word = word;
          shown = ap turn_behind word ∙ behind_of b.assembled y few;
          given = fits.0;
          stage = home.0;
          at_home = home.1;
          stage_is = subst (λ k. is_stage (cut b.told (k + extra y)) k y home.0) (sym fits.0) home.2;
        }

    pub at_rest : get_or s.words 0 0 % 2 ≡ 0 → AtRest
    at_rest even = let f = even_free b.assembled b.turn (get_or s.words 0 0) (sym sh.shape.turn_is) even in rests f.0 f.1

    under_way : (y : Bool) (t : ℕ) (x : RingPhase) → b.turn ≡ ring.free y → b.assembled ≡ b.given → b.assembled ≤ t → t < b.filled → Fits size b (length s.views) t x
        → get_or s.words (t % size + 1) 0 ≡ 8 * t + number_of x → AtHome cut is_rows is_piece is_stage b.told (get_elem? s.homes (t % size + 1)) t x → IsUnderWay y t
    under_way y t idle turn given low high fits word home = absurd (omega (arith, high, fits))
    under_way y t ready turn given low high fits word home = inl (inl word)
    under_way y t (held j) turn given low high fits word home = inl (inr word)
    under_way y t (done false) turn given low high fits word home = inr (inl (inl (record { word = word; piece = home.0; in_place = home.1; own = home.2 })))
    under_way y t (done true) turn given low high fits word home = inr (inl (inr (record { word = word; in_place = home })))
    under_way y t (taken false) turn given low high fits word home = inr (inr (fits.0 ∙ sym given, subst (TakenBy false) turn fits.2, inl word))
    under_way y t (taken true) turn given low high fits word home = inr (inr (fits.0 ∙ sym given, subst (TakenBy true) turn fits.2, inr word))
    under_way y t past turn given low high fits word home = absurd (omega (arith, given, low, fits))

    pub all_under_way : (rest : AtRest) (t : ℕ) → b.assembled ≤ t → t < b.filled → IsUnderWay rest.halted t
    all_under_way rest t low high =
        let k = sh.shape in let room = k.filled_room in let same = rest.given in
        let from : b.given ≤ t = omega (arith, low, same) in let near : t < b.given + size = omega (arith, high, room) in
        under_way rest.halted t (b.phase t) rest.turn_is rest.given low high (k.each_task t) (k.each_word t from near) (sh.home.each_cell t from near)

-- ---- what a stage wrote, by the rows of later tasks too

cut_on : (q : Tree) (n : ℕ) (r : Input) (d k : ℕ) (out : List ℕ) → k + 1 ≤ d → IsCut q n (upto n r d) k out → IsCut q n r k out
cut_on q n r d k out le is =
    let same : upto n (upto n r d) k ≡ upto n r k = first_of_first n r d k (omega (arith, le)) in
    let next : upto n (upto n r d) (k + 1) ≡ upto n r (k + 1) = first_of_first n r d (k + 1) le in
    record {
      more = is.more;
      rest = is.rest;
      out_is = is.out_is ∙ ap (λ z. text q z ++ is.more) same;
      next_is = sym (ap (text q) next) ∙ is.next_is ∙ ap (λ z. text q z ++ (is.more ++ is.rest)) same;
    }

after_on : (q : Tree) (n : ℕ) (r : Input) (d : ℕ) (start : Start) (v : StageView) (x : StageState) → v.k + 1 ≤ d
    → After q n (upto n r d) start v x → After q n r start v x
after_on q n r d start v Running le a =
    let same : upto n (upto n r d) v.k ≡ upto n r v.k = first_of_first n r d v.k (omega (arith, le)) in
    (a.0 ∙ ap (λ z. appended_text start.written (text q z)) same, a.1 ∙ ap (kept_behind q) same, a.2, a.3 ∙ ap (raised_by start.writes) (first_with_text q n r d v.k (omega (arith, le))))
after_on q n r d start v SinkFailed le a =
    (record { out = a.0.out; written_is = a.0.written_is; is_cut = cut_on q n r d v.k a.0.out le a.0.is_cut }, a.1, a.2, a.3 ∙ ap (λ m. raised_by start.writes (suc m)) (first_with_text q n r d v.k (omega (arith, le))))
after_on q n r d start v NoMemory le a =
    let same : upto n (upto n r d) v.k ≡ upto n r v.k = first_of_first n r d v.k (omega (arith, le)) in
    (a.0 ∙ ap (λ z. appended_text start.written (text q z)) same, a.1, a.2 ∙ ap (raised_by start.writes) (first_with_text q n r d v.k (omega (arith, le))))

-- ---- the stage of a query

module _ {O S K : Type 0} (plan : O → Tree) (contents : S → Kept) (taken_in : O → S → Input → Type 0) (written : K → Option (List ℕ)) (faults writes : K → ℕ) (told : RunData O) where
  abbrev StageAt : RunData O → ℕ → Bool → Stage S K → Type 0
  StageAt = IsStageOf plan (stage_view contents written faults writes) taken_in

  abbrev q : Tree
  q = plan told.operator

  abbrev n : ℕ
  n = told.size

  abbrev r : Input
  r = input_of told

  -- one that runs, with k tasks behind it
  pub runs_out : (k : ℕ) (st : Stage S K) → StageAt (first_tasks told k) k false st → HasOut plan contents written faults writes told k st
  runs_out k st has =
      let kept = keeps_on plan contents taken_in written faults writes told k st has in
      let v : StageView = stage_view contents written faults writes st in
      let a : After q n r (start_of told) v Running = subst (After q n r (start_of told) v) (has.runs refl) kept.after in
      record {
        behind = has.behind;
        sink = λ run. a.0 ∙ ap (λ j. appended_text told.written (text q (upto n r j))) has.behind;
        kept = λ run. a.1 ∙ ap (λ j. kept_behind q (upto n r j)) has.behind;
        good = λ run. a.2;
        writes_are = λ run. a.3 ∙ ap (λ j. raised_by told.writes (tasks_with_text q n r j)) has.behind;
        stopped = λ stop. kept.after;
      }

  -- one that stopped at task k
  pub stops_out : (k : ℕ) (st : Stage S K) → StageAt (first_tasks told (k + 1)) k true st → HasOut plan contents written faults writes told k st
  stops_out k st has =
      let v : StageView = stage_view contents written faults writes st in
      record {
        behind = has.behind;
        sink = λ run. absurd (has.stops refl run);
        kept = λ run. absurd (has.stops refl run);
        good = λ run. absurd (has.stops refl run);
        writes_are = λ run. absurd (has.stops refl run);
        stopped = λ stop. after_on q n r (k + 1) (start_of told) v st.state (subst (λ j. j + 1 ≤ k + 1) (sym has.behind) (le_refl (k + 1))) has.keeps.after;
      }
