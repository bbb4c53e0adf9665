-- What was taken of inputs of which a read failed.
use Rattle.std.proofs.Common.{◌≡◌, ◌≤◌, ◌<◌, ℕ, ◌+◌, ◌*◌, ◌/◌, min, length, List, [], ◌∷◌, ◌++◌, take, true, false, Option, refl, sym, ◌∙◌, ap, subst, arith, append-nil, length-append}
use Rattle.std.proofs.Math.Nat.{lt_of_mul-lt-mul_right, mul-le-mul_right}
use Rattle.std.proofs.lemmas.List.{take-append-le}
use Rattle.saber_plan.specs.Sizes.{FileLimits, limits_of}
use Rattle.saber_plan.specs.declared.rows.Row.{Row}
use Rattle.saber_plan.specs.declared.rows.Side.{Side}
use Rattle.saber_plan.specs.declared.rows.Side.TheVariants.{Left, Right}
use Rattle.saber_plan.specs.declared.windows.Stream.{Stream}
use Rattle.saber_plan.specs.declared.sizes.Sizes.{Sizes}
use Rattle.saber_plan.specs.Rows.{Read, whole, rows, cut as unfinished}
use Rattle.saber_plan.specs.Inputs.{Input, input, merged_read, going_on}
use Rattle.saber_plan.specs.Trees.{Tree}
use Rattle.saber_plan.specs.Tasks.{upto}
use Rattle.saber_laws.specs.Fronts.{IsFirstOf}
use Rattle.saber_rows.specs.Reader as readers
use Rattle.saber_rows.specs.Reader.{new_reader, CanFollow, nothing, NeedsMore}
use Rattle.saber_rows.specs.Calls.{Moves}
use Rattle.saber_rows.specs.Merging.{Merger, new_merger, MergeMoves, MergeNeeds}
use Rattle.saber_dispatch.specs.declared.ends.End.TheVariants.{ReadFault}
use Rattle.saber_dispatch.specs.declared.cutter.Cutter.{Cutter}
use Rattle.saber_dispatch.specs.Readings.{Reading, one, two, reading_of, ReadMoves, ReadNeeds}
use Rattle.saber_dispatch.specs.Filling.{prepend}
use Rattle.saber_dispatch.specs.Cutting.{Cuts, CutState, CutOff, fresh_on}
use Rattle.saber_plan.specs.Files.{rules_on, wholes}
use Rattle.saber_dispatch.specs.Leaving.{GaveAll, ReadsWhole, FaultsLeaveWholeTasks}
use Rattle.saber_dispatch.proofs.Fillings.{one_moved, two_moved}
use Rattle.saber_dispatch.proofs.NextTasks.{goes_on}
use Rattle.saber_dispatch.proofs.TaskBlocks.{told_is}
use Rattle.saber_laws.proofs.FrontLaws.{all_are_first, merges_keep_first, whole_lines_are_first}

abbrev Lefts : Type 0
Lefts = List (Option (List ℕ))

-- the rows of the whole lines that were taken are the first of these
record WasTaken (q : Tree) (limits : FileLimits) (had has : Lefts) (ys : List Row) : Type 0 where
  taken : List (List ℕ)
  left : GaveAll had taken has
  more : List Row
  front : (input (wholes q limits taken)).rows ++ more ≡ ys

unended_can : (r : readers.Reader) → r.ended ≡ false → CanFollow true r []
unended_can r h e = absurd (no (sym h ∙ e)) where
  no : false ≡ true → ⊥
  no i = cc

none_can : (r : readers.Reader) → CanFollow false r []
none_can r e = (refl, refl)

rows_of : (a b : Read) (ys : List Row) → a ≡ prepend ys b → b ≡ nothing unfinished → a.rows ≡ ys
rows_of a b ys e h = ap (λ (r : Read). r.rows) (e ∙ ap (prepend ys) h) ∙ append-nil ys

-- ---- of one input

one_taken : (q : Tree) (limits : FileLimits) (ys : List Row) (new : readers.Reader) (had has : Option (List ℕ)) → NeedsMore new → Moves (prepend ys) (new_reader (rules_on q limits Left)) new had has → WasTaken q limits (had ∷ []) (has ∷ []) ys
one_taken q limits ys new had has n m =
    let rules = rules_on q limits Left in
    let all : (whole rules (m.taken ++ [])).rows ≡ ys = rows_of (whole rules (m.taken ++ [])) (readers.rest_of true new []) ys (m.rest true [] (unended_can new n.unended)) n.none in
    record {
      taken = m.taken ∷ [];
      left = (m.left, tt);
      more = [];
      front = append-nil (whole rules m.taken).rows ∙ ap (λ z. (whole rules z).rows) (sym (append-nil m.taken)) ∙ all;
    }

-- ---- of two

two_taken : (q : Tree) (limits : FileLimits) (ys : List Row) (side : Side) (new : Merger) (had has had_right has_right : Option (List ℕ)) → MergeNeeds side new
    → MergeMoves (prepend ys) (new_merger (new_reader (rules_on q limits Left)) (new_reader (rules_on q limits Right))) new had has had_right has_right → WasTaken q limits (had ∷ had_right ∷ []) (has ∷ has_right ∷ []) ys
two_taken q limits ys Left new had has had_right has_right n m =
    let l = whole (rules_on q limits Left) in
    let z = m.left.taken in
    let w = m.right.taken in
    let all = rows_of (merged_read (l (z ++ [])) (rows (rules_on q limits Right) (w ++ []))) _ ys (m.rest true false [] [] (unended_can new.left.reader n.0.unended) (none_can new.right.reader)) (n.1 [] (none_can new.right.reader)) in
    let f : IsFirstOf (merged_read (l z) (whole (rules_on q limits Right) w)) (merged_read (l z) (rows (rules_on q limits Right) (w ++ []))) = merges_keep_first _ _ _ _ (all_are_first (l z)) (whole_lines_are_first (rules_on q limits Right) w []).at_end in
    record {
      taken = z ∷ w ∷ [];
      left = (m.left.left, (m.right.left, tt));
      more = f.rest;
      front = f.first ∙ ap (λ u. (merged_read (l u) (rows (rules_on q limits Right) (w ++ []))).rows) (sym (append-nil z)) ∙ all;
    }
two_taken q limits ys Right new had has had_right has_right n m =
    let r = whole (rules_on q limits Right) in
    let z = m.left.taken in
    let w = m.right.taken in
    let all = rows_of (merged_read (rows (rules_on q limits Left) (z ++ [])) (r (w ++ []))) _ ys (m.rest false true [] [] (none_can new.left.reader) (unended_can new.right.reader n.0.unended)) (n.1 [] (none_can new.left.reader)) in
    let f : IsFirstOf (merged_read (whole (rules_on q limits Left) z) (r w)) (merged_read (rows (rules_on q limits Left) (z ++ [])) (r w)) = merges_keep_first _ _ _ _ (whole_lines_are_first (rules_on q limits Left) z []).at_end (all_are_first (r w)) in
    record {
      taken = z ∷ w ∷ [];
      left = (m.left.left, (m.right.left, tt));
      more = f.rest;
      front = f.first ∙ ap (λ u. (merged_read (rows (rules_on q limits Left) (z ++ [])) (r u)).rows) (sym (append-nil w)) ∙ all;
    }

-- ---- of either

right_needs : (r : readers.Reader) (side : Side) → ReadNeeds side (one r) → NeedsMore r
right_needs r Left n = n
right_needs r Right n = absurd n

two_needs : (m : Merger) (side : Side) → ReadNeeds side (two m) → MergeNeeds side m
two_needs m Left n = n
two_needs m Right n = n

as_one : (q : Tree) (limits : FileLimits) (ys : List Row) (side : Side) (b : Reading) (had has : Lefts) → ReadNeeds side b → ReadMoves (prepend ys) (one (new_reader (rules_on q limits Left))) b had has → WasTaken q limits had has ys
as_one q limits ys side b had has n m =
    let k = one_moved (prepend ys) (new_reader (rules_on q limits Left)) b had has m in
    let needs : NeedsMore k.new = right_needs k.new side (subst (ReadNeeds side) k.new_is n) in
    subst (λ x. WasTaken q limits x has ys) (sym k.had_is) (subst (λ x. WasTaken q limits (k.left ∷ []) x ys) (sym k.has_is) (one_taken q limits ys k.new k.left k.behind needs k.moves))

taken_on : (q : Tree) (limits : FileLimits) (ys : List Row) (side : Side) (streams : List Stream) (b : Reading) (had has : Lefts) → ReadNeeds side b → ReadMoves (prepend ys) (fresh_on q limits streams) b had has → WasTaken q limits had has ys
taken_on q limits ys side [] b had has n m = as_one q limits ys side b had has n m
taken_on q limits ys side (s ∷ []) b had has n m = as_one q limits ys side b had has n m
taken_on q limits ys side (s ∷ t ∷ more) b had has n m =
    let k = two_moved (prepend ys) (new_merger (new_reader (rules_on q limits Left)) (new_reader (rules_on q limits Right))) b had has m in
    let needs : MergeNeeds side k.new = two_needs k.new side (subst (ReadNeeds side) k.new_is n) in
    subst (λ x. WasTaken q limits x has ys) (sym k.had_is) (subst (λ x. WasTaken q limits (k.left ∷ k.right ∷ []) x ys) (sym k.has_is) (two_taken q limits ys side k.new k.left k.behind k.right k.behind_right needs k.moves))

-- ---- and so of the blocks

module _ (q : Tree) (s : Sizes) (had has : Lefts) (c : Cutter) (r : Input) (side : Side) (k : Cuts q s had has c r) (off : CutOff s c r k.dropped side) where
  was : WasTaken q (limits_of s) had has (r.rows ++ k.dropped)
  was = taken_on q (limits_of s) (r.rows ++ k.dropped) side q.streams (reading_of c.reader) had has off.needs k.took.moves

  abbrev lines : List Row
  lines = (input (wholes q (limits_of s) was.taken)).rows

  longest : length lines < (c.number + 1) * s.task
  longest =
      let all : length lines + length was.more ≡ length r.rows + length k.dropped = sym (length-append lines was.more) ∙ ap length was.front ∙ length-append r.rows k.dropped in
      let next : (c.number + 1) * s.task ≡ c.number * s.task + s.task = grind arith in
      omega (arith, all, next, off.whole, off.few)

  within : (j : ℕ) → j * s.task ≤ length lines → j ≤ c.number
  within j h =
      let far = longest in
      let l : j < c.number + 1 = lt_of_mul-lt-mul_right s.task (omega (arith, h, far)) in
      omega (arith, l)

  same_tasks : (j : ℕ) → j * s.task ≤ length lines → upto s.task r j ≡ upto s.task (going_on lines) j
  same_tasks j h =
      let far : j * s.task ≤ length r.rows = omega (arith, mul-le-mul_right s.task (within j h), off.whole) in
      let here : min (j * s.task) (length r.rows) ≡ j * s.task = omega (arith, far) in
      let there : j * s.task ≡ min (j * s.task) (length lines) = omega (arith, h) in
      let parts : take (j * s.task) r.rows ≡ take (j * s.task) lines = sym (take-append-le (j * s.task) r.rows k.dropped far) ∙ ap (take (j * s.task)) (sym was.front) ∙ take-append-le (j * s.task) lines was.more h in
      ap (λ i. upto s.task i j) (goes_on r off.unended) ∙ ap going_on (ap (λ x. take x r.rows) here ∙ parts ∙ ap (λ x. take x lines) there)

  reads_whole : ReadsWhole q s had has r
  reads_whole = record {
    taken = was.taken;
    left = was.left;
    count = subst (λ t. length lines / s.task ≤ t) k.count (within (length lines / s.task) (omega (arith, k.sizes.task)));
    tasks = same_tasks;
  }

pub faults_leave_whole_tasks : FaultsLeaveWholeTasks
faults_leave_whole_tasks q s had has c r side k e =
    let is = told_is c.flush c.number c.ended (ReadFault side) e in
    reads_whole q s had has c r side k (subst (CutState q s c r k.dropped) is.0 k.state)
