-- The laws of assembly, task by task.
use Rattle.std.proofs.Common.{◌≡◌, ℕ, zero, suc, ◌+◌, ◌-◌, ◌≤◌, List, [], ◌∷◌, ◌++◌, filter, flat_map, take, Bool, true, false, cond, ◌&&◌, Option, refl, sym, ◌∙◌, ap, append_assoc, append-nil, zero-le, arith}
use Rattle.std.specs.FinMap.{empty, from_entries}
use Rattle.std.specs.Ordering.{nat_cmp}
use Rattle.std.proofs.lemmas.List.Elements.{filter-append}
use Rattle.saber_plan.specs.Values.{passes}
use Rattle.saber_plan.specs.Trees.{Tree}
use Rattle.saber_plan.specs.Inputs.{Input, first_arrivals, going_on}
use Rattle.saber_plan.specs.Windows.{has_windows, Fits, no_rows, mark_at, begun, Ordered, from, has, Placed}
use Rattle.saber_plan.specs.Answers.{frame, lines, text, plain_text, passing_values, keys_of, window_answers, before_window, change_lines, change_text, closed_in_turn, key_text, alike, by_list, by_change, way, by_way}
use Rattle.saber_plan.specs.Parts.{Part, part, part_lines, group_part, merge}
use Rattle.saber_plan.specs.Shares.{full, numbered_list}
use Rattle.saber_plan.specs.Tasks.{task_start, upto, unclosed, unclosed_by_list, last_answers, kept_behind, by_windows, nothing_kept, plain_added, change_added, list_added, added_text, take_in, joined_to, stage_at, PiecesMakeText, piece, piece_between, written_by, left_by}
use Rattle.saber_plan.specs.Facts.Counts.{none_begun, none_closed}
use Rattle.saber_plan.specs.Facts.Parts.{merge-empty_left}
use Rattle.saber_laws.proofs.PartLaws.{groups_join}
use Rattle.saber_laws.proofs.ShareLaws.{passing-append, shaped}
use Rattle.saber_laws.proofs.EndLaws.{parts_join, part_not_begun, lines_upto}
use Rattle.saber_laws.proofs.TaskCutLaws.{cut_rises, no_tasks_no_rows}
use Rattle.saber_laws.proofs.AssemblyLaws.{text_law, written_law, open_law}

-- the text goes on with what the piece writes, where windows print their answers as they are
pub alike_text : (q : Tree) → way q ≡ alike → Fits (frame q) → (r : Input) (x y : ℕ) → Ordered no_rows r.rows → x ≤ y
    → text q (first_arrivals r y) ≡ text q (first_arrivals r x) ++ written_by q (unclosed q (first_arrivals r x)) (piece_between q r x y)
unfolding added_text
alike_text q e w r x y o a =
    text_law q w r x y o a
    ∙ ap (λ l. text q (first_arrivals r x) ++ l) (ap (λ u. by_way u (plain_added q r x y) (list_added q r x y) (λ c. change_added c q r x y)) e ∙ written_law q w r x y o a)

-- the assembly law: what a stage with k tasks behind it writes and keeps on piece k
pub next_text : (q : Tree) → way q ≡ alike → Fits (frame q) → (n : ℕ) (r : Input) → Ordered no_rows r.rows → (k : ℕ) → text q (upto n r (k + 1)) ≡ text q (upto n r k) ++ written_by q (unclosed q (upto n r k)) (piece q n r k)
next_text q e w n r o k = alike_text q e w r (task_start n r k) (task_start n r (k + 1)) o (cut_rises n r k)

pub next_open : (q : Tree) → Fits (frame q) → (n : ℕ) (r : Input) → Ordered no_rows r.rows → (k : ℕ) → left_by q (unclosed q (upto n r k)) (piece q n r k) ≡ unclosed q (upto n r (k + 1))
next_open q w n r o k = open_law q w r (task_start n r k) (task_start n r (k + 1)) o (cut_rises n r k)

-- ---- all pieces in order

suc_is : (k : ℕ) → suc k ≡ k + 1
suc_is k = omega arith

stage_step : (q : Tree) → way q ≡ alike → Fits (frame q) → (n : ℕ) (r : Input) → Ordered no_rows r.rows → (start : List ℕ) (k : ℕ) → take_in q (stage_at q n r start k) (piece q n r k) ≡ stage_at q n r start (k + 1)
stage_step q e w n r o start k = λ i. record {
  written = (append_assoc start (text q (upto n r k)) (written_by q (unclosed q (upto n r k)) (piece q n r k)) ∙ ap (λ l. start ++ l) (sym (next_text q e w n r o k))) i;
  parts = next_open q w n r o k i;
}

pub joined_is : (q : Tree) → way q ≡ alike → Fits (frame q) → (n : ℕ) (r : Input) → Ordered no_rows r.rows → (start : List ℕ) (k : ℕ) → joined_to q n r (stage_at q n r start 0) k ≡ stage_at q n r start k
joined_is q e w n r o start zero = refl
joined_is q e w n r o start (suc k) = ap (λ s. take_in q s (piece q n r k)) (joined_is q e w n r o start k) ∙ stage_step q e w n r o start k ∙ ap (stage_at q n r start) (sym (suc_is k))

no_windows : (f : ℕ → List ℕ) (n : ℕ) → n ≡ 0 → flat_map f (from 0 n) ≡ []
unfolding from
no_windows f n e = ap (λ k. flat_map f (from 0 k)) e

plain-none : (q : Tree) → Fits (frame q) → plain_text q (going_on []) ≡ []
plain-none q w =
    let none = no_windows (λ i. lines q i []) _ (none_closed (frame q) w) in
    shaped q.shape _ _ _ [] (either_case (has_windows (frame q)) none refl) none none
  where
    either_case : (b : Bool) {x y : List ℕ} → x ≡ [] → y ≡ [] → cond b x y ≡ []
    either_case true e f = e
    either_case false e f = f

pub text-none : (q : Tree) → Fits (frame q) → text q (going_on []) ≡ []
unfolding text closed_in_turn
text-none q w = elim (way q) as (λ u. by_way u (plain_text q (going_on [])) (key_text q (going_on [])) (λ c. change_text c q (going_on [])) ≡ []) [
  | alike ↦ plain-none q w
  | by_list ↦ refl
  | by_change c ↦ no_windows (change_lines c q []) _ (none_closed (frame q) w)
]

pub no_numbers : {X : Type 0} (a n : ℕ) (f : ℕ → Option X) → n ≡ 0 → from_entries {R = nat_cmp} (numbered_list a n f) ≡ empty
unfolding from
no_numbers a n f e = ap (λ k. from_entries {R = nat_cmp} (numbered_list a k f)) e

pub open-none : (q : Tree) → Fits (frame q) → unclosed q (going_on []) ≡ empty
unfolding unclosed
open-none q w = no_numbers _ _ (λ i. full (part q i [] 0 0)) (omega (arith, none_begun (frame q)))

last-none : (q : Tree) → Fits (frame q) → last_answers q (going_on []) ≡ []
unfolding last_answers
last-none q w = ap (before_window (λ i. window_answers q i [])) (none_closed (frame q) w)

no_lists : (q : Tree) → unclosed_by_list q (going_on []) ≡ empty
unfolding unclosed_by_list keys_of
no_lists q = refl

pub kept-none : (q : Tree) → Fits (frame q) → kept_behind q (going_on []) ≡ nothing_kept
unfolding kept_behind
kept-none q w = elim (way q) as (λ u. by_way u (by_windows (unclosed q (going_on []))) (record { parts = empty; lists = unclosed_by_list q (going_on []); answers = [] })
    (λ c. record { parts = unclosed q (going_on []); lists = empty; answers = last_answers q (going_on []) }) ≡ nothing_kept) [
      | alike ↦ ap by_windows (open-none q w)
      | by_list ↦ λ j. record { parts = empty; lists = no_lists q j; answers = [] }
      | by_change c ↦ λ j. record { parts = open-none q w j; lists = empty; answers = last-none q w j }
    ]

-- what the first k pieces make of an empty stage
pub pieces_make : (q : Tree) → way q ≡ alike → Fits (frame q) → (n : ℕ) (r : Input) → Ordered no_rows r.rows → (start : List ℕ) (k : ℕ) → joined_to q n r (record { written = start; parts = empty }) k ≡ stage_at q n r start k
pieces_make q e w n r o start k = ap (λ s. joined_to q n r s k) (λ i. record {
  written = (sym (append-nil start) ∙ ap (λ l. start ++ l) (sym (ap (text q) (no_tasks_no_rows n r) ∙ text-none q w))) i;
  parts = sym (ap (unclosed q) (no_tasks_no_rows n r) ∙ open-none q w) i;
}) ∙ joined_is q e w n r o start k

-- ---- what a fragment computes from the task's rows and the mark before them

-- a window that wasn't begun has its lines from the piece alone
pub lines-whole : (q : Tree) (i : ℕ) (r : Input) (x y : ℕ) → Ordered no_rows r.rows → x ≤ y → begun (frame q) i (mark_at r x) ≡ false → lines q i (take y r.rows) ≡ part_lines q i (part q i r.rows x y)
lines-whole q i r x y o a b = lines_upto q i r.rows y ∙ ap (λ p. part_lines q i p) (parts_join q i r.rows 0 x y zero-le a ∙ ap (λ p. merge p (part q i r.rows x y)) (part_not_begun q i r x o b) ∙ merge-empty_left (part q i r.rows x y))

-- ---- one more row of a task

-- what window i has of placed rows
abbrev pub tallied : Tree → List Placed → ℕ → Part
tallied q us i = group_part q (passing_values q (filter (has (frame q) i) us))

tally_case : (q : Tree) (us : List Placed) (i : ℕ) (x : Placed) (a b : Bool) → has (frame q) i x ≡ a → passes q.predicate x.row.values [] ≡ b
    → group_part q (passing_values q (filter (has (frame q) i) us) ++ passing_values q (cond a (x ∷ []) [])) ≡ cond (a && b) (merge (tallied q us i) (group_part q (x.row.values ∷ []))) (tallied q us i)
tally_case q us i x true true e g = ap (λ c. group_part q (passing_values q (filter (has (frame q) i) us) ++ cond c (x.row.values ∷ []) [])) g ∙ groups_join q (passing_values q (filter (has (frame q) i) us)) (x.row.values ∷ [])
tally_case q us i x true false e g = ap (λ c. group_part q (passing_values q (filter (has (frame q) i) us) ++ cond c (x.row.values ∷ []) [])) g ∙ ap (group_part q) (append-nil _)
tally_case q us i x false b e g = ap (group_part q) (append-nil _)

-- a row that passes is merged into each window that has it, and no other
pub rows_add_to_groups : (q : Tree) (us : List Placed) (i : ℕ) (x : Placed) → tallied q (us ++ x ∷ []) i ≡ cond (has (frame q) i x && passes q.predicate x.row.values []) (merge (tallied q us i) (group_part q (x.row.values ∷ []))) (tallied q us i)
rows_add_to_groups q us i x = ap (λ l. group_part q (passing_values q l)) (filter-append (has (frame q) i) us (x ∷ [])) ∙ ap (group_part q) (passing-append q (filter (has (frame q) i) us) (cond (has (frame q) i x) (x ∷ []) [])) ∙ tally_case q us i x _ _ refl refl

pub pieces_make_text : PiecesMakeText
pieces_make_text = pieces_make
