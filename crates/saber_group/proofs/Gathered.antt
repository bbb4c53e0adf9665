-- The slices of the rows before a task, one after another, for the windows from one on.
use Rattle.std.proofs.Common.{◌≡◌, ℕ, ◌+◌, ◌^◌, ◌≤◌, arith, List, [], ◌∷◌, inl, inr, length, take, refl, sym, ◌∙◌, ap, subst, le_trans}
use Rattle.std.proofs.lemmas.List.{take_all}
use Rattle.saber_plan.specs.declared.rows.Row.{Row}
use Rattle.saber_plan.specs.declared.windows.Mark.{Mark}
use Rattle.saber_plan.specs.Trees.{Tree}
use Rattle.saber_plan.specs.Windows.{Fits}
use Rattle.saber_plan.specs.Answers.{frame}
use Rattle.saber_plan.specs.GivenRows.{RowsFit}
use Rattle.saber_plan.specs.Parts.{Part}
use Rattle.saber_sliding.specs.Entries.{Entries, pushed_entries, CanFollow}
use Rattle.saber_group.specs.declared.slices.Slice.{Slice}
use Rattle.saber_group.specs.SliceParts.{closed_by, EnteredFrom, Holds}
use Rattle.saber_group.specs.SlicePieces.{SlicesFrom}
use Rattle.saber_group.proofs.Completing.{closed_within}
use Rattle.saber_group.proofs.Opened.{holds_nil, has_room, holds_from}

length_pushed : (es : Entries) (n : ℕ) (p : Part) → length (pushed_entries es n p) ≡ length es + 1
length_pushed [] n p = refl
length_pushed (e ∷ es) n p = let rest = length_pushed es n p in omega (arith, rest)

-- a slice adds one part at most
one_more : (low : ℕ) (es : Entries) (n : ℕ) (p : Part) (fs : Entries) → EnteredFrom low es n p fs → length fs ≤ length es + 1
one_more low es n p fs (inl h) = let same = ap length h.1 in omega (arith, same)
one_more low es n p fs (inr (inl h)) = let same = ap length h.1 in omega (arith, same)
one_more low es n p fs (inr (inr e)) = let long = ap length e ∙ length_pushed es n p in omega (arith, long)

-- the slices up to position x are in, of which each has a row, and the others are left
pub record Gathered (q : Tree) (m : Mark) (rows : List Row) (low : ℕ) (left : List Slice) (es : Entries) : Type 0 where
  pub x : ℕ
  pub holds : Holds q m (take x rows) low es
  pub few : length es ≤ x
  pub left_are : SlicesFrom q m rows x left

pub gathered_nil : (q : Tree) (m : Mark) (rows : List Row) (low : ℕ) (slices left : List Slice) (es : Entries) → left ≡ slices → es ≡ [] → SlicesFrom q m rows 0 slices → Gathered q m rows low left es
gathered_nil q m rows low slices left es all empty h = record {
  x = 0;
  holds = holds_nil q m low es empty;
  few = let long = ap length empty in omega (arith, long);
  left_are = subst (SlicesFrom q m rows 0) (sym all) h;
}

module _ (q : Tree) (m : Mark) (rows : List Row) (low : ℕ) (slice : Slice) (left : List Slice) (es : Entries) (few : length rows ≤ 2 ^ 40) (g : Gathered q m rows low (slice ∷ left) es) where
  up : g.x ≤ slice.end
  up = let more = g.left_are.1.0 in omega (arith, more)

  pub gathered_can : CanFollow slice.part es
  gathered_can = has_room q m rows g.x slice.end slice.first slice.past slice.part g.left_are.0 low es g.holds up g.left_are.1.1.0 few

  pub gathered_more : Fits (frame q) → RowsFit q m rows → closed_by q m rows ≤ low → (fs : Entries) → EnteredFrom low es slice.past slice.part fs → Gathered q m rows low left fs
  gathered_more fits given closed fs entered = record {
    x = slice.end;
    holds = holds_from q m rows g.x slice.end slice.first slice.past slice.part g.left_are.0 low es g.holds fs
        (le_trans g.left_are.0.closes (le_trans (closed_within q fits m rows slice.end given) closed)) up g.left_are.1.1.0 few entered;
    few = let one = one_more low es slice.past slice.part fs entered in let more = g.left_are.1.0 in let before = g.few in omega (arith, one, more, before);
    left_are = g.left_are.1.1.1;
  }

pub gathered_all : (q : Tree) (m : Mark) (rows : List Row) (low : ℕ) (es : Entries) → Gathered q m rows low [] es → Holds q m rows low es
gathered_all q m rows low es g = subst (λ l. Holds q m l low es) (take_all g.x rows (let end = g.left_are in omega (arith, end))) g.holds

pub gathered_few : (q : Tree) (m : Mark) (rows : List Row) (low : ℕ) (es : Entries) → Gathered q m rows low [] es → length es ≤ length rows
gathered_few q m rows low es g = let end = g.left_are in let before = g.few in omega (arith, end, before)
