-- What is asked of those who do several works, and what they do.
use Rattle.std.specs.Prelude.{◌≡◌, ◌^◌, ◌<◌, ℕ, ◌+◌, Bool, false, List, [], ◌∷◌, map, Option, Some, None}
use Rattle.std.specs.List.{AllZip}
use Rattle.saber_core.specs.Works.{IsPieceOrMark}
use Rattle.saber_many.specs.declared.member.Member.{Member}
use Rattle.saber_many.specs.Sharing.{RowsAt, MemberAt, ArePieces}

-- the piece of one that may be there, or the mark
abbrev pub flat : {A : Type 0} → Option (Option A) → Option A
flat None = None
flat (Some o) = o

-- each does its work for its own data
abbrev pub AllSuit : {L T : Type 0} → (L → T → Type 0) → List L → List T → Type 0
AllSuit suits labors told = AllZip suits labors told

-- the data of the first k tasks, of each
abbrev pub all_upto : {T : Type 0} → (T → ℕ → T) → List T → ℕ → List T
all_upto upto told k = map (λ t. upto t k) told

-- the first task whose rows a task needs, as the first work has it: the task itself, since none needs others
abbrev pub each_first : {T : Type 0} → (T → ℕ → ℕ) → List T → ℕ → ℕ
each_first first [] t = t
each_first first (x ∷ xs) t = first x t

module _ {L T R : Type 0} (upto : T → ℕ → T) (is_rows : T → ℕ → R → Type 0) (alone : T → Type 0) (suits : L → T → Type 0) where
  -- the rows are of some task, which needs no others
  abbrev pub CanMake : L → R → Type 0
  CanMake labor own = (told : T) × (t : ℕ) × suits labor (upto told 0) × RowsAt is_rows alone t told own

  -- each work's own rows are of some task, the same of all
  abbrev pub CanMakeEach : List L → List R → Type 0
  CanMakeEach labors rows = (told : List T) × (t : ℕ) × AllSuit suits labors (all_upto upto told 0) × AllZip (RowsAt is_rows alone t) told rows

  module _ {P : Type 0} (is_piece : T → ℕ → P → Type 0) where
    -- the piece of each such task was made, or memory lacked
    abbrev pub Makes : L → R → Option P → Type 0
    Makes labor own made = (told : T) (t : ℕ) → suits labor (upto told 0) → RowsAt is_rows alone t told own → IsPieceOrMark is_piece told t made

    abbrev pub MakesEach : List L → List R → List (Option P) → Type 0
    MakesEach labors rows made =
        (told : List T) (t : ℕ) → AllSuit suits labors (all_upto upto told 0) → AllZip (RowsAt is_rows alone t) told rows → ArePieces is_piece told t made

-- the first of them is so
abbrev pub FirstIs : {A : Type 0} → (A → Type 0) → List A → Type 0
FirstIs P [] = ⊥
FirstIs P (x ∷ xs) = P x

-- it goes on no more
abbrev pub HasStopped : {S : Type 0} → Member S → Type 0
HasStopped member = member.goes ≡ false

module _ {L T S P : Type 0} (upto : T → ℕ → T) (is_piece : T → ℕ → P → Type 0) (is_stage : T → ℕ → Bool → S → Type 0) (suits : L → T → Type 0) where
  -- k tasks are behind the stage if it goes on, and the piece is that of the next
  abbrev pub CanAbsorb : L → Member S → Option P → Type 0
  CanAbsorb labor member piece =
      (told : T) × (k : ℕ) × (k < 2 ^ 42) × suits labor (upto told 0) × MemberAt upto is_stage k (upto told k) member × IsPieceOrMark is_piece told k piece

  -- one task more is behind it then, or it stopped
  abbrev pub AbsorbsOne : L → Member S → Option P → Member S → Type 0
  AbsorbsOne labor old piece new =
      (told : T) (k : ℕ) → suits labor (upto told 0) → MemberAt upto is_stage k (upto told k) old → IsPieceOrMark is_piece told k piece
      → MemberAt upto is_stage (k + 1) told new

  -- the same of all
  abbrev pub CanAbsorbEach : List L → List (Member S) → List (Option P) → Type 0
  CanAbsorbEach labors members pieces =
      (told : List T) × (k : ℕ) × (k < 2 ^ 42) × AllSuit suits labors (all_upto upto told 0)
      × AllZip (MemberAt upto is_stage k) (all_upto upto told k) members × ArePieces is_piece told k pieces

  abbrev pub AbsorbsEach : List L → List (Member S) → List (Option P) → List (Member S) → Type 0
  AbsorbsEach labors old pieces new =
      (told : List T) (k : ℕ) → AllSuit suits labors (all_upto upto told 0) → AllZip (MemberAt upto is_stage k) (all_upto upto told k) old
      → ArePieces is_piece told k pieces → AllZip (MemberAt upto is_stage (k + 1)) told new
