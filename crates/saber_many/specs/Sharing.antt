-- What data, rows, pieces and stages are of several works: a list of each, by the works.
use Rattle.std.specs.Prelude.{◌≡◌, ◌≢◌, ◌≤◌, ◌⊎◌, ℕ, ◌+◌, Bool, true, false, List, [], ◌∷◌, Option}
use Rattle.std.specs.List.{AllByRecursion, AllZip}
use Rattle.saber_core.specs.Works.{IsPieceOrMark}
use Rattle.saber_many.specs.declared.member.Member.{Member}

-- each with its rows; one that has none stays as it is
abbrev pub each_filled : {T R : Type 0} → (T → R → T) → List T → List R → List T
each_filled filled [] rows = []
each_filled filled (t ∷ ts) [] = t ∷ ts
each_filled filled (t ∷ ts) (r ∷ rs) = filled t r ∷ each_filled filled ts rs

module _ {T : Type 0} (is_told : T → ℕ → Type 0) (alone : T → Type 0) where
  -- data of d tasks, none of which needs rows but its own
  abbrev pub ToldAt : ℕ → T → Type 0
  ToldAt d told = is_told told d × alone told

  abbrev pub AreTold : List T → ℕ → Type 0
  AreTold told d = AllByRecursion (ToldAt d) told

module _ {T R : Type 0} (is_rows : T → ℕ → R → Type 0) (alone : T → Type 0) where
  -- the rows of task t, which needs no others
  abbrev pub RowsAt : ℕ → T → R → Type 0
  RowsAt t told rows = is_rows told t rows × alone told

  -- each work's own rows of task t, and there is one work at least
  abbrev pub AreRows : List T → ℕ → List R → Type 0
  AreRows told t rows = (told ≢ []) × AllZip (RowsAt t) told rows

-- each piece is the task's, or the mark; those behind the last one have the mark
abbrev pub ArePieces : {T P : Type 0} → (T → ℕ → P → Type 0) → List T → ℕ → List (Option P) → Type 0
ArePieces is_piece told t [] = Unit {0}
ArePieces is_piece [] t (p ∷ ps) = Unit {0}
ArePieces is_piece (x ∷ xs) t (p ∷ ps) = IsPieceOrMark is_piece x t p × ArePieces is_piece xs t ps

module _ {T S : Type 0} (upto : T → ℕ → T) (is_stage : T → ℕ → Bool → S → Type 0) where
  -- of the data of m tasks, those of the tasks up to the one at which a stage stopped, with so many behind it
  abbrev pub IsFront : T → ℕ → ℕ → T → Type 0
  IsFront told m behind front = ((behind + 1 ≡ m) × (front ≡ told)) ⊎ ((behind + 1 ≤ m) × (front ≡ upto told (behind + 1)))

  -- the stage stopped at one of the m tasks that the data know
  pub record StoppedAt (told : T) (m : ℕ) (s : S) : Type 0 where
    pub behind : ℕ
    pub front : T
    pub front_is : IsFront told m behind front
    pub stage_is : is_stage front behind true s

  -- it goes on with all of them behind it, or stopped
  abbrev pub GoesBy : Bool → T → ℕ → S → Type 0
  GoesBy true told m s = is_stage told m false s
  GoesBy false told m s = StoppedAt told m s

  abbrev pub MemberAt : ℕ → T → Member S → Type 0
  MemberAt m told member = GoesBy member.goes told m member.stage

  abbrev pub StopsBy : ℕ → T → Member S → Type 0
  StopsBy m told member = (member.goes ≡ false) × StoppedAt told m member.stage

  -- k tasks are behind those that go on; a stop is one of all
  abbrev pub AreStages : List T → ℕ → Bool → List (Member S) → Type 0
  AreStages told k false members = AllZip (MemberAt k) told members
  AreStages told k true members = AllZip (StopsBy (k + 1)) told members
