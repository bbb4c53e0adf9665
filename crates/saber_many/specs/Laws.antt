-- What a run of several works is to each of them.
use Rattle.std.specs.Prelude.{◌≡◌, ℕ, Bool, List, [], ◌∷◌}
use Rattle.saber_crew.specs.declared.dispatch.Dispatched.{Dispatched}
use Rattle.saber_crew.specs.Runs.{RunsTo}
use Rattle.saber_many.specs.declared.member.Member.{Member}
use Rattle.saber_many.specs.Sharing.{AreTold, AreStages}
use Rattle.saber_many.specs.Labors.{all_upto}

-- of the elements at each place of three lists, which are as long
abbrev pub AllThree : {A B C : Type 0} → (A → B → C → Type 0) → List A → List B → List C → Type 0
AllThree R [] [] [] = Unit {0}
AllThree R [] [] (z ∷ zs) = ⊥
AllThree R [] (y ∷ ys) zs = ⊥
AllThree R (x ∷ xs) [] zs = ⊥
AllThree R (x ∷ xs) (y ∷ ys) [] = ⊥
AllThree R (x ∷ xs) (y ∷ ys) (z ∷ zs) = R x y z × AllThree R xs ys zs

-- these data and no others, of so many tasks
abbrev pub IsOnly : {T : Type 0} → T → ℕ → T → ℕ → Type 0
IsOnly told count u d = (u ≡ told) × (d ≡ count)

module _ {T S P F V : Type 0} (is_told : T → ℕ → Type 0) (alone : T → Type 0) (upto : T → ℕ → T) (is_stage : T → ℕ → Bool → S → Type 0)
    (given : P → F → List T → ℕ → Type 0) (over : P → Type 0) (members : V → List (Member S)) where
  -- a run of all, over these base data
  abbrev pub RunsTogether : P → F → List T → V → Dispatched → Type 0
  RunsTogether supply from base stage dispatched =
      RunsTo (AreTold is_told alone) (all_upto upto) (λ told k stopped s. AreStages upto is_stage told k stopped (members s))
      (given supply from) (over supply) base stage dispatched

  -- a run of one alone, over its own base data and by its own stage, to which so many tasks with these data were given
  abbrev pub RunsAlone : P → Dispatched → ℕ → T → T → Member S → Type 0
  RunsAlone supply dispatched count told base member = RunsTo is_told upto is_stage (IsOnly told count) (over supply) base member.stage dispatched

  -- data of so many tasks were given for all, and of each it is a run with its own, whatever became of the others
  abbrev pub RunsEach : P → F → List T → V → Dispatched → Type 0
  RunsEach supply from base stage dispatched =
      (told : List T) × (count : ℕ) × given supply from told count × AllThree (RunsAlone supply dispatched count) told base (members stage)

  abbrev pub EachRuns : Type 0
  EachRuns = (supply : P) (from : F) (base : List T) (stage : V) (dispatched : Dispatched) → RunsTogether supply from base stage dispatched → RunsEach supply from base stage dispatched
