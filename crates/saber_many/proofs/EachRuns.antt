-- A run of several works is a run of each.
use Rattle.std.proofs.Common.{◌≡◌, ◌≤◌, ℕ, ◌+◌, Bool, true, false, refl, sym, ◌∙◌, ap, subst, arith, ⊎_elim}
use Rattle.std.specs.Prelude.{List, [], ◌∷◌, map}
use Rattle.std.specs.List.{AllByRecursion, AllZip}
use Rattle.saber_ring.specs.Shows.{extra}
use Rattle.saber_crew.specs.declared.dispatch.Dispatched.{Dispatched}
use Rattle.saber_crew.specs.Runs.{RunsTo}
use Rattle.saber_many.specs.declared.member.Member.{Member}
use Rattle.saber_many.specs.Sharing.{ToldAt, StoppedAt, GoesBy, MemberAt, StopsBy, AreStages}
use Rattle.saber_many.specs.Laws.{AllThree, IsOnly, RunsTogether, RunsAlone, RunsEach}

not_false : true ≡ false → ⊥
not_false e = cc

module _ {T S P F V : Type 0} (is_told : T → ℕ → Type 0) (alone : T → Type 0) (upto : T → ℕ → T) (is_stage : T → ℕ → Bool → S → Type 0)
    (fronts : (told : T) (j k : ℕ) → k ≤ j → upto (upto told j) k ≡ upto told k)
    (given : P → F → List T → ℕ → Type 0) (over : P → Type 0) (members : V → List (Member S)) (supply : P) (from : F) (base : List T) (stage : V) (dispatched : Dispatched)
    (r : RunsTogether is_told alone upto is_stage given over members supply from base stage dispatched) where
  abbrev Runs : T → T → Member S → Type 0
  Runs = RunsAlone is_told alone upto is_stage given over members supply dispatched r.count

  -- one that stopped
  stopped : (t : T) (s : S) (m n : ℕ) → n ≡ m → m ≤ dispatched.tasks → is_told t r.count → StoppedAt upto is_stage (upto t m) n s
      → RunsTo is_told upto is_stage (IsOnly t r.count) (over supply) (upto t 0) s dispatched
  stopped t s m n same within known is =
      let front : is.front ≡ upto t (is.behind + 1) =
      ⊎_elim
      (λ (e : (is.behind + 1 ≡ n) × (is.front ≡ upto t m)). e.1 ∙ ap (upto t) (sym (e.0 ∙ same)))
      (λ (e : (is.behind + 1 ≤ n) × (is.front ≡ upto (upto t m) (is.behind + 1))). e.1 ∙ fronts t m (is.behind + 1) (let at = e.0 in omega (arith, at, same)))
      is.front_is in
      let low : is.behind + 1 ≤ n =
      ⊎_elim
      (λ (e : (is.behind + 1 ≡ n) × (is.front ≡ upto t m)). let at = e.0 in omega (arith, at))
      (λ (e : (is.behind + 1 ≤ n) × (is.front ≡ upto (upto t m) (is.behind + 1))). e.0)
      is.front_is in
      record {
        told = t;
        count = r.count;
        is_given = (refl, refl);
        known = known;
        base_is = refl;
        few = r.few;
        all = r.all;
        k = is.behind;
        stopped = true;
        stage_is = subst (λ z. is_stage z is.behind true s) front is.stage_is;
        within = omega (arith, low, same, within);
        runs = λ e. absurd (not_false e);
      }

  module _ (x : Bool) (is : r.stopped ≡ x) where
    within_is : r.k + extra x ≤ dispatched.tasks
    within_is = subst (λ z. r.k + extra z ≤ dispatched.tasks) is r.within

  -- one that goes on with all behind it, or stopped
  by_goes : r.stopped ≡ false → (t : T) (s : S) (goes : Bool) → is_told t r.count → GoesBy upto is_stage goes (upto t (r.k + extra false)) r.k s
      → RunsTo is_told upto is_stage (IsOnly t r.count) (over supply) (upto t 0) s dispatched
  by_goes e t s true known is = record {
    told = t;
    count = r.count;
    is_given = (refl, refl);
    known = known;
    base_is = refl;
    few = r.few;
    all = r.all;
    k = r.k;
    stopped = false;
    stage_is = is;
    within = within_is false e;
    runs = λ _. r.runs e;
  }
  by_goes e t s false known is = stopped t s (r.k + extra false) r.k (omega arith) (within_is false e) known is

  by_stop : r.stopped ≡ true → (t : T) (s : S) → is_told t r.count → StoppedAt upto is_stage (upto t (r.k + extra true)) (r.k + 1) s
      → RunsTo is_told upto is_stage (IsOnly t r.count) (over supply) (upto t 0) s dispatched
  by_stop e t s known is = stopped t s (r.k + extra true) (r.k + 1) (omega arith) (within_is true e) known is

  all_go : r.stopped ≡ false → (told : List T) (ms : List (Member S)) → AllByRecursion (ToldAt is_told alone r.count) told
      → AllZip (MemberAt upto is_stage r.k) (map (λ t. upto t (r.k + extra false)) told) ms → AllThree Runs told (map (λ t. upto t 0) told) ms
  all_go e [] [] known at = tt
  all_go e [] (m ∷ ms) known at = absurd at
  all_go e (t ∷ ts) [] known at = absurd at
  all_go e (t ∷ ts) (m ∷ ms) known at = (by_goes e t m.stage m.goes known.0.0 at.0, all_go e ts ms known.1 at.1)

  all_stop : r.stopped ≡ true → (told : List T) (ms : List (Member S)) → AllByRecursion (ToldAt is_told alone r.count) told
      → AllZip (StopsBy upto is_stage (r.k + 1)) (map (λ t. upto t (r.k + extra true)) told) ms → AllThree Runs told (map (λ t. upto t 0) told) ms
  all_stop e [] [] known at = tt
  all_stop e [] (m ∷ ms) known at = absurd at
  all_stop e (t ∷ ts) [] known at = absurd at
  all_stop e (t ∷ ts) (m ∷ ms) known at = (by_stop e t m.stage known.0.0 at.0.1, all_stop e ts ms known.1 at.1)

  by_end : (x : Bool) → r.stopped ≡ x → AreStages upto is_stage (map (λ t. upto t (r.k + extra x)) r.told) r.k x (members stage) → AllThree Runs r.told (map (λ t. upto t 0) r.told) (members stage)
  by_end false e at = all_go e r.told (members stage) r.known at
  by_end true e at = all_stop e r.told (members stage) r.known at

  pub each : RunsEach is_told alone upto is_stage given over members supply from base stage dispatched
  each = (r.told, r.count, r.is_given, subst (λ b. AllThree Runs r.told b (members stage)) r.base_is (by_end r.stopped refl r.stage_is))
