-- Entries that come to the end of others.
use Rattle.std.proofs.Common.{◌≡◌, ℕ, Bool, true, false, ◌+◌, List, [], ◌∷◌, ◌++◌, refl, sym, subst, ap, ◌∙◌, arith, append-nil, append_assoc, inl, inr, ⊎_elim}
use Rattle.std.proofs.lemmas.Bool.Decides.{nat_tests}
use Rattle.std.specs.Prelude.{◌⊎◌, ◌==◌, if◌then◌else◌, Option, Some, None}
use Rattle.saber_ring.specs.declared.view.View.{View}
use Rattle.saber_ring.specs.declared.view.HeldTask.{HeldTask}
use Rattle.saber_ring.specs.declared.view.HeldTurn.{HeldTurn}
use Rattle.saber_ring.specs.declared.view.TurnState.{TurnState}
use Rattle.saber_ring.specs.declared.view.TurnState.TheVariants.{Open, TookPiece, TookMark, WonStopped, Leaving}
use Rattle.saber_ring.specs.declared.view.Entry.{Entry}
use Rattle.saber_ring.specs.declared.view.Entry.TheVariants.{Claim, Deposit, Take, Give}
use Rattle.saber_ring.specs.Shows.{times}
use Rattle.saber_ring.specs.Calls.{Got, Gives, HoldsTurn, Releases}
use Rattle.saber_workers.specs.Grows.{in_hand, IsEven, IsStop, Grows}

pub times_append : (e : Entry) (xs ys : List Entry) → times e (xs ++ ys) ≡ times e xs + times e ys
times_append e [] ys = omega arith
times_append e (x ∷ xs) ys = let r = times_append e xs ys in omega arith

pub false_true : false ≡ true → ⊥
false_true e = cc

even_of : (more : List Entry) → IsEven more ⊎ ((false ≡ true) × IsStop more) → IsEven more
even_of more (inl e) = e
even_of more (inr s) = absurd (false_true s.0)

module _ {T : Type 0} where
  -- entries with each take's give, and then others
  pub then_grows : (a b c : View T) (s : Bool) → Grows a b false → Grows b c s → Grows a c s
  then_grows a b c s f g =
      let x : List Entry = f.0 in let y : List Entry = g.0 in let even = even_of x f.3 in (
        x ++ y,
        g.1 ∙ ap (λ (z : List Entry). z ++ y) f.1 ∙ append_assoc a.own x y,
        (λ t. let p = times_append (Claim t) x y in let q = times_append (Deposit t false) x y in let r = times_append (Deposit t true) x y in let u = f.2 t in let v = g.2 t in omega arith),
        ⊎_elim (λ (e : IsEven y). inl (λ t. let p = times_append (Take t) x y in let q = times_append (Give t) x y in let u = even t in let v = e t in omega arith))
            (λ (e : (s ≡ true) × IsStop y). inr (e.0, (e.1.0, λ t. let p = times_append (Take t) x y in let q = times_append (Give t) x y in let u = even t in let v = e.1.1 t in omega arith))) g.3,
      )

  -- no entry comes
  pub as_before : (a b : View T) (s : Bool) → b.own ≡ a.own → b.job ≡ a.job → Grows a b s
  as_before a b s own job = ([], own ∙ sym (append-nil a.own), (λ t. subst (λ j. in_hand a.job t + 0 ≡ 0 + 0 + in_hand j t) (sym job) (omega arith)), inl (λ t. refl))

  -- and then others do
  pub same_grows : (a b c : View T) (s : Bool) → b.own ≡ a.own → b.job ≡ a.job → Grows b c s → Grows a c s
  same_grows a b c s own job g = (g.0, g.1 ∙ ap (λ z. z ++ g.0) own, (λ t. subst (λ j. in_hand j t + times (Claim t) g.0 ≡ times (Deposit t false) g.0 + times (Deposit t true) g.0 + in_hand c.job t) job (g.2 t)), g.3)

  pub grows_same : (a b c : View T) (s : Bool) → c.own ≡ b.own → c.job ≡ b.job → Grows a b s → Grows a c s
  grows_same a b c s own job g = (g.0, own ∙ g.1, (λ t. subst (λ j. in_hand a.job t + times (Claim t) g.0 ≡ times (Deposit t false) g.0 + times (Deposit t true) g.0 + in_hand j t) (sym job) (g.2 t)), g.3)

  -- a job is handed in
  pub deposit_grows : (a b : View T) (x : HeldTask T) (m s : Bool) → a.job ≡ Some x → b.job ≡ None → b.own ≡ a.own ++ Deposit x.task m ∷ [] → Grows a b s
  deposit_grows a b x m s has none own = (
    Deposit x.task m ∷ [],
    own,
    (λ t. subst (λ j. in_hand j t + 0 ≡ times (Deposit t false) (Deposit x.task m ∷ []) + times (Deposit t true) (Deposit x.task m ∷ []) + in_hand b.job t) (sym has)
        (subst (λ j. in_hand (Some x) t + 0 ≡ times (Deposit t false) (Deposit x.task m ∷ []) + times (Deposit t true) (Deposit x.task m ∷ []) + in_hand j t) (sym none) (one m t x.task))),
    inl (λ t. refl),
  )
    where
      one : (m : Bool) (t u : ℕ) → (if t == u then 1 else 0) + 0 ≡ times (Deposit t false) (Deposit u m ∷ []) + times (Deposit t true) (Deposit u m ∷ []) + 0
      one false t u = grind (arith, nat_tests)
      one true t u = grind (arith, nat_tests)

  -- where each take has its give, nothing is asked of the stage
  pub even_grows : (a b : View T) (s : Bool) → Grows a b false → Grows a b s
  even_grows a b s f = (f.0, f.1, f.2, inl (even_of f.0 f.3))

  -- and entries after a stop, with each take's give
  pub grows_then : (a b c : View T) (s : Bool) → Grows a b s → Grows b c false → Grows a c s
  grows_then a b c s f g =
      let x : List Entry = f.0 in let y : List Entry = g.0 in let even = even_of y g.3 in (
        x ++ y,
        g.1 ∙ ap (λ (z : List Entry). z ++ y) f.1 ∙ append_assoc a.own x y,
        (λ t. let p = times_append (Claim t) x y in let q = times_append (Deposit t false) x y in let r = times_append (Deposit t true) x y in let u = f.2 t in let v = g.2 t in omega arith),
        ⊎_elim (λ (e : IsEven x). inl (λ t. let p = times_append (Take t) x y in let q = times_append (Give t) x y in let u = even t in let v = e t in omega arith))
            (λ (e : (s ≡ true) × IsStop x). inr (e.0, (e.1.0, λ t. let p = times_append (Take t) x y in let q = times_append (Give t) x y in let u = even t in let v = e.1.1 t in omega arith))) f.3,
      )

module _ {P T : Type 0} (upto : T → ℕ → T) (is_piece : T → ℕ → P → Type 0) (size k : ℕ) (v v' : View T) where
  pub took_own : (piece : Option P) → Got upto is_piece size k v v' piece → v'.own ≡ v.own ++ Take k ∷ []
  took_own None g = ap (λ (z : View T). z.own) g.3
  took_own (Some p) g = ap (λ (z : View T). z.own) g.4

pub gave_own : {T : Type 0} (size k : ℕ) (grip : TurnState) (v v' : View T) (turn : Option (HeldTurn T)) → HoldsTurn k grip turn → Gives size k v v' turn → v'.own ≡ v.own ++ Give k ∷ []
gave_own size k grip v v' None h g = absurd h
gave_own size k grip v v' (Some h) has g = ap (λ (z : View _). z.own) g.1 ∙ ap (λ (z : ℕ). v.own ++ Give z ∷ []) has.0

-- a release makes no entry
pub released_own : {T : Type 0} (size k : ℕ) (v v' : View T) (state : TurnState) → Releases size k v v' state → v'.own ≡ v.own
released_own size k v v' Open r = ap (λ (z : View _). z.own) r.2
released_own size k v v' TookPiece r = ap (λ (z : View _). z.own) r.2
released_own size k v v' TookMark r = ap (λ (z : View _). z.own) r.2
released_own size k v v' WonStopped r = ap (λ (z : View _). z.own) r.2
released_own size k v v' Leaving r = ap (λ (z : View _). z.own) r.2
