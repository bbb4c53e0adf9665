-- How often each entry stands in all views together.
use Rattle.std.proofs.Common.{◌≡◌, ℕ, Bool, ◌+◌, ◌==◌, List, [], ◌∷◌, ◌++◌, set, sym, refl, ap, subst, arith}
use Rattle.std.specs.Prelude.{if◌then◌else◌, ◌&&◌}
use Rattle.std.proofs.lemmas.Bool.Decides.{nat_tests}
use mathlib.Core.Option.{some}
use lib.ListN.{get_elem?}
use Rattle.saber_ring.specs.declared.view.View.{View}
use Rattle.saber_ring.specs.declared.view.Entry.{Entry}
use Rattle.saber_ring.specs.declared.view.Entry.TheVariants.{Claim, Deposit, Take, Give}
use Rattle.saber_ring.specs.Shows.{RingPhase, RingState, same_mark, same, times, claims_of, deposits_of, takes_of, gives_of, due, Counts}
use Rattle.saber_ring.proofs.Puts.{put, at_put, total_set, total_append}

abbrev pub one : Bool → ℕ
one b = if b then 1 else 0

-- the entries of one seat grow as the ring's do
pub counts_move : {T : Type 0} (b b' : RingState T) (views : List (View T)) (id : ℕ) (v w : View T) → get_elem? views id ≡ some v → ((e : Entry) → times e w.own + due b e ≡ times e v.own + due b' e)
    → Counts b views → Counts b' (set views id w)
counts_move b b' views id v w at step old e =
    let p = total_set (λ (u : View _). times e u.own) views id v w at in let q = old e in let r = step e in omega arith

-- one entry more
pub times_more : (e x : Entry) (own : List Entry) → times e (own ++ x ∷ []) ≡ times e own + one (same e x)
times_more e x own = let p = total_append (λ (y : Entry). one (same e y)) own (x ∷ []) in omega arith

pub counts_same : {T : Type 0} (b b' : RingState T) (views : List (View T)) (id : ℕ) (v w : View T) → get_elem? views id ≡ some v → w.own ≡ v.own → ((e : Entry) → due b e ≡ due b' e) → Counts b views → Counts b' (set views id w)
counts_same b b' views id v w at is step = counts_move b b' views id v w at (λ e. let q = step e in let r = ap (times e) is in omega arith)

pub counts_more : {T : Type 0} (b b' : RingState T) (views : List (View T)) (id : ℕ) (v w : View T) (x : Entry) → get_elem? views id ≡ some v → w.own ≡ v.own ++ x ∷ [] → ((e : Entry) → one (same e x) + due b e ≡ due b' e)
    → Counts b views → Counts b' (set views id w)
counts_more b b' views id v w x at is step = counts_move b b' views id v w at (λ e. let q = step e in let r = ap (times e) is in let m = times_more e x v.own in omega arith)

module _ {T : Type 0} (b : RingState T) (t : ℕ) (ph : RingPhase) where
  -- nothing is counted anew
  pub due_same : (phase' : ℕ → RingPhase) → phase' ≡ put b.phase t ph → claims_of (b.phase t) ≡ claims_of ph → ((m : Bool) → deposits_of m (b.phase t) ≡ deposits_of m ph) → takes_of (b.phase t) ≡ takes_of ph → gives_of (b.phase t) ≡ gives_of ph
      → (e : Entry) → due b e ≡ due (record b { phase = phase' }) e
  due_same phase' is c d k g e = subst (λ (f : ℕ → RingPhase). due b e ≡ due (record b { phase = f }) e) (sym is) (go e)
    where
      at : (f : RingPhase → ℕ) (u : ℕ) → f (b.phase t) ≡ f ph → f (b.phase u) ≡ f (put b.phase t ph u)
      at f u same = at_put b.phase t ph (λ j x. f (b.phase j) ≡ f x) u (λ _. same) (λ _. refl)

      go : (x : Entry) → due b x ≡ due (record b { phase = put b.phase t ph }) x
      go (Claim u) = at claims_of u c
      go (Deposit u m) = at (deposits_of m) u (d m)
      go (Take u) = at takes_of u k
      go (Give u) = at gives_of u g

  -- a number of t alone goes up by one
  raised : (f : RingPhase → ℕ) (u : ℕ) → f (b.phase t) + 1 ≡ f ph → one (u == t) + f (b.phase u) ≡ f (put b.phase t ph u)
  raised f u up = at_put b.phase t ph (λ j x. one (j == t) + f (b.phase j) ≡ f x) u (λ _. grind (arith, nat_tests, up)) (λ ne. grind (arith, nat_tests, ne))

  stays : (f : RingPhase → ℕ) (u : ℕ) → f (b.phase t) ≡ f ph → 0 + f (b.phase u) ≡ f (put b.phase t ph u)
  stays f u same = at_put b.phase t ph (λ j x. 0 + f (b.phase j) ≡ f x) u (λ _. omega (arith, same)) (λ _. omega arith)

  pub due_claim : claims_of (b.phase t) + 1 ≡ claims_of ph → ((m : Bool) → deposits_of m (b.phase t) ≡ deposits_of m ph) → takes_of (b.phase t) ≡ takes_of ph → gives_of (b.phase t) ≡ gives_of ph
      → (e : Entry) → one (same e (Claim t)) + due b e ≡ due (record b { phase = put b.phase t ph }) e
  due_claim c d k g (Claim u) = raised claims_of u c
  due_claim c d k g (Deposit u m) = stays (deposits_of m) u (d m)
  due_claim c d k g (Take u) = stays takes_of u k
  due_claim c d k g (Give u) = stays gives_of u g

  pub due_take : claims_of (b.phase t) ≡ claims_of ph → ((m : Bool) → deposits_of m (b.phase t) ≡ deposits_of m ph) → takes_of (b.phase t) + 1 ≡ takes_of ph → gives_of (b.phase t) ≡ gives_of ph
      → (e : Entry) → one (same e (Take t)) + due b e ≡ due (record b { phase = put b.phase t ph }) e
  due_take c d k g (Claim u) = stays claims_of u c
  due_take c d k g (Deposit u m) = stays (deposits_of m) u (d m)
  due_take c d k g (Take u) = raised takes_of u k
  due_take c d k g (Give u) = stays gives_of u g

  pub due_give : claims_of (b.phase t) ≡ claims_of ph → ((m : Bool) → deposits_of m (b.phase t) ≡ deposits_of m ph) → takes_of (b.phase t) ≡ takes_of ph → gives_of (b.phase t) + 1 ≡ gives_of ph
      → (e : Entry) → one (same e (Give t)) + due b e ≡ due (record b { phase = put b.phase t ph }) e
  due_give c d k g (Claim u) = stays claims_of u c
  due_give c d k g (Deposit u m) = stays (deposits_of m) u (d m)
  due_give c d k g (Take u) = stays takes_of u k
  due_give c d k g (Give u) = raised gives_of u g

  pub due_deposit : (n : Bool) → claims_of (b.phase t) ≡ claims_of ph → ((m : Bool) → deposits_of m (b.phase t) ≡ 0) → ((m : Bool) → deposits_of m ph ≡ one (same_mark m n)) → takes_of (b.phase t) ≡ takes_of ph → gives_of (b.phase t) ≡ gives_of ph
      → (e : Entry) → one (same e (Deposit t n)) + due b e ≡ due (record b { phase = put b.phase t ph }) e
  due_deposit n c none some' k g (Claim u) = stays claims_of u c
  due_deposit n c none some' k g (Deposit u m) = at_put b.phase t ph (λ j x. one ((j == t) && same_mark m n) + deposits_of m (b.phase j) ≡ deposits_of m x) u
      (λ _. let p = none m in let q = some' m in grind (arith, nat_tests, p, q)) (λ ne. grind (arith, nat_tests, ne))
  due_deposit n c none some' k g (Take u) = stays takes_of u k
  due_deposit n c none some' k g (Give u) = stays gives_of u g

pub due_kept : {T : Type 0} (b b' : RingState T) → b'.phase ≡ b.phase → (e : Entry) → due b e ≡ due b' e
due_kept b b' is (Claim u) = ap (λ (f : ℕ → RingPhase). claims_of (f u)) (sym is)
due_kept b b' is (Deposit u m) = ap (λ (f : ℕ → RingPhase). deposits_of m (f u)) (sym is)
due_kept b b' is (Take u) = ap (λ (f : ℕ → RingPhase). takes_of (f u)) (sym is)
due_kept b b' is (Give u) = ap (λ (f : ℕ → RingPhase). gives_of (f u)) (sym is)
