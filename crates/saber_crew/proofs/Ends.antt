-- How a run ends.
use Rattle.std.proofs.Common.{◌≡◌, ℕ, Bool, true, false, ◌+◌, ◌≤◌, sym, ◌∙◌, ap, subst, ⊎_elim, arith}
use Rattle.std.specs.Prelude.{◌⊎◌, Option, Some, None, IfSome}
use Rattle.saber_ring.specs.declared.view.View.{View}
use Rattle.saber_ring.specs.declared.view.Lead.{Lead}
use Rattle.saber_ring.specs.Shows.{extra, start, first_view}
use Rattle.saber_ring.specs.Closing.{Finishes}
use Rattle.saber_workers.specs.Lasts.{GaveAll}
use Rattle.saber_workers.proofs.Lasts.{behind_all}
use Rattle.saber_crew.specs.declared.dispatch.Dispatched.{Dispatched}
use Rattle.saber_crew.specs.declared.dispatch.Over.TheVariants.{Stopped}
use Rattle.saber_crew.specs.Dispatches.{DispatchedTo}
use Rattle.saber_crew.specs.Runs.{BeginsRun, RunsTo}

false_true : false ≡ true → ⊥
false_true e = cc

no_more : (x : Bool) → x ≡ false → extra x ≡ 0
no_more x e = ap extra e

module _ {T S : Type 0} (is_told : T → ℕ → Type 0) (upto : T → ℕ → T) (is_stage : T → ℕ → Bool → S → Type 0) (suits : T → Type 0) (stage : S) (given : T → ℕ → Type 0) where
  module _ (given' : T → ℕ → Type 0) (ended : Type 0) where
    module _ (again : (told : T) (d j k : ℕ) → is_told told d → k ≤ j → j ≤ d → upto (upto told j) k ≡ upto told k) (whole : (told : T) (d : ℕ) → is_told told d → upto told d ≡ told) (dispatched : Dispatched) (v : View T) (last : S) where
      runs_to : (told : T) (l m : Lead T) → is_told told 0 → l.told ≡ told → DispatchedTo is_told upto given' ended dispatched (Some l) (Some m) → Finishes upto is_stage v last (Some m) → (v.stopped ≡ true) ⊎ GaveAll dispatched.tasks v.own → (dispatched.over ≡ Stopped → v.stopped ≡ true)
          → RunsTo is_told upto is_stage given' ended told last dispatched
      runs_to told l m known is e fin done why =
          let k : ℕ = fin.0 in let x : Bool = fin.1 in let same = e.0 in let within = fin.4 in let f = e.3 in let few = f.few in
          let runs = λ (no : x ≡ false) (saw : v.stopped ≡ true). false_true (sym no ∙ fin.7 saw) in
          let below : k + extra x ≤ dispatched.tasks = omega arith in
          record {
            told = f.told;
            count = f.count;
            is_given = f.is_given;
            known = f.known;
            base_is = f.base_is ∙ ap (λ z. upto z 0) is ∙ whole told 0 known;
            few = f.few;
            all = f.all;
            k = k;
            stopped = x;
            stage_is = subst (λ z. is_stage z k x last) (ap (λ z. upto z (k + extra x)) f.data_is ∙ again f.told f.count dispatched.tasks (k + extra x) f.known below few) fin.2;
            within = below;
            runs = λ no.
                let least : dispatched.tasks ≤ k = ⊎_elim (λ saw. absurd (runs no saw)) (λ gave. behind_all dispatched.tasks k x v.own gave fin.5) done in let none = no_more x no in
                (omega arith, λ cut. runs no (why cut));
          }

      ends_at : (told : T) (o o' o'' : Option (Lead T)) → is_told told 0 → o ≡ (start told).lead → DispatchedTo is_told upto given' ended dispatched o o' → o'' ≡ o' → Finishes upto is_stage v last o'' → (v.stopped ≡ true) ⊎ GaveAll dispatched.tasks v.own → (dispatched.over ≡ Stopped → v.stopped ≡ true)
          → RunsTo is_told upto is_stage given' ended told last dispatched
      ends_at told None o' o'' known at e same fin done why = absurd e
      ends_at told (Some l) None o'' known at e same fin done why = absurd e
      ends_at told (Some l) (Some m) o'' known at e same fin done why = runs_to told l m known (ap told_or at) e (subst (Finishes upto is_stage v last) same fin) done why
        where
          told_or : Option (Lead T) → T
          told_or None = told
          told_or (Some z) = z.told

      pub ends : (o : Option T) (u : View T) (o' o'' : Option (Lead T)) → BeginsRun is_told is_stage suits given stage o → u ≡ first_view o → DispatchedTo is_told upto given' ended dispatched u.lead o' → o'' ≡ o' → Finishes upto is_stage v last o'' → (v.stopped ≡ true) ⊎ GaveAll dispatched.tasks v.own
          → (dispatched.over ≡ Stopped → v.stopped ≡ true) → IfSome o (λ told. RunsTo is_told upto is_stage given' ended told last dispatched)
      ends None u o' o'' b is e same fin done why = absurd b
      ends (Some told) u o' o'' b is e same fin done why = ends_at told u.lead o' o'' b.0 (λ i. (is i).lead) e same fin done why
