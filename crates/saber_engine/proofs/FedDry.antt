-- What came of a feed while a supply was dry.
use Rattle.std.proofs.Common.{◌≡◌, ◌⊎◌, inl, inr, ℕ, List, [], ◌++◌, sym, ◌∙◌, ap, append_assoc, append-nil}
use Rattle.std.specs.Prelude.{Bool, true, false, Option, None}
use Rattle.saber_io.specs.declared.feeds.EndMark.{EndMark}
use Rattle.saber_io.specs.Feeds.{Refills}
use Rattle.saber_dispatch.specs.FedReadings.{NothingWaits}

-- nothing was asked yet; or all that waits came since
abbrev pub CameSo : ℕ → List ℕ → List ℕ → List ℕ → Option EndMark → Option EndMark → Type 0
CameSo n t0 t1 w1 m0 m1 = ((n ≡ 0) × (t1 ≡ t0) × (m1 ≡ m0)) ⊎ ((m0 ≡ None) × (came : List ℕ) × (t1 ≡ (t0 ++ came) ++ w1))

-- a try that brought something goes on so
pub came_on : (n : ℕ) (t0 t1 t2 w1 w2 : List ℕ) (m0 m1 : Option EndMark) → CameSo n t0 t1 w1 m0 m1 → m1 ≡ None → t2 ≡ t1 ++ w2 → (m0 ≡ None) × (came : List ℕ) × (t2 ≡ (t0 ++ came) ++ w2)
came_on n t0 t1 t2 w1 w2 m0 m1 (inl e) none more = (sym e.2 ∙ none, [], more ∙ ap (λ t. t ++ w2) (e.1 ∙ sym (append-nil t0)))
came_on n t0 t1 t2 w1 w2 m0 m1 (inr e) none more = (e.0, e.1 ++ w1, more ∙ ap (λ t. t ++ w2) (e.2 ∙ append_assoc t0 e.1 w1))

-- and after one at least, something was asked
pub came_at_last : (n : ℕ) (t0 t1 w1 : List ℕ) (m0 m1 : Option EndMark) → (n ≡ 0 → ⊥) → CameSo n t0 t1 w1 m0 m1 → (m0 ≡ None) × (came : List ℕ) × (t1 ≡ (t0 ++ came) ++ w1)
came_at_last n t0 t1 w1 m0 m1 some (inl e) = absurd (some e.0)
came_at_last n t0 t1 w1 m0 m1 some (inr e) = e

-- of a step behind which nothing waits, and a refill that brought something
pub adds_came : (t0 t1 t2 w1 w2 : List ℕ) (m1 m2 : Option EndMark) (more : Bool) → Refills t1 t2 w1 w2 m1 m2 more → more ≡ true → t1 ≡ t0 → w1 ≡ [] → t2 ≡ t0 ++ w2
adds_came t0 t1 t2 w1 w2 m1 m2 true r is e n = r.taken_is ∙ ap (λ t. t ++ r.more) e ∙ ap (λ w. t0 ++ w) (sym (r.waiting_is ∙ ap (λ w. w ++ r.more) n))
adds_came t0 t1 t2 w1 w2 m1 m2 false r is e n = cc

-- and of one that brought nothing
pub stays_dry : (t1 t2 w1 w2 : List ℕ) (m1 m2 : Option EndMark) (more : Bool) → Refills t1 t2 w1 w2 m1 m2 more → more ≡ false → NothingWaits w1 m1 → NothingWaits w2 m2
stays_dry t1 t2 w1 w2 m1 m2 true r is d = cc
stays_dry t1 t2 w1 w2 m1 m2 false r is d = (r.waiting_is ∙ d.0, r.mark_is ∙ d.1)
