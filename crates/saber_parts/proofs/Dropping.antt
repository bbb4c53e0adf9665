-- What stays of a store whose closed windows are dropped.
use Rattle.std.proofs.Common.{◌≡◌, ℕ, List, [], ◌∷◌, filter, Bool, cond, nat_le, ◌∙◌, ap}
use Rattle.std.specs.Map.Calls.{RetainsPairs}

-- what is known of a test that keeps windows from a number on
pub record Tests {F P : Type 0} (bound : F → ℕ) (f : F) (k : ℕ) (v : P) (b : Bool) (w : P) (g : F) : Type 0 where
  pub test : b ≡ nat_le (bound f) k
  pub value : w ≡ v
  pub same : bound g ≡ bound f

module _ {F P : Type 0} (T : F → ℕ → P → Bool → P → F → Type 0) (bound : F → ℕ) (told : (f : F) (k : ℕ) (v : P) (b : Bool) (w : P) (g : F) → T f k v b w g → Tests bound f k v b w g) where
  pub kept_all : (f : F) (es kept : List (ℕ × P)) → RetainsPairs T f es kept → kept ≡ filter (λ e. nat_le (bound f) e.0) es
  kept_all f [] kept r = r
  kept_all f (e ∷ es) kept r =
      let a = told f e.0 e.1 r.0 r.1 r.2 r.4 in
      let rest : r.3 ≡ filter (λ x. nat_le (bound f) x.0) es = kept_all r.2 es r.3 r.5 ∙ ap (λ n. filter (λ x. nat_le n x.0) es) a.same in
      r.6 ∙ (λ j. cond (a.test j) ((e.0, a.value j) ∷ rest j) (rest j))
