-- The laws of several works, by those of the work.
use Rattle.std.proofs.Common.{◌≡◌, ◌≤◌, ℕ, ◌+◌, refl, le_refl}
use Rattle.std.specs.Prelude.{List, [], ◌∷◌, map}
use Rattle.std.specs.List.{AllZip}
use Rattle.saber_many.specs.Sharing.{each_filled, AreTold, RowsAt}
use Rattle.saber_many.specs.Labors.{each_first}

module _ {T : Type 0} (is_told : T → ℕ → Type 0) (alone : T → Type 0) where
  module _ {R : Type 0} (filled : T → R → T) (upto : T → ℕ → T) (is_rows : T → ℕ → R → Type 0)
      (keeps : (told : T) (d k : ℕ) (rows : R) → is_told told d → is_told (filled told rows) (d + 1) → is_rows (filled told rows) d rows → k ≤ d → upto (filled told rows) k ≡ upto told k) where
    pub all_keep : (told : List T) (d k : ℕ) (rows : List R) → AreTold is_told alone told d → AreTold is_told alone (each_filled filled told rows) (d + 1)
        → AllZip (RowsAt is_rows alone d) (each_filled filled told rows) rows → k ≤ d → map (λ t. upto t k) (each_filled filled told rows) ≡ map (λ t. upto t k) told
    all_keep [] d k rows was now is le = refl
    all_keep (t ∷ ts) d k [] was now is le = refl
    all_keep (t ∷ ts) d k (r ∷ rs) was now is le = λ i. keeps t d k r was.0.0 now.0.0 is.0.0 le i ∷ all_keep ts d k rs was.1 now.1 is.1 le i

  module _ (upto : T → ℕ → T) where
    pub all_again : ((told : T) (d j k : ℕ) → is_told told d → k ≤ j → j ≤ d → upto (upto told j) k ≡ upto told k) → (told : List T) (d j k : ℕ) → AreTold is_told alone told d → k ≤ j → j ≤ d
        → map (λ t. upto t k) (map (λ t. upto t j) told) ≡ map (λ t. upto t k) told
    all_again again [] d j k was low high = refl
    all_again again (t ∷ ts) d j k was low high = λ i. again t d j k was.0.0 low high i ∷ all_again again ts d j k was.1 low high i

    pub all_whole : ((told : T) (d : ℕ) → is_told told d → upto told d ≡ told) → (told : List T) (d : ℕ) → AreTold is_told alone told d → map (λ t. upto t d) told ≡ told
    all_whole whole [] d was = refl
    all_whole whole (t ∷ ts) d was = λ i. whole t d was.0.0 i ∷ all_whole whole ts d was.1 i

  module _ (upto : T → ℕ → T) (first : T → ℕ → ℕ) where
    pub all_early : ((told : T) (d t : ℕ) → is_told told d → t ≤ d → first (upto told t) t ≤ t) → (told : List T) (d t : ℕ) → AreTold is_told alone told d → t ≤ d
        → each_first first (map (λ x. upto x t) told) t ≤ t
    all_early early [] d t was le = le_refl t
    all_early early (x ∷ xs) d t was le = early x d t was.0.0 le

    pub all_rise : ((told : T) (d j k : ℕ) → is_told told d → j ≤ k → k ≤ d → first (upto told j) j ≤ first (upto told k) k) → (told : List T) (d j k : ℕ) → AreTold is_told alone told d → j ≤ k → k ≤ d
        → each_first first (map (λ x. upto x j) told) j ≤ each_first first (map (λ x. upto x k) told) k
    all_rise rises [] d j k was low high = low
    all_rise rises (x ∷ xs) d j k was low high = rises x d j k was.0.0 low high
