-- Parts that wait to be summed up, as one more comes.
use Rattle.std.proofs.Common.{◌≡◌, ℕ, [], ◌∷◌, ◌++◌, length, Result, Ok, Err, OnOk, OnErr, sym, ◌∙◌, ap, subst}
use Rattle.saber_plan.specs.Parts.{Part}
use Rattle.saber_sliding.specs.Entries.{Entries, pushed_entries, suffixes, CanFollow, Chained}
use Rattle.saber_sliding.proofs.Entered.{chained-push, length-suffixes, suffixes-push}

-- what holds at both ends
either : {T E : Type 0} (r : Result T E) (P Q R : Type 0) → OnOk r P → OnErr r Q → (P → R) → (Q → R) → R
either (Ok x) P Q R p q f g = f p
either (Err x) P Q R p q f g = g q

-- each step is one for an entry that is seen
pub as_long : (es fs seen : Entries) → fs ≡ es → suffixes fs ≡ seen → length es ≡ length seen
as_long es fs seen e s = sym (length-suffixes es) ∙ ap (λ (l : Entries). length (suffixes l)) (sym e) ∙ ap (λ (l : Entries). length l) s

pub more_chained : (es fs : Entries) (n : ℕ) (p : Part) → Chained es → CanFollow p (suffixes es) → fs ≡ es ++ (n, p) ∷ [] → Chained fs
more_chained es fs n p g h e = subst Chained (sym e) (chained-push n p es g h)

-- where memory is wanting, none comes
pub still_chained : {T E : Type 0} (r : Result T E) (es fs : Entries) (n : ℕ) (p : Part) → Chained es → CanFollow p (suffixes es)
    → OnOk r (fs ≡ es ++ (n, p) ∷ []) → OnErr r (fs ≡ es) → Chained fs
still_chained r es fs n p g h ok err = either r (fs ≡ es ++ (n, p) ∷ []) (fs ≡ es) (Chained fs) ok err (more_chained es fs n p g h) (λ e. subst Chained (sym e) g)

pub more_seen : (es fs seen : Entries) (n : ℕ) (p : Part) → suffixes es ≡ seen → fs ≡ es ++ (n, p) ∷ [] → suffixes fs ≡ pushed_entries seen n p
more_seen es fs seen n p s e = ap suffixes e ∙ suffixes-push n p es ∙ ap (λ (l : Entries). pushed_entries l n p) s
