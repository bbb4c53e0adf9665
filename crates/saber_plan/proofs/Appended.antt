-- Texts that grow at their end, step by step: what was there stays in front.
use Rattle.std.proofs.Common.{◌≡◌, ℕ, List, [], ◌++◌, sym, ◌∙◌, ap, append-nil, append_assoc}
use Rattle.saber_plan.specs.Texts.{Behind}

pub behind_itself : (xs : List ℕ) → Behind xs xs
behind_itself xs = record { more = []; all = sym (append-nil xs) }

pub behind_both : (xs ys zs : List ℕ) → Behind xs ys → Behind ys zs → Behind xs zs
behind_both xs ys zs a b = record { more = a.more ++ b.more; all = b.all ∙ ap (λ l. l ++ b.more) a.all ∙ append_assoc xs a.more b.more }
