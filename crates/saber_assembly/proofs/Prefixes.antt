-- Prefixes of what is written.
use Rattle.std.proofs.Common.{◌≡◌, ◌≢◌, ℕ, List, [], ◌++◌, Option, sym, ◌∙◌, ap, subst}
use Rattle.saber_plan.specs.Outputs.{AppendsPrefix}

-- a text that was empty before this much was added is this much
pub all_added : (text out start adds : List ℕ) → text ≡ out → out ≡ start ++ adds → start ≡ [] → text ≡ adds
all_added text out start adds e f none = e ∙ f ∙ ap (λ l. l ++ adds) none

-- of such a text, a prefix went out
pub prefix_as : (old new : Option (List ℕ)) (text out start adds : List ℕ) → text ≡ out → out ≡ start ++ adds → start ≡ [] → AppendsPrefix old new text → AppendsPrefix old new adds
prefix_as old new text out start adds e f none p = subst (AppendsPrefix old new) (all_added text out start adds e f none) p

-- it is some, where what was added is
pub some_text : (text out start adds : List ℕ) → text ≡ out → out ≡ start ++ adds → start ≡ [] → adds ≢ [] → text ≢ []
some_text text out start adds e f none some empty = some (sym (all_added text out start adds e f none) ∙ empty)
