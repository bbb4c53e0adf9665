-- What a parse of all tokens comes to.
use Rattle.std.proofs.Common.{◌≡◌, List, [], ◌∷◌, Err, refl, ◌∙◌}
use Rattle.std.proofs.Common.{false}
use Rattle.std.specs.Bool.{IsTrue}
use Rattle.saber_query.specs.declared.token.Token.{Token}
use Rattle.saber_query.specs.declared.stop.Stop.{Stop}
use Rattle.saber_query.specs.declared.stop.Stop.TheVariants.{NoMemory, Syntax, Depth}
use Rattle.saber_query.specs.declared.tree.Select.{Select}
use Rattle.saber_query.specs.Words.{IsSyntax}
use Rattle.saber_query.specs.Machine.{stops, fate, start}
use Rattle.saber_query.specs.Reading.{Reads, Parses, StopsWith, QueryGives}
use Rattle.saber_query.proofs.Exact.{syntax_exact, deep_exact}

pub query_fails : (f : Select → List Token) (e : Stop) (ts rest : List Token) → Parses (start 64) f (Err e) ts rest → QueryGives (Err e) ts rest
query_fails f NoMemory ts rest h = tt
query_fails f Syntax ts rest h = syntax_exact 64 ts rest (h [])
query_fails f Depth ts rest h = deep_exact 64 ts rest (h [])

nothing_left : (rest : List Token) → ¬ (rest ≡ []) → fate [] rest ≡ stops rest
unfolding fate
nothing_left [] h = absurd (h refl)
nothing_left (t ∷ ts) h = refl

pub query_left : (w ts rest : List Token) → Reads (start 64) w ts rest → ¬ (rest ≡ []) → StopsWith (IsSyntax 64) ts rest
query_left w ts rest r h = syntax_exact 64 ts rest (r.goes [] ∙ nothing_left rest h)

pub not_there : {A : Type 0} → (A → IsTrue false) → ¬ A
not_there f a = no (f a) where
  no : IsTrue false → ⊥
  no h = cc
