-- Steps of the parser that are the last of their function.
use Rattle.std.proofs.Common.{◌≡◌, List, [], ◌∷◌, Result, Ok, Err, subst}
use Rattle.saber_query.specs.declared.token.Token.{Token}
use Rattle.saber_query.specs.declared.stop.Stop.{Stop}
use Rattle.saber_query.specs.Machine.{Symbol, push, takes}
use Rattle.saber_query.specs.declared.tree.Select.{Select}
use Rattle.saber_query.specs.Reading.{Parses, QueryGives}
use Rattle.saber_query.proofs.ParseLemmas.{read_token, fail_token}

pub token_parses : {T : Type 0} (x : Symbol) (zs : List Symbol) (t : Token) (f : T → List Token) (r : Result T Stop) (old mid new : List Token) →
    push x t ≡ takes zs → old ≡ t ∷ mid → Parses zs f r mid new → Parses (x ∷ []) (λ (v : T). t ∷ f v) r old new
token_parses x zs t f (Ok v) old mid new h h' p = read_token x zs t (f v) old mid new h h' p
token_parses x zs t f (Err e) old mid new h h' p = fail_token x zs t (λ v. t ∷ f v) f e old mid new h h' p

-- what a parse gives is the same for equal tokens
pub gives_for : (r : Result Select Stop) (ts us rest : List Token) → ts ≡ us → QueryGives r ts rest → QueryGives r us rest
gives_for r ts us rest e h = let P : List Token → Type 0 = λ zs. QueryGives r zs rest in subst P e h
