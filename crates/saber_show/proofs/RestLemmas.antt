-- A query's words are STREAM and the rest, and their text is read back.
use Rattle.std.proofs.Common.{◌≡◌, ℕ, List, ◌∷◌, Result, Ok, Err, sym, ◌∙◌, ap, subst, append_assoc}
use Rattle.std.specs.Prelude.{Vec, OnOk, IfOk}
use Rattle.std.specs.declared.alloc.AllocError.{AllocError}
use Rattle.std.specs.declared.alloc.Global.{Global}
use Rattle.saber_query.specs.declared.token.Keyword.TheVariants as k
use Rattle.saber_query.specs.declared.token.Token.TheVariants.{Word}
use Rattle.saber_query.specs.declared.tree.Select.{Select}
use Rattle.saber_query.specs.Trees.{query_of}
use Rattle.saber_query.specs.Words.{words}
use Rattle.saber_query.specs.Parsed.{Parsed, IsParsed}
use Rattle.saber_query.specs.Spelling.{spelled_text, HasTokens}
use Rattle.saber_query.proofs.LexBack.{spelled_lexes as spelled_tokens_are_read_back}
use Rattle.saber_show.specs.Rest.{rest_words}

pub on_ok : {A E P Q : Type 0} (r : Result A E) → (P → Q) → OnOk r P → OnOk r Q
on_ok (Ok v) f h = f h
on_ok (Err e) f h = h

pub rest_is : (q : Select) → Word k.Stream ∷ rest_words q ≡ words (query_of q)
rest_is q = simp append_assoc

pub read_back : (p : Parsed) (q : Select) (r : Result (Vec ℕ Global) AllocError) → q ≡ p.select → IsParsed p.select p.starts
    → IfOk r (λ v. v.items ≡ spelled_text (words (query_of q))) → IfOk r (λ v. HasTokens v.items (words (query_of p.select)))
read_back p q (Ok v) e h g =
    let ts = words (query_of p.select) in
    let P : List ℕ → Type 0 = λ x. HasTokens x ts in
    subst P (sym (g ∙ ap (λ x. spelled_text (words (query_of x))) e)) (spelled_tokens_are_read_back ts h.real)
read_back p q (Err x) e h g = tt
