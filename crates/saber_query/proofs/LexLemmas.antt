-- The tokens of a text, byte by byte.
use Rattle.std.proofs.Common.{◌≡◌, ℕ, ◌+◌, ◌<◌, List, ◌++◌, length, drop, slice_index_or, get_or, Result, Ok, Err, refl, sym, ◌∙◌, ap, add-one, append_assoc}
use Rattle.std.proofs.Math.Seq.{drop-cons}
use Rattle.saber_query.specs.declared.token.Placed.{Placed}
use Rattle.saber_query.specs.declared.lexer.Pending.{Pending}
use Rattle.saber_query.specs.declared.fault.QueryFault.{QueryFault}
use Rattle.saber_query.specs.Lexing.{Step, goes, fails, step, lex_from, follow, onto, StepGives}

onto_onto : (ts us : List Placed) (r : Result (List Placed) QueryFault) → onto ts (onto us r) ≡ onto (ts ++ us) r
onto_onto ts us (Ok vs) = ap (λ w. Ok w) (sym (append_assoc ts us vs))
onto_onto ts us (Err f) = refl

stepped : (q : Pending) (out new : List Placed) (s : Step) (rest : Pending → Result (List Placed) QueryFault) → StepGives (Ok q) out new s → onto out (follow s rest) ≡ onto new (rest q)
stepped q out new (goes ts r) rest (e, e') = onto_onto out ts (rest r) ∙ ap (λ w. onto w (rest r)) (sym e') ∙ ap (λ w. onto new (rest w)) (sym e)
stepped q out new (fails f) rest h = absurd h

pub lex_more : (at : ℕ) (q r : Pending) (text : List ℕ) (out new : List Placed) (want : Result (List Placed) QueryFault) → onto out (lex_from at q (drop at text)) ≡ want → at < length text →
    StepGives (Ok r) out new (step at q (slice_index_or text at 0)) → onto new (lex_from (at + 1) r (drop (at + 1) text)) ≡ want
unfolding lex_from
lex_more at q r text out new want e h gives =
    sym (stepped r out new (step at q (slice_index_or text at 0)) (λ p. lex_from (at + 1) p (drop (at + 1) text)) gives)
    ∙ ap (λ n. onto out (follow (step at q (get_or text at 0)) (λ p. lex_from (at + 1) p (drop n text)))) (add-one at)
    ∙ ap (λ bs. onto out (lex_from at q bs)) (sym (drop-cons text at 0 h))
    ∙ e
