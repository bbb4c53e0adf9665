-- Readers over sources that tell what they have left.
use Rattle.std.proofs.Common.{◌≡◌, ℕ, List, [], ◌++◌, Bool, true, false, cond, Option, Some, None, Result, Ok, Err, IfOk, IfSome, refl, sym, ◌∙◌, ap, subst, option_map}
use Rattle.saber_io.specs.Outside.{left_before, EndsEmpty}
use Rattle.saber_plan.specs.Rows.{Read, bad}
use Rattle.saber_plan.specs.declared.rows.Row.{Row}
use Rattle.saber_plan.specs.declared.rows.Side.{Side}
use Rattle.saber_rows.specs.declared.ends.RowEnd.{RowEnd}
use Rattle.saber_rows.specs.declared.ends.RowEnd.TheVariants.{ReadFault, NoMemory, Bad}
use Rattle.saber_rows.specs.declared.ends.Stop.{Stop}
use Rattle.saber_rows.specs.Reader.{Reader, rest_of, CanFollow, to_come, rest_over, EndsRefused, HasEnd, answer_of}
use Rattle.saber_rows.specs.Calls.{Moves, EndsBy, given_by, IsNext, first_of_rows}
use Rattle.saber_rows.proofs.ReadSteps.{true_not_false}

pub none_comes : (r : Reader) (z : List ℕ) → r.ended ≡ true → to_come r z ≡ []
none_comes r z e = ap (λ b. cond b [] z) e

pub all_comes : (r : Reader) (z : List ℕ) → r.ended ≡ false → to_come r z ≡ z
all_comes r z e = ap (λ b. cond b [] z) e

-- what will come can follow
pub can_come : (r : Reader) (z : List ℕ) → CanFollow false r (to_come r z)
can_come r z e = (refl, none_comes r z e)

module _ (out : Read → Read) (old new : Reader) (had has : Option (List ℕ)) (m : Moves out old new had has) where
  after_end : (z : List ℕ) → old.ended ≡ true → rest_of false old (to_come old (m.taken ++ z)) ≡ out (rest_of false new (to_come new z))
  after_end z e =
      ap (rest_of false old) (none_comes old (m.taken ++ z) e ∙ ap (λ t. t ++ []) (sym (m.still e).0))
      ∙ m.rest false [] (λ _. (refl, refl))
      ∙ ap (λ t. out (rest_of false new t)) (sym (none_comes new z (m.still e).1))

  before_end : (z : List ℕ) → has ≡ Some z → old.ended ≡ false → (e : Bool) → new.ended ≡ e → rest_of false old (to_come old (m.taken ++ z)) ≡ out (rest_of false new (to_come new z))
  before_end z there unended true e =
      let empty : z ≡ [] = subst EndsEmpty there (m.seen unended e) in
      ap (rest_of false old) (all_comes old (m.taken ++ z) unended)
      ∙ m.rest false z (λ _. (refl, empty))
      ∙ ap (λ t. out (rest_of false new t)) (empty ∙ sym (none_comes new z e))
  before_end z there unended false e =
      ap (rest_of false old) (all_comes old (m.taken ++ z) unended)
      ∙ m.rest false z (λ ended. true_not_false new.ended e ended)
      ∙ ap (λ t. out (rest_of false new t)) (sym (all_comes new z e))

  comes : (z : List ℕ) → has ≡ Some z → (e : Bool) → old.ended ≡ e → rest_of false old (to_come old (m.taken ++ z)) ≡ out (rest_of false new (to_come new z))
  comes z there true e = after_end z e
  comes z there false e = before_end z there e new.ended refl

  by_left : (o : Option (List ℕ)) → has ≡ o → rest_over old (left_before m.taken o) ≡ option_map out (rest_over new o)
  by_left None there = refl
  by_left (Some z) there = ap Some (comes z there old.ended refl)

  -- what a reader had to give is what its move gives, and then what it has
  pub readers_tell : rest_over old had ≡ option_map out (rest_over new has)
  readers_tell = ap (rest_over old) m.left ∙ by_left has refl

some_of : (P : Read → Type 0) (f : Read → Read) (g : List ℕ → Read) (o : Option Read) (has : Option (List ℕ)) → o ≡ option_map f (option_map g has) → ((z : List ℕ) → P (f (g z))) → IfSome o P
some_of P f g o None e h = subst (λ x. IfSome x P) (sym e) tt
some_of P f g o (Some z) e h = subst (λ x. IfSome x P) (sym e) (h z)

-- an answer is what the definition has next
pub is_next : (result : Result (Option Row) RowEnd) (old new : Reader) (had has : Option (List ℕ)) → Moves (given_by result) old new had has → EndsBy result new → IfSome (rest_over old had) (IsNext result)
is_next result old new had has m ends = some_of (IsNext result) (given_by result) (λ z. rest_of false new (to_come new z)) (rest_over old had) has (readers_tell (given_by result) old new had has m) (λ z. by_answer result ends z) where
  by_answer : (a : Result (Option Row) RowEnd) → EndsBy a new → (z : List ℕ) → IsNext a (given_by a (rest_of false new (to_come new z)))
  by_answer (Ok (Some row)) h z = refl
  by_answer (Ok None) h z = ap (λ r. first_of_rows r.rows r.end) (h.0 (to_come new z) (can_come new z))
  by_answer (Err (Bad n c)) h z = ap (λ r. first_of_rows r.rows r.end) (h (to_come new z) (can_come new z))
  by_answer (Err ReadFault) h z = tt
  by_answer (Err NoMemory) h z = tt

-- ---- what an answer says of its row, and of the line that it refuses

pub of_given : (P Q : Row → Type 0) (a : Result (Option Row) RowEnd) → ((row : Row) → P row → Q row) → IfOk a (λ o. IfSome o P) → IfOk a (λ o. IfSome o Q)
of_given P Q (Ok None) f h = tt
of_given P Q (Ok (Some row)) f h = f row h
of_given P Q (Err e) f h = tt

pub refused_ends : (a : Result (Option Row) RowEnd) (side : Side) (r : Reader) → r.rules.side ≡ side → EndsBy a r → EndsRefused a side r
refused_ends a side r e h line cause is = subst (λ s. HasEnd (bad s line cause) r) e (subst (λ x. EndsBy x r) is h)

-- a reader that stopped keeps an answer
pub stopped : (o : Option Stop) (s : Stop) → o ≡ Some s → option_map answer_of o ≡ None → ⊥
stopped None s e h = cc
stopped (Some t) s e h = cc
