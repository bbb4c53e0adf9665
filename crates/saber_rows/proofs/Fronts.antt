-- A look at what stands in front of a side.
use Rattle.std.proofs.Common.{◌≡◌, ℕ, List, [], Bool, true, false, cond, Option, Some, None, Result, Ok, Err, IfSome, ℤ, refl, sym, ◌∙◌, ap, subst, arith}
use Rattle.saber_plan.specs.declared.rows.Row.{Row}
use Rattle.saber_plan.specs.declared.rows.Side.{Side}
use Rattle.saber_plan.specs.Rows.{Read, before, stamp, bad, RowFits, SideRules}
use Rattle.saber_plan.specs.Windows.{in_order}
use Rattle.saber_rows.specs.declared.ends.RowEnd.{RowEnd}
use Rattle.saber_rows.specs.declared.ends.RowEnd.TheVariants.{ReadFault, NoMemory, Bad}
use Rattle.saber_rows.specs.declared.heads.Look.TheVariants.{Found}
use Rattle.saber_rows.specs.Reader.{Reader, HasEnd}
use Rattle.saber_rows.specs.Calls.{Moves, EndsBy, WantsMemory, kept_by, last_after}
use Rattle.saber_rows.specs.Heads.{Headed, bare, look_of, Takes, EndedBy, SidePassed, ComesAfter, Looks, Called}
use Rattle.saber_rows.proofs.ReadSteps.{given_none}

abbrev pub Answer : Type 0
Answer = Result (Option Row) RowEnd

pub if_some : {A : Type 0} (P Q : A → Type 0) (o : Option A) → IfSome o P → ((a : A) → P a → Q a) → IfSome o Q
if_some P Q None h f = tt
if_some P Q (Some a) h f = f a h

-- what stands in front after it
abbrev pub after_look : Answer → Reader → Headed
after_look (Ok (Some row)) r = record { reader = r; ahead = Some row }
after_look (Ok None) r = bare r
after_look (Err e) r = bare r

abbrev takes_of : (out : Read → Read) (a b : Reader) (had has : Option (List ℕ)) → Moves out a b had has → Takes a b had has
takes_of out a b had has m = record { taken = m.taken; left = m.left; done = m.done; count = m.count; lines = m.lines; still = m.still; seen = m.seen }

no_answer : (o : Option Answer) (a : Answer) → o ≡ None → o ≡ Some a → ⊥
no_answer o a e f = cc

-- ---- the cause of an answer

by_cause : (result : Answer) (old new : Reader) (had has : Option (List ℕ)) → Called result old new had has → old.answer ≡ None → (a : Answer) → result ≡ a → EndsBy a new
by_cause result old new had has c f (Ok (Some row)) e = tt
by_cause result old new had has c f (Ok None) e = (c.none f e, c.ended f e)
by_cause result old new had has c f (Err (Bad n k)) e = subst (λ (s : SideRules). HasEnd (bad s.side n k) new) (sym c.rules) (c.refused f n k e)
by_cause result old new had has c f (Err ReadFault) e = c.cut f e
by_cause result old new had has c f (Err NoMemory) e = subst WantsMemory (sym c.rules) (c.memory f e)

ended_sure : (a : Answer) (new : Reader) → EndsBy a new → IfSome (kept_by a) (λ x. EndedBy x new)
ended_sure (Ok (Some row)) new h = tt
ended_sure (Ok None) new h = h
ended_sure (Err e) new h = h

-- the answer that the reader has then is one that ended it, with its cause
sure_after : (result : Answer) (old new : Reader) (had has : Option (List ℕ)) → Called result old new had has → IfSome old.answer (λ a. EndedBy a old) → IfSome new.answer (λ a. EndedBy a new)
sure_after result old new had has c sure = by_answer old.answer refl where
  by_answer : (o : Option Answer) → old.answer ≡ o → IfSome new.answer (λ a. EndedBy a new)
  by_answer None e = subst (λ o. IfSome o (λ x. EndedBy x new)) (sym (c.answer e)) (ended_sure result new (by_cause result old new had has c e result refl))
  by_answer (Some a) e = let k = subst (λ o. IfSome o (λ x. (result ≡ x) × (new ≡ old))) e c.again in subst (λ (r : Reader). IfSome r.answer (λ x. EndedBy x r)) (sym k.1) sure

-- its cause, also where it is given again
cause_of : (result : Answer) (old new : Reader) (had has : Option (List ℕ)) → Called result old new had has → IfSome old.answer (λ a. EndedBy a old) → EndsBy result new
cause_of result old new had has c sure = by_answer old.answer refl where
  no_row : (a : Answer) (r : Reader) → EndedBy a r → EndsBy a r
  no_row (Ok (Some row)) r h = absurd h
  no_row (Ok None) r h = h
  no_row (Err e) r h = h

  by_answer : (o : Option Answer) → old.answer ≡ o → EndsBy result new
  by_answer None e = by_cause result old new had has c e result refl
  by_answer (Some a) e =
      let k = subst (λ o. IfSome o (λ x. (result ≡ x) × (new ≡ old))) e c.again in
      let s = subst (λ o. IfSome o (λ x. EndedBy x old)) e sure in
      subst (λ x. EndsBy x new) (sym k.0) (subst (λ (r : Reader). EndsBy a r) (sym k.1) (no_row a old s))

-- a row comes only of a reader that has not ended
fresh_row : (row : Row) (old new : Reader) (had has : Option (List ℕ)) → Called (Ok (Some row)) old new had has → IfSome old.answer (λ a. EndedBy a old) → old.answer ≡ None
fresh_row row old new had has c sure = by_answer old.answer refl where
  by_answer : (o : Option Answer) → old.answer ≡ o → old.answer ≡ None
  by_answer None e = e
  by_answer (Some a) e =
      let k = subst (λ o. IfSome o (λ x. (◌≡◌ {A = Answer} (Ok (Some row)) x) × (new ≡ old))) e c.again in
      let s = subst (λ o. IfSome o (λ x. EndedBy x old)) e sure in
      absurd (subst (λ x. EndedBy x old) (sym k.0) s)

-- an answer that is no row is kept
kept_after : (a : Answer) (old new : Reader) (had has : Option (List ℕ)) → Called a old new had has → kept_by a ≡ Some a → new.answer ≡ Some a
kept_after a old new had has c k = by_answer old.answer refl where
  by_answer : (o : Option Answer) → old.answer ≡ o → new.answer ≡ Some a
  by_answer None e = c.answer e ∙ k
  by_answer (Some b) e =
      let q = subst (λ o. IfSome o (λ x. (a ≡ x) × (new ≡ old))) e c.again in
      ap (λ (r : Reader). r.answer) q.1 ∙ e ∙ ap Some (sym q.0)

-- ---- the look

module _ (old new : Reader) (had has : Option (List ℕ)) (side : Side) (last : Option ℤ) (count : ℕ) (p : SidePassed side last count (bare old)) where
  -- a row comes in front
  found : (row : Row) → Called (Ok (Some row)) old new had has → Looks (Found (stamp row.values)) side last count (bare old) (record { reader = new; ahead = Some row }) had has
  found row c = record {
    takes = takes_of (before row) old new had has c.moves;
    rest = λ partial z follow. c.moves.rest partial z follow;
    finds = (row, refl, refl);
    passed = record {
      is_side = ap (λ (s : SideRules). s.side) c.rules ∙ p.is_side;
      front = record { fits = subst (λ (s : SideRules). RowFits s.side s.columns row) (sym c.rules) c.fits; last = c.last; fresh = c.answer (fresh_row row old new had has c p.sure) };
      sure = sure_after (Ok (Some row)) old new had has c p.sure;
      order = p.order (fresh_row row old new had has c p.sure) row.values c.ordered;
      counted = omega (arith, p.counted, c.rises);
      few = c.counted;
    };
  }

  -- none comes
  later_comes : (a : Answer) → Called a old new had has → last_after old.last a ≡ old.last → kept_by a ≡ Some a → ComesAfter last None new
  later_comes a c e k f zs h = by_answer old.answer refl where
    by_answer : (o : Option Answer) → old.answer ≡ o → in_order last (stamp zs) ≡ true
    by_answer None g = absurd (no_answer new.answer a f (c.answer g ∙ k))
    by_answer (Some b) g =
        let q = subst (λ o. IfSome o (λ x. (a ≡ x) × (new ≡ old))) g c.again in
        absurd (no_answer old.answer b (ap (λ (r : Reader). r.answer) (sym q.1) ∙ f) g)

  passed_none : (a : Answer) → Called a old new had has → last_after old.last a ≡ old.last → kept_by a ≡ Some a → SidePassed side last count (bare new)
  passed_none a c e k = record {
    is_side = ap (λ (s : SideRules). s.side) c.rules ∙ p.is_side;
    front = tt;
    sure = sure_after a old new had has c p.sure;
    order = later_comes a c e k;
    counted = omega (arith, p.counted, c.stays);
    few = c.counted;
  }

  pub looked : (a : Answer) → Called a old new had has → Looks (look_of a) side last count (bare old) (after_look a new) had has
  looked (Ok (Some row)) c = found row c
  looked (Ok None) c = record {
    takes = takes_of (λ rest. rest) old new had has c.moves;
    rest = λ partial z follow. c.moves.rest partial z follow;
    finds = (refl, kept_after (Ok None) old new had has c refl, cause_of (Ok None) old new had has c p.sure);
    passed = passed_none (Ok None) c refl refl;
  }
  looked (Err e) c = record {
    takes = takes_of (λ rest. rest) old new had has c.moves;
    rest = λ partial z follow. c.moves.rest partial z follow;
    finds = (refl, kept_after (Err e) old new had has c refl, cause_of (Err e) old new had has c p.sure);
    passed = passed_none (Err e) c refl refl;
  }

-- the same by what the call answered, where no row stood in front
pub looks : (old new : Reader) (had has : Option (List ℕ)) (side : Side) (last : Option ℤ) (count : ℕ) (ahead : Option Row) → ahead ≡ None → SidePassed side last count (record { reader = old; ahead = ahead })
    → (result a : Answer) → result ≡ a → Called result old new had has → Looks (look_of a) side last count (record { reader = old; ahead = ahead }) (after_look a new) had has
looks old new had has side last count ahead none p result a e c =
    subst (λ o. Looks (look_of a) side last count (record { reader = old; ahead = o }) (after_look a new) had has) (sym none)
    (looked old new had has side last count (subst (λ o. SidePassed side last count (record { reader = old; ahead = o })) none p) a (subst (λ x. Called x old new had has) e c))

abbrev pub stand : (r : Reader) (had : Option (List ℕ)) → Takes r r had had
stand r had = record { taken = []; left = given_none had; done = []; count = omega arith; lines = λ z follow. refl; still = λ e. (refl, e); seen = λ unended e. cc }

pub in_front : (b : Bool) (row : Row) → b ≡ true → cond b (Some row) None ≡ Some row
in_front b row e = ap (λ x. cond x (Some row) None) e

pub none_in_front : (b : Bool) (row : Row) → b ≡ false → cond b (Some row) None ≡ None
none_in_front b row e = ap (λ x. cond x (Some row) None) e

-- a row that stands in front already
pub stays : (row : Row) (h : Headed) (side : Side) (last : Option ℤ) (count : ℕ) (had : Option (List ℕ)) → h.ahead ≡ Some row → SidePassed side last count h → Looks (Found (stamp row.values)) side last count h h had had
stays row h side last count had e p = record {
  takes = stand h.reader had;
  rest = λ partial z follow. refl;
  finds = (row, e, refl);
  passed = p;
}
