-- Behind a mark there is nothing.
use Rattle.std.proofs.Common.{◌≡◌, ◌≢◌, Bool, true, false, if◌then◌else◌, append_assoc, append-nil, ℕ, ◌+◌, take, drop, List, [], ◌∷◌, ◌++◌, Option, Some, None, sym, refl, ap, ◌∙◌}
use Rattle.std.proofs.lemmas.List.{take-append-drop, drop-drop}
use Rattle.saber_io.specs.declared.feeds.EndMark.{EndMark}
use Rattle.saber_pipe.specs.declared.items.Item.{Item}
use Rattle.saber_pipe.specs.Order.{mark_of, EndsByMark}

-- one more item behind others without a mark
pub one_more : (sent : List Item) (x : Item) → mark_of sent ≡ None → EndsByMark (sent ++ x ∷ [])
one_more [] x none [] after e m = absurd (m refl)
one_more [] x none (b ∷ []) after e m = cc
one_more [] x none (b ∷ c ∷ bs) after e m = cc
one_more (a ∷ sent) x none [] after e m = absurd (m refl)
one_more (Item.Piece p ∷ sent) x none (Item.Piece q ∷ before) after e m = one_more sent x none before after (cc) m
one_more (Item.Piece p ∷ sent) x none (Item.Last q ∷ before) after e m = cc
one_more (Item.Last p ∷ sent) x none (b ∷ before) after e m = cc

-- what has something behind it has no mark
unmarked_by : (m : Option EndMark) (got : List Item) (x : Item) (items : List Item) → EndsByMark (got ++ x ∷ items) → mark_of got ≡ m → mark_of got ≡ None
unmarked_by None got x items h e = e
unmarked_by (Some m) got x items h e = let none : x ∷ items ≡ [] = h got (x ∷ items) refl (λ q. cc) in cc

pub unmarked : (got : List Item) (x : Item) (items : List Item) → EndsByMark (got ++ x ∷ items) → mark_of got ≡ None
unmarked got x items h = unmarked_by (mark_of got) got x items h refl

-- a new pipe has no mark
pub fresh : EndsByMark []
fresh [] after e m = cc
fresh (b ∷ before) after e m = cc

-- the mark with one more item
pub mark_after : (got : List Item) (x : Item) → mark_of got ≡ None → mark_of (got ++ x ∷ []) ≡ mark_of (x ∷ [])
mark_after [] x none = refl
mark_after (Item.Piece p ∷ got) x none = mark_after got x none
mark_after (Item.Last m ∷ got) x none = cc

-- what is left from a place on: the next n, and what is left behind them
pub part_and_rest : {A : Type 0} (n at : ℕ) (xs found : List A) → found ≡ take n (drop at xs) → drop at xs ≡ found ++ drop (at + n) xs
part_and_rest n at xs found e = rw (e, ← drop-drop n at xs) (sym (take-append-drop n (drop at xs)))

-- no mark in the one and none in the other
pub both_unmarked : (xs ys : List Item) → mark_of xs ≡ None → mark_of ys ≡ None → mark_of (xs ++ ys) ≡ None
both_unmarked [] ys a b = b
both_unmarked (Item.Piece p ∷ xs) ys a b = both_unmarked xs ys a b
both_unmarked (Item.Last m ∷ xs) ys a b = cc

pub front_unmarked : (xs ys : List Item) → mark_of (xs ++ ys) ≡ None → mark_of xs ≡ None
front_unmarked [] ys a = refl
front_unmarked (Item.Piece p ∷ xs) ys a = front_unmarked xs ys a
front_unmarked (Item.Last m ∷ xs) ys a = cc

-- one more piece without a mark
pub one_piece : (xs : List Item) (x : Item) → mark_of xs ≡ None → mark_of (x ∷ []) ≡ None → mark_of (xs ++ x ∷ []) ≡ None
one_piece xs x a b = both_unmarked xs (x ∷ []) a b

-- one more piece behind what is kept, or none
pub pushed_piece : (done : Bool) (first rest new : List Item) (x : Item) → new ≡ (if done then rest ++ x ∷ [] else rest) → mark_of (first ++ rest) ≡ None → mark_of (x ∷ []) ≡ None → mark_of (first ++ new) ≡ None
pushed_piece true first rest new x e a b = ap (λ l. mark_of (first ++ l)) e ∙ ap mark_of (sym (append_assoc first rest (x ∷ []))) ∙ one_piece (first ++ rest) x a b
pushed_piece false first rest new x e a b = ap (λ l. mark_of (first ++ l)) e ∙ a

-- what has a mark is all
pub all_taken : (sent got items : List Item) → sent ≡ got ++ items → EndsByMark sent → mark_of got ≢ None → sent ≡ got
all_taken sent got items e h m = e ∙ ap (λ l. got ++ l) (h got items e m) ∙ append-nil got
