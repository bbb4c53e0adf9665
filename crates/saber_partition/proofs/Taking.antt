-- A task's piece as that of arrivals, and a store that takes it in.
use Rattle.std.proofs.Common.{◌≡◌, ℕ, ◌≤◌, List, [], ◌∷◌, ◌++◌, length, take, drop, slice_range, get_or, Bool, true, false, cond, not, ◌&&◌, suc, refl, sym, ◌∙◌, ap, subst, subst₂, append_assoc, arith}
use Rattle.std.proofs.lemmas.List.{take_all}
use Rattle.std.specs.FinMap.{empty}
use Rattle.saber_plan.specs.declared.rows.Row.{Row}
use Rattle.saber_plan.specs.Trees.{Tree}
use Rattle.saber_plan.specs.Inputs.{Input, first_arrivals}
use Rattle.saber_plan.specs.GivenRows.{RowsFit}
use Rattle.saber_plan.specs.Windows.{no_rows}
use Rattle.saber_plan.specs.Answers.{by_way, closed_in_turn, closed_at_last}
use Rattle.saber_plan.specs.Facts.Lists.{slice-front, slice-join}
use Rattle.saber_plan.specs.Facts.Rows.{fits_take}
use Rattle.saber_plan.specs.Tasks.{by_windows, unclosed, unclosed_by_list, last_answers, kept_behind, plain_added, list_added, change_added, added_text, places_after, places_by}
use Rattle.saber_fragment.specs.Drafts.{Sight, IsSightOf}
use Rattle.saber_partition.specs.Streams.{Asks}
use Rattle.saber_partition.specs.Lists.{Lists, TakenBy, TakenIn, held_lists, kept_in}
use Rattle.saber_partition.specs.Pieces.{Made, IsMade, AreMade, ArePieces, IsOf, HasSeen, RowsCome, RowsCame, EndCame, Follow, Followed}
use Rattle.saber_partition.proofs.Listing.{held_is, nothing_held}
use Rattle.saber_laws.proofs.ListLaws.{no_list_open_behind}
use Rattle.saber_laws.proofs.EndLaws.{ends_are_behind}

-- ---- making

first_less : (ns : List ℕ) (k : ℕ) → get_or (drop 1 ns) k 0 ≡ get_or ns (suc k) 0
first_less [] k = refl
first_less (n ∷ ns) k = refl

-- one row more
pub made_more : (q : Tree) (rs : List Row) (ns : List ℕ) (ps : List Made) (r : Row) (p : Made) → AreMade q rs ns ps → IsMade q r (get_or ns (length rs) 0) p → AreMade q (rs ++ r ∷ []) ns (ps ++ p ∷ [])
unfolding AreMade
made_more q [] ns [] r p h i = (i, tt)
made_more q [] ns (o ∷ ps) r p h i = absurd h
made_more q (s ∷ rs) ns [] r p h i = absurd h
made_more q (s ∷ rs) ns (o ∷ ps) r p h i = (h.0, made_more q rs (drop 1 ns) ps r p h.1 (subst (λ n. IsMade q r n p) (sym (first_less ns (length rs))) i))

pub made_nothing : (q : Tree) (ns : List ℕ) → AreMade q [] ns []
unfolding AreMade
made_nothing q ns = tt

pub placed_right : (q : Tree) (xs rs : List Row) (ps : List Made) → AreMade q rs (places_after q xs rs) ps → ArePieces q xs rs ps
unfolding AreMade ArePieces places_after
placed_right q xs [] [] h = tt
placed_right q xs [] (p ∷ ps) h = h
placed_right q xs (r ∷ rs) [] h = h
placed_right q xs (r ∷ rs) (p ∷ ps) h = (h.0, placed_right q (xs ++ r ∷ []) rs ps h.1)

pub seen_is_of : (q : Tree) → Asks q → (s : Sight) (r : Input) (x y : ℕ) (ps : List Made) (ended : Bool) → HasSeen q s ps ended → IsSightOf q s r x y → IsOf q r x y ps ended
seen_is_of q a s r x y ps ended seen sight =
    let old = take x r.rows in
    let new = slice_range r.rows x y in
    let places_are : s.places ≡ places_after q old new = sight.places_are ∙ ap (λ ks. places_by q ks r.rows x y) a.lists in
    record {
      opens = sight.opens;
      rows_are = placed_right q old new ps (subst₂ (λ rs ns. AreMade q rs ns ps) sight.rows_are places_are seen.made);
      ended_is = seen.ended_is ∙ sight.ended_is;
    }

-- ---- taking

rows_upto : (xs : List Row) (x y : ℕ) → x ≤ y → take x xs ++ slice_range xs x y ≡ take y xs
rows_upto xs x y up = sym (sym (slice-front xs y) ∙ slice-join xs 0 x y (omega arith) up ∙ ap (λ l. l ++ slice_range xs x y) (slice-front xs x))

module _ (q : Tree) (a : Asks q) (r : Input) (x y : ℕ) (ps : List Made) (ended : Bool) (m : Lists) (f : Follow q r x y ps ended m) where
  abbrev pub old_rows : List Row
  old_rows = take x r.rows

  abbrev pub new_rows : List Row
  new_rows = slice_range r.rows x y

  pub all_rows : old_rows ++ new_rows ≡ take y r.rows
  all_rows = rows_upto r.rows x y f.rises

  pub rows_come : RowsCome q old_rows new_rows ps m
  rows_come = record {
    asks = a;
    fits = subst (RowsFit q no_rows) (sym all_rows) (fits_take q no_rows r.rows y f.fits);
    made = f.of_is.rows_are;
    taken = subst (λ b. TakenBy b q old_rows m) f.of_is.opens f.taken;
  }

  end_rows : (b : Bool) → b ≡ (first_arrivals r y).ended → cond b (closed_at_last q (take y r.rows)) [] ≡ cond b (closed_at_last q r.rows) []
  end_rows true e = ap (closed_at_last q) (take_all y r.rows (let far = ends_are_behind r y (sym e) in omega (arith, far)))
  end_rows false e = refl

  -- the rows are in, and then the end
  pub followed : (n k : Lists) (before middle after : List ℕ) → RowsCame q old_rows new_rows n before middle → EndCame q (old_rows ++ new_rows) ended k middle after → Followed q r x y k before after
  followed n k before middle after rows end =
      let open_then : not (first_arrivals r x).ended && (first_arrivals r y).ended ≡ ended = ap (λ b. not b && (first_arrivals r y).ended) f.of_is.opens ∙ sym f.of_is.ended_is in
      let turned = closed_in_turn q old_rows new_rows in
      record {
        taken = subst₂ (λ b l. TakenBy b q l k) f.of_is.ended_is all_rows end.taken;
        text = end.text ∙ ap (λ o. o ++ cond ended (closed_at_last q (old_rows ++ new_rows)) []) rows.text
            ∙ append_assoc before turned (cond ended (closed_at_last q (old_rows ++ new_rows)) [])
            ∙ ap (λ l. before ++ (turned ++ l))
            (ap (λ xs. cond ended (closed_at_last q xs) []) all_rows ∙ end_rows ended f.of_is.ended_is
            ∙ ap (λ b. cond b (closed_at_last q r.rows) []) (sym open_then));
      }

-- ---- what the trait says

pub list_adds : (q : Tree) → Asks q → (r : Input) (x y : ℕ) → added_text q r x y ≡ list_added q r x y
unfolding added_text
list_adds q a r x y = ap (λ w. by_way w (plain_added q r x y) (list_added q r x y) (λ c. change_added c q r x y)) a.has_lists

list_keeps : (q : Tree) → Asks q → (r : Input) → kept_behind q r ≡ record { parts = empty; lists = unclosed_by_list q r; answers = [] }
unfolding kept_behind
list_keeps q a r = ap (λ w. by_way w (by_windows (unclosed q r)) (record { parts = empty; lists = unclosed_by_list q r; answers = [] })
    (λ c. record { parts = unclosed q r; lists = empty; answers = last_answers q r })) a.has_lists

held_by : (q : Tree) → Asks q → (b : Bool) (xs : List Row) (m : Lists) → TakenBy b q xs m → held_lists m ≡ unclosed_by_list q (record { rows = xs; ended = b })
held_by q a true xs m t = ap held_lists t ∙ nothing_held ∙ sym (no_list_open_behind q (record { rows = xs; ended = true }) refl)
held_by q a false xs m t = held_is q a xs m t

pub keeps_rightly : (q : Tree) → Asks q → (r : Input) (m : Lists) → TakenIn q r m → kept_in m ≡ kept_behind q r
keeps_rightly q a r m t = ap (λ ls. record { parts = empty; lists = ls; answers = [] }) (held_by q a r.ended r.rows m t) ∙ sym (list_keeps q a r)
