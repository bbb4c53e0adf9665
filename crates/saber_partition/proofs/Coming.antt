-- Rows that come, one after another, and the end of the input.
use Rattle.std.proofs.Common.{◌≡◌, ℕ, ◌+◌, ◌-◌, ◌^◌, ◌≤◌, max, List, [], ◌∷◌, ◌++◌, flat_map, length, Bool, true, false, cond, Option, Some, None, ℤ, refl, sym, ◌∙◌, ap, subst, append-nil, append_assoc, length-append, arith}
use Rattle.std.specs.List.{AllByRecursion}
use Rattle.std.specs.Cmp.{tied_itself}
use Rattle.std.specs.Ordering.{is_eq}
use Rattle.std.specs.FinMap.{get, insert, empty, entries}
use Rattle.saber_plan.specs.declared.rows.Side.TheVariants.{Left}
use Rattle.saber_plan.specs.declared.rows.Row.{Row}
use Rattle.saber_plan.specs.Trees.{Tree}
use Rattle.saber_plan.specs.GivenRows.{IsRowOf, RowsFit}
use Rattle.saber_plan.specs.Windows.{no_rows, closed_count, begun_count, count_to, from}
use Rattle.saber_plan.specs.Answers.{frame, list_of, substream, past_in, begun_in, closed_by, closed_in_turn, closed_at_last}
use Rattle.saber_plan.specs.Parts.{part_lines}
use Rattle.saber_plan.specs.Facts.Parts.{total}
use Rattle.saber_plan.specs.Facts.Lists.{all_weaker}
use Rattle.saber_plan.specs.Facts.Rows.{is_left, few_rows, fits_front}
use Rattle.saber_laws.specs.Inputs.{AllOn}
use Rattle.saber_laws.specs.Lists.{IsCounted}
use Rattle.saber_sliding.specs.Entries.{Entries}
use Rattle.saber_partition.specs.Streams.{Asks, Keeps, Comes, Came, Printed, part_of, lines_between}
use Rattle.saber_partition.specs.Lists.{Own, Lists, KeptAt, TakenAll, last_lines}
use Rattle.saber_partition.specs.Pieces.{Made, mark_with, IsMade, ArePieces, RowComes, RowCame, RowsCome, RowsCame, EndCame}
use Rattle.saber_partition.proofs.Counting.{frame_is}
use Rattle.saber_partition.proofs.Streaming.{lines_are}
use Rattle.saber_partition.proofs.Listing.{substream_next, keeps_nothing, taken_more, IsKept, all_kept, last_is}
use Rattle.saber_laws.proofs.ListLaws.{streams_are_counted, substreams_fit, turns_go_on}

-- ---- one row

own_next : (q : Tree) (xs : List Row) (r : Row) → substream q (list_of q r) (xs ++ r ∷ []) ≡ substream q (list_of q r) xs ++ r ∷ []
own_next q xs r =
    substream_next q (list_of q r) xs r
    ∙ ap (λ b. cond b (substream q (list_of q r) xs ++ r ∷ []) (substream q (list_of q r) xs)) (ap is_eq (tied_itself total (list_of q r)))

all_left : (q : Tree) → Asks q → (us : List Row) → RowsFit q no_rows us → AllOn Left us
all_left q a us fits = all_weaker (IsRowOf q) (λ r. r.side ≡ Left) (λ r h. is_left q a.window.stream a.window.streams r h) us fits.rows

closed_with : (q : Tree) (a : Asks q) (n : ℕ) → closed_count (frame q) (mark_with n) ≡ count_to a.window.window.slide a.window.window.size n
closed_with q a n = subst (λ f. closed_count f (mark_with n) ≡ count_to a.window.window.slide a.window.window.size n) (sym (frame_is q a)) refl

begun_with : (q : Tree) (a : Asks q) (n : ℕ) → begun_count (frame q) (mark_with n) ≡ count_to a.window.window.slide 1 n
begun_with q a n = subst (λ f. begun_count f (mark_with n) ≡ count_to a.window.window.slide 1 n) (sym (frame_is q a)) refl

module _ (q : Tree) (xs : List Row) (r : Row) (p : Made) (m : Lists) (c : RowComes q xs r p m) where
  abbrev pub us : List Row
  us = substream q (list_of q r) xs

  fits : RowsFit q no_rows (us ++ r ∷ [])
  fits = subst (RowsFit q no_rows) (own_next q xs r) (substreams_fit q (list_of q r) (xs ++ r ∷ []) c.fits)

  counted : IsCounted q c.asks.window.window.slide c.asks.window.window.size (us ++ r ∷ [])
  counted = streams_are_counted q c.asks.window.window.slide c.asks.window.window.size (frame_is q c.asks) (us ++ r ∷ []) (all_left q c.asks (us ++ r ∷ []) fits)

  longer : p.place + 1 ≡ length (us ++ r ∷ [])
  longer = let long = length-append us (r ∷ []) in let place = c.made.place_is in omega (arith, long, place)

  pub place_small : p.place ≤ 2 ^ 40
  place_small = let few = few_rows q c.asks.window.stream c.asks.window.streams no_rows (us ++ r ∷ []) fits in let long = longer in omega (arith, few, long)

  pub row_comes : (low past : ℕ) → low ≡ closed_count (frame q) (mark_with (p.place + 1)) → past ≡ begun_count (frame q) (mark_with (p.place + 1)) → Comes q us r low past p.part
  row_comes low past l b = record {
    asks = c.asks;
    fits = fits;
    low_is = l ∙ closed_with q c.asks (p.place + 1) ∙ ap (count_to c.asks.window.window.slide c.asks.window.window.size) longer ∙ sym counted.past;
    past_is = b ∙ begun_with q c.asks (p.place + 1) ∙ ap (count_to c.asks.window.window.slide 1) longer ∙ sym counted.begun;
    part_is = c.made.part_is;
  }

  kept_here : (o : Option Own) → get m p.list ≡ o → KeptAt q us o
  kept_here o e = subst (KeptAt q us) (ap (get m) (sym c.made.list_is) ∙ e) (c.taken (list_of q r))

  pub keeps_found : (o : Own) → get m p.list ≡ Some o → Keeps q us o.next o.begun o.entries
  keeps_found o e = (kept_here (Some o) e).1

  pub keeps_first : (next begun : ℕ) (es : Entries) → next ≡ 0 → begun ≡ 0 → es ≡ [] → get m p.list ≡ None → Keeps q us next begun es
  keeps_first next begun es n b e g =
      subst (λ (o : Own). Keeps q us o.next o.begun o.entries) (λ j. record { next = sym n j; begun = sym b j; entries = sym e j })
      (subst (λ l. Keeps q l 0 0 []) (sym (kept_here None g)) (keeps_nothing q c.asks))

  pub row_came : (o : Own) (n : Lists) (before after : List ℕ) → n ≡ insert m p.list o → Came q us r o.next o.begun o.entries before after → RowCame q xs r n before after
  row_came o n before after e came = record {
    taken = subst (TakenAll q (xs ++ r ∷ [])) (sym (e ∙ ap (λ k. insert m k o) c.made.list_is)) (taken_more q xs r m o c.taken came.keeps);
    text = came.text;
  }

-- ---- one row after another

-- some of the rows are taken in, and these are the pieces of the others
pub record Along (q : Tree) (xs rs : List Row) (left : List Made) (m : Lists) (before after : List ℕ) : Type 0 where
  pub front : List Row
  pub back : List Row
  pub split : rs ≡ front ++ back
  pub made : ArePieces q (xs ++ front) back left
  pub taken : TakenAll q (xs ++ front) m
  pub text : after ≡ before ++ closed_in_turn q xs front

pub along_nil : (q : Tree) (xs rs : List Row) (ps left : List Made) (m : Lists) (before : List ℕ) → left ≡ ps → RowsCome q xs rs ps m → Along q xs rs left m before before
unfolding closed_in_turn
along_nil q xs rs ps left m before e c = record {
  front = [];
  back = rs;
  split = refl;
  made = subst (λ l. ArePieces q l rs left) (sym (append-nil xs)) (subst (ArePieces q xs rs) (sym e) c.made);
  taken = subst (λ l. TakenAll q l m) (sym (append-nil xs)) c.taken;
  text = sym (append-nil before);
}

record Next (q : Tree) (ys back : List Row) (p : Made) (ps : List Made) : Type 0 where
  pub row : Row
  pub rest : List Row
  pub back_is : back ≡ row ∷ rest
  pub made : IsMade q row (length (substream q (list_of q row) ys)) p
  pub more : ArePieces q (ys ++ row ∷ []) rest ps

next_of : (q : Tree) (ys back : List Row) (p : Made) (ps : List Made) → ArePieces q ys back (p ∷ ps) → Next q ys back p ps
unfolding ArePieces
next_of q ys [] p ps h = absurd h
next_of q ys (r ∷ rest) p ps h = record { row = r; rest = rest; back_is = refl; made = h.0; more = h.1 }

none_back : (q : Tree) (ys back : List Row) → ArePieces q ys back [] → back ≡ []
unfolding ArePieces
none_back q ys [] h = refl
none_back q ys (r ∷ rest) h = absurd h

one_turn : (q : Tree) (ys : List Row) (r : Row) → closed_in_turn q ys (r ∷ []) ≡ closed_by q (substream q (list_of q r) ys) r
unfolding closed_in_turn
one_turn q ys r = append-nil (closed_by q (substream q (list_of q r) ys) r)

module _ (q : Tree) (xs rs : List Row) (ps : List Made) (start : Lists) (c : RowsCome q xs rs ps start)
    (p : Made) (left : List Made) (m : Lists) (before out : List ℕ) (a : Along q xs rs (p ∷ left) m before out) where
  next : Next q (xs ++ a.front) a.back p left
  next = next_of q (xs ++ a.front) a.back p left a.made

  abbrev pub behind : List Row
  behind = xs ++ a.front

  pub next_row : Row
  next_row = next.row

  all_rows : xs ++ rs ≡ ((xs ++ a.front) ++ next.row ∷ []) ++ next.rest
  all_rows =
      ap (λ l. xs ++ l) (a.split ∙ ap (λ l. a.front ++ l) next.back_is)
      ∙ sym (append_assoc xs a.front (next.row ∷ next.rest))
      ∙ sym (append_assoc (xs ++ a.front) (next.row ∷ []) next.rest)

  pub along_can : RowComes q behind next_row p m
  unfolding next next_row
  along_can = record {
    asks = c.asks;
    fits = fits_front q no_rows ((xs ++ a.front) ++ next.row ∷ []) next.rest (subst (RowsFit q no_rows) all_rows c.fits);
    made = next.made;
    taken = a.taken;
  }

  pub along_more : (n : Lists) (new : List ℕ) → RowCame q behind next_row n out new → Along q xs rs left n before new
  unfolding next next_row
  along_more n new came = record {
    front = a.front ++ next.row ∷ [];
    back = next.rest;
    split = a.split ∙ ap (λ l. a.front ++ l) next.back_is ∙ sym (append_assoc a.front (next.row ∷ []) next.rest);
    made = subst (λ l. ArePieces q l next.rest left) (append_assoc xs a.front (next.row ∷ [])) next.more;
    taken = subst (λ l. TakenAll q l n) (append_assoc xs a.front (next.row ∷ [])) came.taken;
    text =
        let own = closed_by q (substream q (list_of q next.row) (xs ++ a.front)) next.row in
        came.text ∙ ap (λ o. o ++ own) a.text ∙ append_assoc before (closed_in_turn q xs a.front) own
        ∙ ap (λ l. before ++ l) (ap (λ l. closed_in_turn q xs a.front ++ l) (sym (one_turn q (xs ++ a.front) next.row)) ∙ sym (turns_go_on q xs a.front (next.row ∷ [])));
  }

pub along_done : (q : Tree) (xs rs : List Row) (m : Lists) (before out : List ℕ) → Along q xs rs [] m before out → RowsCame q xs rs m before out
along_done q xs rs m before out a =
    let all : a.front ≡ rs = sym (a.split ∙ ap (λ l. a.front ++ l) (none_back q (xs ++ a.front) a.back a.made) ∙ append-nil a.front) in
    record {
      taken = subst (λ l. TakenAll q (xs ++ l) m) all a.taken;
      text = subst (λ l. out ≡ before ++ closed_in_turn q xs l) all a.text;
    }

-- ---- the end

abbrev pub rest_lines : Tree → List Row → List (List ℤ × Own) → List ℕ
rest_lines q xs es = flat_map (λ e. last_lines q (substream q e.0 xs)) es

-- the lines of some key lists are printed, and these are left
pub record Left_to_print (q : Tree) (xs : List Row) (left : List (List ℤ × Own)) (before after : List ℕ) : Type 0 where
  pub kept : AllByRecursion (IsKept q xs) left
  pub text : after ++ rest_lines q xs left ≡ before ++ closed_at_last q xs

pub left_all : (q : Tree) → Asks q → (xs : List Row) (m : Lists) (left : List (List ℤ × Own)) (before : List ℕ) → left ≡ entries m → TakenAll q xs m → Left_to_print q xs left before before
left_all q a xs m left before e t = record {
  kept = subst (AllByRecursion (IsKept q xs)) (sym e) (all_kept q a xs m t);
  text = ap (λ l. before ++ l) (ap (rest_lines q xs) e ∙ last_is q xs m t);
}

same_span : (n k : ℕ) → max n k - n ≡ k - n
same_span n k = omega arith

pub left_less : (q : Tree) → Asks q → (xs : List Row) (k : List ℤ) (o : Own) (left : List (List ℤ × Own)) (done : ℕ) (before out new : List ℕ)
    → done ≡ max o.next o.begun → Printed q o.next o.entries done out new → Left_to_print q xs ((k, o) ∷ left) before out → Left_to_print q xs left before new
left_less q a xs k o left done before out new most printed h =
    let us = substream q k xs in
    let keeps = h.kept.0 in
    let lines : new ≡ out ++ last_lines q us =
    printed us keeps.holds
    ∙ ap (λ l. out ++ l) (ap (lines_between q us o.next) most
    ∙ ap (λ d. flat_map (λ i. part_lines q i (part_of q i us)) (from o.next d)) (same_span o.next o.begun)
    ∙ (λ j. lines_between q us (keeps.next_is j) (keeps.begun_is j))
    ∙ sym (lines_are q a.group us (past_in q us) (begun_in q us))) in
    record {
      kept = h.kept.1;
      text = ap (λ l. l ++ rest_lines q xs left) lines ∙ append_assoc out (last_lines q us) (rest_lines q xs left) ∙ h.text;
    }

pub left_none : (q : Tree) (xs : List Row) (before out : List ℕ) → Left_to_print q xs [] before out → out ≡ before ++ closed_at_last q xs
left_none q xs before out h = sym (append-nil out) ∙ h.text

-- ---- whether the input ends here

pub end_open : (q : Tree) (xs : List Row) (b : Bool) (m : Lists) (before : List ℕ) → b ≡ false → TakenAll q xs m → EndCame q xs b m before before
end_open q xs true m before e t = cc
end_open q xs false m before e t = record { taken = t; text = sym (append-nil before) }

pub end_closed : (q : Tree) (xs : List Row) (b : Bool) (m : Lists) (before after : List ℕ) → b ≡ true → m ≡ empty → after ≡ before ++ closed_at_last q xs → EndCame q xs b m before after
end_closed q xs true m before after e n t = record { taken = n; text = t }
end_closed q xs false m before after e n t = cc
