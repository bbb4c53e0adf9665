-- The lines of texts, and the fields of lines.
use Rattle.std.proofs.Common.{◌≡◌, ◌==◌, ◌&&◌, ℕ, Bool, true, false, not, cond, List, [], ◌∷◌, ◌++◌, length, refl, sym, ◌∙◌, ap, append_assoc, append-nil, inl, inr, arith}
use Rattle.std.specs.List.{list_all}
use Rattle.std.proofs.lemmas.List.{length_push, same_from_push}
use Rattle.saber_plan.specs.Rows.{Line, onto_line, lines_of, onto_field, fields_of}
use Rattle.saber_demo.specs.Feeds.{HasNoFeed, IsFed, IsBehindFeeds}
use Rattle.saber_demo.specs.Summary.{last_content}

pub both_true : (a b : Bool) → a && b ≡ true → (a ≡ true) × (b ≡ true)
both_true true b e = (refl, e)
both_true false b e = cc

-- where a test fails
pub other : {X : Type 0} (c : Bool) (x y : X) → not c ≡ true → cond c x y ≡ y
other true x y e = cc
other false x y e = refl

pub all_weaker : (p q : ℕ → Bool) → ((b : ℕ) → p b ≡ true → q b ≡ true) → (xs : List ℕ) → list_all p xs ≡ true → list_all q xs ≡ true
all_weaker p q weaker [] all = refl
all_weaker p q weaker (x ∷ xs) all =
    let b = both_true (p x) (list_all p xs) all in
    rw (weaker x b.0) (all_weaker p q weaker xs b.1)

-- ---- lines

pub fed_line : (content rest : List ℕ) → HasNoFeed content → lines_of (content ++ 10 ∷ rest) ≡ record { content = content; whole = true } ∷ lines_of rest
unfolding lines_of
fed_line [] rest plain = refl
fed_line (b ∷ bs) rest plain =
    let p = both_true (not (b == 10)) (list_all (λ b. not (b == 10)) bs) plain in
    other (b == 10) (record { content = []; whole = true } ∷ lines_of (bs ++ 10 ∷ rest)) (onto_line b (lines_of (bs ++ 10 ∷ rest))) p.0 ∙ ap (onto_line b) (fed_line bs rest p.1)

pub unfed_line : (b : ℕ) (bs : List ℕ) → HasNoFeed (b ∷ bs) → lines_of (b ∷ bs) ≡ record { content = b ∷ bs; whole = false } ∷ []
unfolding lines_of
unfed_line b [] plain =
    let p = both_true (not (b == 10)) true plain in
    other (b == 10) (record { content = []; whole = true } ∷ []) (record { content = b ∷ []; whole = false } ∷ []) p.0
unfed_line b (c ∷ cs) plain =
    let p = both_true (not (b == 10)) (list_all (λ b. not (b == 10)) (c ∷ cs)) plain in
    other (b == 10) (record { content = []; whole = true } ∷ lines_of (c ∷ cs)) (onto_line b (lines_of (c ∷ cs))) p.0 ∙ ap (onto_line b) (unfed_line c cs p.1)

-- some lines, and the same with more behind them
record Goes (ls ms more : List Line) : Type 0 where
  first : Line
  others : List Line
  alone : ls ≡ first ∷ others
  on : ms ≡ first ∷ (others ++ more)

feed_goes : (bs rest : List ℕ) → Goes (lines_of (bs ++ 10 ∷ [])) (lines_of (bs ++ 10 ∷ rest)) (lines_of rest)
unfolding lines_of
feed_goes [] rest = record { first = record { content = []; whole = true }; others = []; alone = refl; on = refl }
feed_goes (b ∷ bs) rest =
    let h = feed_goes bs rest in
    elim (b == 10) as (λ c. Goes (cond c (record { content = []; whole = true } ∷ lines_of (bs ++ 10 ∷ [])) (onto_line b (lines_of (bs ++ 10 ∷ [])))) (cond c (record { content = []; whole = true } ∷ lines_of (bs ++ 10 ∷ rest)) (onto_line b (lines_of (bs ++ 10 ∷ rest)))) (lines_of rest)) [
      | true ↦ record { first = record { content = []; whole = true }; others = h.first ∷ h.others; alone = ap (λ ls. record { content = []; whole = true } ∷ ls) h.alone; on = ap (λ ls. record { content = []; whole = true } ∷ ls) h.on }
      | false ↦ record { first = record { content = b ∷ h.first.content; whole = h.first.whole }; others = h.others; alone = ap (onto_line b) h.alone; on = ap (onto_line b) h.on }
    ]

-- behind a line feed the lines are others
lines_apart : (before rest : List ℕ) → IsFed before → lines_of (before ++ rest) ≡ lines_of before ++ lines_of rest
unfolding lines_of
lines_apart before rest (inl none) = rw none refl
lines_apart before rest (inr fed) =
    let h = feed_goes fed.0 rest in
    rw (fed.1, append_assoc) (h.on ∙ ap (λ ls. ls ++ lines_of rest) (sym h.alone))

last_of : (ls : List Line) (l : Line) → last_content (ls ++ l ∷ []) ≡ l.content
last_of [] l = refl
last_of (m ∷ []) l = refl
last_of (m ∷ n ∷ ls) l = last_of (n ∷ ls) l

-- the last line of a text that ends so
pub last_fed : (text whole tail : List ℕ) → text ≡ whole ++ 10 ∷ [] → IsBehindFeeds whole tail → tail ≡ last_content (lines_of text)
unfolding lines_of
last_fed text whole tail is behind =
    let all : text ≡ behind.before ++ (tail ++ 10 ∷ []) = is ∙ ap (λ l. l ++ 10 ∷ []) behind.all ∙ append_assoc behind.before tail (10 ∷ []) in
    sym (ap (λ t. last_content (lines_of t)) all
    ∙ ap last_content (lines_apart behind.before (tail ++ 10 ∷ []) behind.fed ∙ ap (λ ls. lines_of behind.before ++ ls) (fed_line tail [] behind.plain))
    ∙ last_of (lines_of behind.before) (record { content = tail; whole = true }))

-- and of one that doesn't
pub last_unfed : (text rest tail : List ℕ) (b : ℕ) → text ≡ rest ++ b ∷ [] → (b ≡ 10 → ⊥) → IsBehindFeeds text tail → tail ≡ last_content (lines_of text)
last_unfed text rest [] b is else behind = absurd (go behind.fed)
  where
    whole : behind.before ≡ rest ++ b ∷ []
    whole = sym (append-nil behind.before) ∙ sym behind.all ∙ is

    go : IsFed behind.before → ⊥
    go (inl none) = let size : length (rest ++ b ∷ []) ≡ 0 = ap length (sym whole ∙ none) in omega (arith, length_push rest b)
    go (inr fed) = else (same_from_push rest fed.0 b 10 (sym whole ∙ fed.1)).1
last_unfed text rest (t ∷ ts) b is else behind =
    sym (ap (λ t. last_content (lines_of t)) behind.all
    ∙ ap last_content (lines_apart behind.before (t ∷ ts) behind.fed ∙ ap (λ ls. lines_of behind.before ++ ls) (unfed_line t ts behind.plain))
    ∙ last_of (lines_of behind.before) (record { content = t ∷ ts; whole = false }))

-- ---- fields

abbrev pub HasNoComma : List ℕ → Type 0
HasNoComma f = list_all (λ b. not (b == 44)) f ≡ true

pub field_before : (f rest : List ℕ) → HasNoComma f → fields_of (f ++ 44 ∷ rest) ≡ f ∷ fields_of rest
unfolding fields_of
field_before [] rest plain = refl
field_before (b ∷ bs) rest plain =
    let p = both_true (not (b == 44)) (list_all (λ b. not (b == 44)) bs) plain in
    other (b == 44) ([] ∷ fields_of (bs ++ 44 ∷ rest)) (onto_field b (fields_of (bs ++ 44 ∷ rest))) p.0 ∙ ap (onto_field b) (field_before bs rest p.1)

pub last_field : (f : List ℕ) → HasNoComma f → fields_of f ≡ f ∷ []
unfolding fields_of
last_field [] plain = refl
last_field (b ∷ bs) plain =
    let p = both_true (not (b == 44)) (list_all (λ b. not (b == 44)) bs) plain in
    other (b == 44) ([] ∷ fields_of bs) (onto_field b (fields_of bs)) p.0 ∙ ap (onto_field b) (last_field bs p.1)
