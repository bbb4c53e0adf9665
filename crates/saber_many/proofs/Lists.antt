-- What is said of all, for the first and for the others.
use Rattle.std.proofs.Common.{◌≡◌, ℕ, ◌+◌, Bool, true, false, List, [], ◌∷◌, ◌++◌, length, drop, refl, sym, ap, subst, ◌∙◌, arith}
use Rattle.std.proofs.Math.Path.{transport}
use Rattle.std.specs.Prelude.{suc, slice_get, Option, Some, None, IfSome, option_to_list}
use Rattle.std.specs.List.{AllByRecursion, AllZip}
use Rattle.saber_core.specs.Works.{IsPieceOrMark}
use Rattle.saber_workers.specs.Labors.{GoesOn}
use Rattle.saber_many.specs.declared.member.Member.{Member}
use Rattle.saber_many.specs.Sharing.{AreRows, GoesBy, MemberAt, StopsBy, ArePieces, AreStages}
use Rattle.saber_many.specs.Labors.{flat, all_upto, each_first, CanMake, CanMakeEach, CanAbsorb, CanAbsorbEach, AbsorbsOne, AbsorbsEach, HasStopped}

not_none : {A : Type 0} (x : A) (xs : List A) → length (x ∷ xs) ≡ 0 → ⊥
not_none x xs e = omega (arith, e)

none_left : {A : Type 0} (xs ys : List A) (p : Option A) → xs ≡ option_to_list p ++ ys → ys ≡ drop 1 xs → p ≡ None → ys ≡ []
none_left xs [] p e d n = refl
none_left xs (y ∷ ys) p e d n =
    let same : xs ≡ y ∷ ys = subst (λ q. xs ≡ option_to_list q ++ y ∷ ys) n e in
    let l : length ys + 1 ≡ length ys = omega arith ∙ ap length (d ∙ ap (drop 1) same) in
    let no : ⊥ = omega (arith, l) in
    absurd no

-- ---- the first rows

module _ {T R : Type 0} (is_rows : T → ℕ → R → Type 0) (alone : T → Type 0) where
  -- there are first rows
  pub some_rows : (told : List T) (t : ℕ) (rows : List R) → None ≡ slice_get rows 0 → AreRows is_rows alone told t rows → ⊥
  some_rows told t (r ∷ rs) e h = cc
  some_rows [] t [] e h = h.0 refl
  some_rows (x ∷ xs) t [] e h = h.1

  -- what each task of the first rows is, the task of all is
  pub number_of : (n : ℕ) (r : R) → ((x : T) (t : ℕ) → is_rows x t r → n ≡ t) → (told : List T) (t : ℕ) (rows : List R) → Some r ≡ slice_get rows 0
      → AreRows is_rows alone told t rows → n ≡ t
  number_of n r is [] t rows e h = absurd (h.0 refl)
  number_of n r is (x ∷ xs) t [] e h = absurd h.1
  number_of n r is (x ∷ xs) t (q ∷ qs) e h = let same : r ≡ q = cc in is x t (subst (is_rows x t) (sym same) h.1.0.0)

-- the task itself is the first that it needs
pub own_first : {T R : Type 0} (upto : T → ℕ → T) (first : T → ℕ → ℕ) (is_rows : T → ℕ → R → Type 0) (alone : T → Type 0) → ((told : T) (t : ℕ) → alone told → first (upto told t) t ≡ t)
    → (told : List T) (t : ℕ) (rows : List R) → AreRows is_rows alone told t rows → each_first first (all_upto upto told t) t ≡ t
own_first upto first is_rows alone own [] t rows h = absurd (h.0 refl)
own_first upto first is_rows alone own (x ∷ xs) t [] h = absurd h.1
own_first upto first is_rows alone own (x ∷ xs) t (r ∷ rs) h = own x t h.1.0.1

-- ---- making

module _ {L T R : Type 0} (upto : T → ℕ → T) (is_rows : T → ℕ → R → Type 0) (alone : T → Type 0) (suits : L → T → Type 0) where
  -- where somebody is left, and rows are
  module _ {labors : List L} {rows : List R} (l : L) (ls : List L) (r : R) (rs : List R) (e : labors ≡ l ∷ ls) (f : rows ≡ r ∷ rs) where
    -- of these, what is asked of all
    rows_these : CanMakeEach upto is_rows alone suits labors rows → CanMakeEach upto is_rows alone suits (l ∷ ls) (r ∷ rs)
    rows_these = transport (λ i. CanMakeEach upto is_rows alone suits (e i) (f i))

    first_makes : CanMakeEach upto is_rows alone suits (l ∷ ls) (r ∷ rs) → CanMake upto is_rows alone suits l r
    first_makes ([], t, s, is) = absurd s
    first_makes (x ∷ xs, t, s, is) = (x, t, s.0, is.0)

    others_make : CanMakeEach upto is_rows alone suits (l ∷ ls) (r ∷ rs) → CanMakeEach upto is_rows alone suits ls rs
    others_make ([], t, s, is) = absurd s
    others_make (x ∷ xs, t, s, is) = (xs, t, s.1, is.1)

    pub first_can : CanMakeEach upto is_rows alone suits labors rows → CanMake upto is_rows alone suits l r
    first_can can = first_makes (rows_these can)

    pub others_can : CanMakeEach upto is_rows alone suits labors rows → CanMakeEach upto is_rows alone suits ls rs
    others_can can = others_make (rows_these can)

-- ---- absorbing

module _ {L T S P : Type 0} (upto : T → ℕ → T) (is_piece : T → ℕ → P → Type 0) (is_stage : T → ℕ → Bool → S → Type 0) (suits : L → T → Type 0) where
  -- the first of the pieces, or the mark
  first_piece : (x : T) (xs : List T) (k : ℕ) (p : Option (Option P)) (ps : List (Option P)) → ArePieces is_piece (x ∷ xs) k (option_to_list p ++ ps) → IsPieceOrMark is_piece x k (flat p)
  first_piece x xs k None ps h = tt
  first_piece x xs k (Some p) ps h = h.0

  -- the others: behind none there are none
  other_pieces : (x : T) (xs : List T) (k : ℕ) (p : Option (Option P)) (ps : List (Option P)) → (p ≡ None → ps ≡ []) → ArePieces is_piece (x ∷ xs) k (option_to_list p ++ ps) → ArePieces is_piece xs k ps
  other_pieces x xs k None ps none h = subst (ArePieces is_piece xs k) (sym (none refl)) tt
  other_pieces x xs k (Some p) ps none h = h.1

  -- where somebody is left, with a stage: p is the first of the pieces, if one is left, and q what is taken in
  module _ {labors : List L} {members : List (Member S)} {pieces : List (Option P)} (l : L) (ls : List L) (m : Member S) (ms : List (Member S)) (p : Option (Option P)) (ps : List (Option P))
      (e : labors ≡ l ∷ ls) (f : members ≡ m ∷ ms) (h : pieces ≡ option_to_list p ++ ps) (q : Option P) (is : q ≡ flat p) where
    these : CanAbsorbEach upto is_piece is_stage suits labors members pieces → CanAbsorbEach upto is_piece is_stage suits (l ∷ ls) (m ∷ ms) (option_to_list p ++ ps)
    these = transport (λ i. CanAbsorbEach upto is_piece is_stage suits (e i) (f i) (h i))

    first_of : CanAbsorbEach upto is_piece is_stage suits (l ∷ ls) (m ∷ ms) (option_to_list p ++ ps) → CanAbsorb upto is_piece is_stage suits l m (flat p)
    first_of ([], k, few, s, at, are) = absurd s
    first_of (x ∷ xs, k, few, s, at, are) = (x, k, few, s.0, at.0, first_piece x xs k p ps are)

    pub first_absorbs : CanAbsorbEach upto is_piece is_stage suits labors members pieces → CanAbsorb upto is_piece is_stage suits l m q
    first_absorbs can = subst (CanAbsorb upto is_piece is_stage suits l m) (sym is) (first_of (these can))

    module _ (rest : ps ≡ drop 1 pieces) where
      left : p ≡ None → ps ≡ []
      left = none_left pieces ps p h rest

      others_of : CanAbsorbEach upto is_piece is_stage suits (l ∷ ls) (m ∷ ms) (option_to_list p ++ ps) → CanAbsorbEach upto is_piece is_stage suits ls ms ps
      others_of ([], k, few, s, at, are) = absurd s
      others_of (x ∷ xs, k, few, s, at, are) = (xs, k, few, s.1, at.1, other_pieces x xs k p ps left are)

      pub others_absorb : CanAbsorbEach upto is_piece is_stage suits labors members pieces → CanAbsorbEach upto is_piece is_stage suits ls ms ps
      others_absorb can = others_of (these can)

      module _ (n : Member S) (ns : List (Member S)) (one : AbsorbsOne upto is_piece is_stage suits l m q n) (others : AbsorbsEach upto is_piece is_stage suits ls ms ps ns) where
        one_more : AbsorbsEach upto is_piece is_stage suits (l ∷ ls) (m ∷ ms) (option_to_list p ++ ps) (n ∷ ns)
        one_more [] k s at are = absurd s
        one_more (x ∷ xs) k s at are =
            (subst (λ z. AbsorbsOne upto is_piece is_stage suits l m z n) is one x k s.0 at.0 (first_piece x xs k p ps are), others xs k s.1 at.1 (other_pieces x xs k p ps left are))

        pub absorbs_more : AbsorbsEach upto is_piece is_stage suits labors members pieces (n ∷ ns)
        absorbs_more = transport (λ i. AbsorbsEach upto is_piece is_stage suits (sym e i) (sym f i) (sym h i) (n ∷ ns)) one_more

  -- where nobody is left, or no stage
  pub absorbs_none : (labors : List L) → length labors ≡ 0 → (ms : List (Member S)) (ps : List (Option P)) → CanAbsorbEach upto is_piece is_stage suits labors ms ps → AllByRecursion HasStopped ms
  absorbs_none (l ∷ ls) none ms ps h = absurd (not_none l ls none)
  absorbs_none [] none [] ps h = tt
  absorbs_none [] none (m ∷ ms) ps ([], k, few, s, at, are) = absurd at
  absorbs_none [] none (m ∷ ms) ps (x ∷ xs, k, few, s, at, are) = absurd s

  pub absorbs_nobody : (labors : List L) → length labors ≡ 0 → (ms : List (Member S)) (ps : List (Option P)) → AbsorbsEach upto is_piece is_stage suits labors ms ps ms
  absorbs_nobody (l ∷ ls) none ms ps told k s at are = absurd (not_none l ls none)
  absorbs_nobody [] none [] ps [] k s at are = tt
  absorbs_nobody [] none (m ∷ ms) ps [] k s at are = absurd at
  absorbs_nobody [] none ms ps (x ∷ xs) k s at are = absurd s

  pub absorbs_nothing : (labors : List L) (ms : List (Member S)) → length ms ≡ 0 → (ps : List (Option P)) → AbsorbsEach upto is_piece is_stage suits labors ms ps ms
  absorbs_nothing labors (m ∷ ms) none ps told k s at are = absurd (not_none m ms none)
  absorbs_nothing labors [] none ps [] k s at are = tt
  absorbs_nothing labors [] none ps (x ∷ xs) k s at are = absurd at

-- those that are where they should be, and go on no more, stopped
pub all_stop : {T S : Type 0} (upto : T → ℕ → T) (is_stage : T → ℕ → Bool → S → Type 0) (told : List T) (m : ℕ) (ms : List (Member S)) → AllByRecursion HasStopped ms
    → AllZip (MemberAt upto is_stage m) told ms → AllZip (StopsBy upto is_stage m) told ms
all_stop upto is_stage [] m [] h at = tt
all_stop upto is_stage [] m (s ∷ ss) h at = absurd at
all_stop upto is_stage (t ∷ ts) m [] h at = absurd at
all_stop upto is_stage (t ∷ ts) m (s ∷ ss) h at = ((h.0, subst (λ g. GoesBy upto is_stage g t m s.stage) h.0 at.0), all_stop upto is_stage ts m ss h.1 at.1)

-- so they are the stages of one task more, or stopped
pub go_on : {T S V : Type 0} (upto : T → ℕ → T) (is_stage : T → ℕ → Bool → S → Type 0) (members : V → List (Member S)) (told : List T) (k : ℕ) (v : V) (goes : Bool) → (goes ≡ false → AllByRecursion HasStopped (members v))
    → AllZip (MemberAt upto is_stage (k + 1)) told (members v) → GoesOn (λ ts n stopped s. AreStages upto is_stage ts n stopped (members s)) told k v goes
go_on upto is_stage members told k v true stop at = at
go_on upto is_stage members told k v false stop at = all_stop upto is_stage told (k + 1) (members v) (stop refl) at

-- the pieces, or none where there is the mark for all
pub any_pieces : {T P V : Type 0} (is_piece : T → ℕ → P → Type 0) (items : V → List (Option P)) (told : List T) (k : ℕ) (o : Option V) (ps : List (Option P)) → (o ≡ None → ps ≡ []) → IfSome o (λ p. ps ≡ items p)
    → IsPieceOrMark (λ ts t p. ArePieces is_piece ts t (items p)) told k o → ArePieces is_piece told k ps
any_pieces is_piece items told k None ps none some is = subst (ArePieces is_piece told k) (sym (none refl)) tt
any_pieces is_piece items told k (Some p) ps none some is = subst (ArePieces is_piece told k) (sym some) is

-- ---- lengths

pub zip_long : {A B : Type 0} (R : A → B → Type 0) (xs : List A) (ys : List B) → AllZip R xs ys → length xs ≡ length ys
zip_long R [] [] h = refl
zip_long R [] (y ∷ ys) h = absurd h
zip_long R (x ∷ xs) [] h = absurd h
zip_long R (x ∷ xs) (y ∷ ys) h = ap suc (zip_long R xs ys h.1)

pub upto_long : {T : Type 0} (upto : T → ℕ → T) (told : List T) (k : ℕ) → length (all_upto upto told k) ≡ length told
upto_long upto [] k = refl
upto_long upto (t ∷ ts) k = ap suc (upto_long upto ts k)
