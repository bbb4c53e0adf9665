-- Rows that a reader gives, one after another.
use Rattle.std.proofs.Common.{◌≡◌, ◌≤◌, ◌<◌, ◌^◌, ℕ, ◌+◌, List, [], ◌∷◌, ◌++◌, length, get_or, Bool, true, false, Option, Some, Result, Ok, Err, refl, sym, ◌∙◌, ap, subst, arith, append_assoc, append-nil, length-append, is_err, OnOk}
use Rattle.std.proofs.Math.Seq.{get_or-append_seam}
use Rattle.std.proofs.lemmas.Option.{get_or_from_slice_get}
use Rattle.std.specs.List.{AllByRecursion, slice_get}
use Rattle.saber_plan.specs.declared.rows.Row.{Row}
use Rattle.saber_plan.specs.declared.windows.Mark.{Mark}
use Rattle.saber_plan.specs.Rows.{Read, before, stamp}
use Rattle.saber_plan.specs.Windows.{Ordered, can_follow, step_mark, mark_after}
use Rattle.saber_plan.specs.Trees.{Tree}
use Rattle.saber_plan.specs.GivenRows.{IsRowOf}
use Rattle.saber_rows.specs.Reader as readers
use Rattle.saber_rows.specs.Calls.{Moves}
use Rattle.saber_rows.specs.Merging.{Merger, MergeMoves}
use Rattle.saber_dispatch.specs.declared.ends.End.{End}
use Rattle.saber_dispatch.specs.declared.ends.End.TheVariants.{NoMemory}
use Rattle.saber_dispatch.specs.Readings.{Reading, one, two, Suits, ReadMoves, ReadEnds, Reads, IsOpen, NextRow, NextNone}
use Rattle.saber_dispatch.specs.Filling.{prepend, Took, Filling, Fills}
use Rattle.saber_rows.proofs.MergedLaws.{mergers_stand, merges_go_on}
use Rattle.saber_rows.proofs.Chains.{moves_go_on, readers_stand}

abbrev pub Lefts : Type 0
Lefts = List (Option (List ℕ))

-- ---- moves of readers

pub record OneMoved (f : Read → Read) (a : readers.Reader) (b : Reading) (had has : Lefts) : Type 0 where
  pub new : readers.Reader
  pub left : Option (List ℕ)
  pub behind : Option (List ℕ)
  pub new_is : b ≡ one new
  pub had_is : had ≡ left ∷ []
  pub has_is : has ≡ behind ∷ []
  pub moves : Moves f a new left behind

pub record TwoMoved (f : Read → Read) (a : Merger) (b : Reading) (had has : Lefts) : Type 0 where
  pub new : Merger
  pub left : Option (List ℕ)
  pub right : Option (List ℕ)
  pub behind : Option (List ℕ)
  pub behind_right : Option (List ℕ)
  pub new_is : b ≡ two new
  pub had_is : had ≡ left ∷ right ∷ []
  pub has_is : has ≡ behind ∷ behind_right ∷ []
  pub moves : MergeMoves f a new left behind right behind_right

pub one_moved : (f : Read → Read) (a : readers.Reader) (b : Reading) (had has : Lefts) → ReadMoves f (one a) b had has → OneMoved f a b had has
one_moved f a (one b) (x ∷ []) (y ∷ []) m = record { new = b; left = x; behind = y; new_is = refl; had_is = refl; has_is = refl; moves = m }
one_moved f a b had has m = absurd m

pub two_moved : (f : Read → Read) (a : Merger) (b : Reading) (had has : Lefts) → ReadMoves f (two a) b had has → TwoMoved f a b had has
two_moved f a (two b) (x ∷ z ∷ []) (y ∷ w ∷ []) m = record { new = b; left = x; right = z; behind = y; behind_right = w; new_is = refl; had_is = refl; has_is = refl; moves = m }
two_moved f a b had has m = absurd m

head_is : (x y : Option (List ℕ)) (xs ys : Lefts) → ◌≡◌ {A = Lefts} (x ∷ xs) (y ∷ ys) → x ≡ y
head_is x y xs ys e = cc

second_is : (x y z w : Option (List ℕ)) → ◌≡◌ {A = Lefts} (x ∷ z ∷ []) (y ∷ w ∷ []) → z ≡ w
second_is x y z w e = cc

pub go_on : (f g : Read → Read) (a b c : Reading) (h1 h2 h3 : Lefts) → ReadMoves f a b h1 h2 → ReadMoves g b c h2 h3 → ReadMoves (λ rest. f (g rest)) a c h1 h3
go_on f g (one a) b c h1 h2 h3 m n =
    let k = one_moved f a b h1 h2 m in
    let l = one_moved g k.new c h2 h3 (subst (λ r. ReadMoves g r c h2 h3) k.new_is n) in
    let same : k.behind ≡ l.left = head_is k.behind l.left [] [] (sym k.has_is ∙ l.had_is) in
    subst (λ r. ReadMoves (λ rest. f (g rest)) (one a) r h1 h3) (sym l.new_is) (subst (λ x. ReadMoves (λ rest. f (g rest)) (one a) (one l.new) x h3) (sym k.had_is) (subst (λ x. ReadMoves (λ rest. f (g rest)) (one a) (one l.new) (k.left ∷ []) x) (sym l.has_is)
    (moves_go_on f g a k.new l.new k.left k.behind l.behind k.moves (subst (λ x. Moves g k.new l.new x l.behind) (sym same) l.moves))))
go_on f g (two a) b c h1 h2 h3 m n =
    let k = two_moved f a b h1 h2 m in
    let l = two_moved g k.new c h2 h3 (subst (λ r. ReadMoves g r c h2 h3) k.new_is n) in
    let same : k.behind ≡ l.left = head_is k.behind l.left _ _ (sym k.has_is ∙ l.had_is) in
    let same_right : k.behind_right ≡ l.right = second_is k.behind l.left k.behind_right l.right (sym k.has_is ∙ l.had_is) in
    subst (λ r. ReadMoves (λ rest. f (g rest)) (two a) r h1 h3) (sym l.new_is) (subst (λ x. ReadMoves (λ rest. f (g rest)) (two a) (two l.new) x h3) (sym k.had_is) (subst (λ x. ReadMoves (λ rest. f (g rest)) (two a) (two l.new) (k.left ∷ k.right ∷ []) x) (sym l.has_is)
    (merges_go_on f g a k.new l.new k.left k.behind l.behind k.right k.behind_right l.behind_right k.moves
    (subst (λ x. MergeMoves g k.new l.new x l.behind k.behind_right l.behind_right) (sym same) (subst (λ x. MergeMoves g k.new l.new l.left l.behind x l.behind_right) (sym same_right) l.moves)))))

pub stand : (r : Reading) (had : Lefts) → Suits r had → ReadMoves (λ rest. rest) r r had had
stand (one r) (x ∷ []) s = readers_stand r x
stand (two r) (x ∷ y ∷ []) s = mergers_stand r x y
stand r had s = absurd s

-- the reader that moved has as many sources
pub still_suits : (f : Read → Read) (a b : Reading) (had has : Lefts) → ReadMoves f a b had has → Suits b has
still_suits f (one a) b had has m = let k = one_moved f a b had has m in subst (λ r. Suits r has) (sym k.new_is) (subst (λ x. Suits (one k.new) x) (sym k.has_is) tt)
still_suits f (two a) b had has m = let k = two_moved f a b had has m in subst (λ r. Suits r has) (sym k.new_is) (subst (λ x. Suits (two k.new) x) (sym k.has_is) tt)

-- ---- marks stay small

pub small : (q : Tree) (m : Mark) (r : Reading) → Reads q m r → (m.left ≤ 2 ^ 40) × (m.right ≤ 2 ^ 40)
small q m (one r) h = (omega (arith, h.passed.counted, h.passed.few, h.rules.most), omega (arith, h.no_right))
small q m (two r) h = (omega (arith, h.passed.left.counted, h.passed.left.few, h.left.most), omega (arith, h.passed.right.counted, h.passed.right.few, h.right.most))

-- ---- lists with more behind

pub all_append : {A : Type 0} (P : A → Type 0) (xs ys : List A) → AllByRecursion P xs → AllByRecursion P ys → AllByRecursion P (xs ++ ys)
all_append P [] ys h k = k
all_append P (x ∷ xs) ys h k = (h.0, all_append P xs ys h.1 k)

pub ordered_append : (m : Mark) (xs ys : List Row) → Ordered m xs → Ordered (mark_after m xs) ys → Ordered m (xs ++ ys)
unfolding Ordered
ordered_append m [] ys h k = k
ordered_append m (x ∷ xs) ys h k = (h.0, ordered_append (step_mark m x) xs ys h.1 k)

pub mark_append : (m : Mark) (xs ys : List Row) → mark_after m (xs ++ ys) ≡ mark_after (mark_after m xs) ys
mark_append m [] ys = refl
mark_append m (x ∷ xs) ys = mark_append (step_mark m x) xs ys

ordered_one : (m : Mark) (x : Row) → can_follow m (stamp x.values) ≡ true → Ordered m (x ∷ [])
unfolding Ordered
ordered_one m x h = (h, tt)

ordered_none : (m : Mark) → Ordered m []
unfolding Ordered
ordered_none m = tt

prepend_push : (xs : List Row) (x : Row) → (λ rest. prepend xs (before x rest)) ≡ prepend (xs ++ x ∷ [])
prepend_push xs x = λ i rest. record { rows = sym (append_assoc xs (x ∷ []) rest.rows) i; end = rest.end }

prepend_both : (xs ys : List Row) → (λ rest. prepend xs (prepend ys rest)) ≡ prepend (xs ++ ys)
prepend_both xs ys = λ i rest. record { rows = sym (append_assoc xs ys rest.rows) i; end = rest.end }

-- ---- rows that were taken

pub took_nothing : (q : Tree) (m : Mark) (r : Reading) (had : Lefts) → Suits r had → Reads q m r → Took q m r r had had []
took_nothing q m r had s h = record { moves = stand r had s; fits = tt; ordered = ordered_none m; reads = h }

-- some and then others
pub took_on : (q : Tree) (m : Mark) (a b c : Reading) (h1 h2 h3 : Lefts) (xs ys : List Row) → Took q m a b h1 h2 xs → Took q (mark_after m xs) b c h2 h3 ys → Took q m a c h1 h3 (xs ++ ys)
took_on q m a b c h1 h2 h3 xs ys t u = record {
  moves = subst (λ f. ReadMoves f a c h1 h3) (prepend_both xs ys) (go_on (prepend xs) (prepend ys) a b c h1 h2 h3 t.moves u.moves);
  fits = all_append (IsRowOf q) xs ys t.fits u.fits;
  ordered = ordered_append m xs ys t.ordered u.ordered;
  reads = subst (λ n. Reads q n c) (sym (mark_append m xs ys)) u.reads;
}

-- and one more
took_row : (q : Tree) (m : Mark) (a b c : Reading) (h1 h2 h3 : Lefts) (xs : List Row) (x : Row) → Took q m a b h1 h2 xs → NextRow q (mark_after m xs) x b c h2 h3 → Took q m a c h1 h3 (xs ++ x ∷ [])
took_row q m a b c h1 h2 h3 xs x t n = record {
  moves = subst (λ f. ReadMoves f a c h1 h3) (prepend_push xs x) (go_on (prepend xs) (before x) a b c h1 h2 h3 t.moves n.moves);
  fits = all_append (IsRowOf q) xs (x ∷ []) t.fits (n.fits, tt);
  ordered = ordered_append m xs (x ∷ []) t.ordered (ordered_one (mark_after m xs) x n.ordered);
  reads = subst (λ k. Reads q k c) (sym (mark_append m xs (x ∷ []))) n.reads;
}

took_none : (q : Tree) (m : Mark) (a b c : Reading) (h1 h2 h3 : Lefts) (xs : List Row) (e : End) → Took q m a b h1 h2 xs → NextNone q (mark_after m xs) e b c h2 h3 → Took q m a c h1 h3 xs
took_none q m a b c h1 h2 h3 xs e t n = record { moves = go_on (prepend xs) (λ rest. rest) a b c h1 h2 h3 t.moves n.moves; fits = t.fits; ordered = t.ordered; reads = n.reads }

-- ---- a block's rows

pub filling_nothing : (q : Tree) (m : Mark) (r : Reading) (had : Lefts) (kept : List Row) → Suits r had → Reads q m r → Filling 0 q m m r r had had kept kept
filling_nothing q m r had kept s h = record { rows = []; took = took_nothing q m r had s h; mark = refl; kept = sym (append-nil kept); count = refl }

pub filling_reads : (n : ℕ) (q : Tree) (m mark : Mark) (old mid : Reading) (had there : Lefts) (start kept : List Row) → Filling n q m mark old mid had there start kept → Reads q mark mid
filling_reads n q m mark old mid had there start kept f = subst (λ k. Reads q k mid) (sym f.mark) f.took.reads

-- some rows, and then others
pub filling_on : (n k : ℕ) (q : Tree) (m mark after : Mark) (old mid new : Reading) (had there has : Lefts) (start kept more : List Row)
    → Filling n q m mark old mid had there start kept → Filling k q mark after mid new there has kept more → Filling (n + k) q m after old new had has start more
filling_on n k q m mark after old mid new had there has start kept more f g = record {
  rows = f.rows ++ g.rows;
  took = took_on q m old mid new had there has f.rows g.rows f.took (subst (λ x. Took q x mid new there has g.rows) f.mark g.took);
  mark = g.mark ∙ ap (λ x. mark_after x g.rows) f.mark ∙ sym (mark_append m f.rows g.rows);
  kept = g.kept ∙ ap (λ xs. xs ++ g.rows) f.kept ∙ append_assoc start f.rows g.rows;
  count = omega (arith, length-append f.rows g.rows, f.count, g.count);
}

module _ (n : ℕ) (q : Tree) (m mark : Mark) (old mid new : Reading) (had there has : Lefts) (start kept : List Row) (f : Filling n q m mark old mid had there start kept) where
  pub filling_more : (after : Mark) (more : List Row) (x : Row) → NextRow q mark x mid new there has → after ≡ step_mark mark x → more ≡ kept ++ x ∷ [] → Filling (n + 1) q m after old new had has start more
  filling_more after more x next e k = record {
    rows = f.rows ++ x ∷ [];
    took = took_row q m old mid new had there has f.rows x f.took (subst (λ k. NextRow q k x mid new there has) f.mark next);
    mark = e ∙ ap (λ j. step_mark j x) f.mark ∙ sym (mark_append m f.rows (x ∷ []));
    kept = k ∙ ap (λ l. l ++ x ∷ []) f.kept ∙ append_assoc start f.rows (x ∷ []);
    count = length-append f.rows (x ∷ []) ∙ ap (λ j. j + 1) f.count;
  }

  no_ok : (e : End) (u : Unit {0}) → ◌≡◌ {A = Result (Unit {0}) End} (Err e) (Ok u) → ⊥
  no_ok e u h = cc

  same_end : (a b : End) → ◌≡◌ {A = Result (Unit {0}) End} (Err a) (Err b) → a ≡ b
  same_end a b h = cc

  pub filled_none : (size : ℕ) (e : End) → n < size → NextNone q mark e mid new there has → Fills (Err e) q size m mark old new had has start kept
  filled_none size e less next = record {
    rows = f.rows;
    took = took_none q m old mid new had there has f.rows e f.took (subst (λ k. NextNone q k e mid new there has) f.mark next);
    mark = f.mark;
    kept = λ _. f.kept;
    few = omega (arith, f.count, less);
    full = λ u h. absurd (no_ok e u h);
    short = λ i h k. omega (arith, f.count, less);
    ends = λ i h. subst (λ j. ReadEnds j new) (same_end e i h) next.ends;
  }

  -- there was no memory for a row
  pub filled_lack : (size : ℕ) (after : Mark) (more : List Row) (x : Row) → n < size → NextRow q mark x mid new there has → after ≡ step_mark mark x → Fills (Err NoMemory) q size m after old new had has start more
  filled_lack size after more x less next e = record {
    rows = f.rows ++ x ∷ [];
    took = took_row q m old mid new had there has f.rows x f.took (subst (λ k. NextRow q k x mid new there has) f.mark next);
    mark = e ∙ ap (λ j. step_mark j x) f.mark ∙ sym (mark_append m f.rows (x ∷ []));
    kept = λ k. cc;
    few = omega (arith, f.count, less, length-append f.rows (x ∷ []));
    full = λ u h. absurd (no_ok NoMemory u h);
    short = λ i h k. absurd (k (sym (same_end NoMemory i h)));
    ends = λ i h. subst (λ j. ReadEnds j new) (same_end NoMemory i h) tt;
  }

-- some rows, and then one more or none
module _ (n : ℕ) (q : Tree) (m mark after : Mark) (old mid new : Reading) (had there has : Lefts) (start kept more : List Row) (f : Filling n q m mark old mid had there start kept) where
  pub filling_next : (u : Unit {0}) → Fills (Ok u) q 1 mark after mid new there has kept more → Filling (n + 1) q m after old new had has start more
  filling_next u g = filling_on n 1 q m mark after old mid new had there has start kept more f (record { rows = g.rows; took = g.took; mark = g.mark; kept = g.kept refl; count = (g.full u refl).0 })

  pub filled_next : (size : ℕ) (e : End) → n < size → Fills (Err e) q 1 mark after mid new there has kept more → Fills (Err e) q size m after old new had has start more
  filled_next size e less g = record {
    rows = f.rows ++ g.rows;
    took = took_on q m old mid new had there has f.rows g.rows f.took (subst (λ x. Took q x mid new there has g.rows) f.mark g.took);
    mark = g.mark ∙ ap (λ x. mark_after x g.rows) f.mark ∙ sym (mark_append m f.rows g.rows);
    kept = λ k. g.kept k ∙ ap (λ xs. xs ++ g.rows) f.kept ∙ append_assoc start f.rows g.rows;
    few = omega (arith, length-append f.rows g.rows, f.count, g.few, less);
    full = λ u h. absurd (err_not_ok e u h);
    short = λ i h k. omega (arith, length-append f.rows g.rows, f.count, g.short i h k, less);
    ends = g.ends;
  } where
    err_not_ok : (e : End) (u : Unit {0}) → ◌≡◌ {A = Result (Unit {0}) End} (Err e) (Ok u) → ⊥
    err_not_ok e u h = cc

pub filled_all : (size : ℕ) (u : Unit {0}) (q : Tree) (m mark : Mark) (old mid : Reading) (had there : Lefts) (start kept : List Row) → Filling size q m mark old mid had there start kept → IsOpen mid → Fills (Ok u) q size m mark old mid had there start kept
filled_all size u q m mark old mid had there start kept f o = record {
  rows = f.rows;
  took = f.took;
  mark = f.mark;
  kept = λ _. f.kept;
  few = omega (arith, f.count);
  full = λ v h. (f.count, o);
  short = λ e h k. absurd (no_err e h);
  ends = λ e h. absurd (no_err e h);
} where
  no_err : (e : End) → ◌≡◌ {A = Result (Unit {0}) End} (Ok u) (Err e) → ⊥
  no_err e h = cc

-- where neither the reader nor the rows changed
pub filling_still : (n : ℕ) (q : Tree) (m mark : Mark) (old mid now : Reading) (had there : Lefts) (start kept still : List Row) → now ≡ mid → still ≡ kept
    → Filling n q m mark old mid had there start kept → Filling n q m mark old now had there start still
filling_still n q m mark old mid now had there start kept still r k f =
    subst (λ x. Filling n q m mark old x had there start still) (sym r) (subst (λ x. Filling n q m mark old mid had there start x) (sym k) f)

-- the last row is the one that was put there
pub last_is : (had now : List Row) (row last : Row) (i : ℕ) → now ≡ had ++ row ∷ [] → i + 1 ≡ length now → Some last ≡ slice_get now i → last ≡ row
last_is had now row last i e n h =
    let at : i ≡ length had = omega (arith, n, ap length e, length-append had (row ∷ [])) in
    sym (get_or_from_slice_get now i last row (sym h)) ∙ ap (λ xs. get_or xs i row) e ∙ ap (λ j. get_or (had ++ row ∷ []) j row) at ∙ get_or-append_seam had row [] row

-- an answer with an equal row
pub row_again : (a : Result Row End) (x y : Row) → a ≡ Ok x → y ≡ x → a ≡ Ok y
row_again a x y e h = e ∙ ap (λ r. Ok r) (sym h)

-- what holds where a result is no error
pub pushed_ok : {X E : Type 0} (r : Result X E) (b : Bool) (P : Type 0) → b ≡ false → b ≡ is_err r → OnOk r P → P
pushed_ok (Ok x) b P f e h = h
pushed_ok (Err x) b P f e h = cc

-- an end is the same of a row and of a block
pub as_row : (a b : End) → ◌≡◌ {A = Result (Unit {0}) End} (Err a) (Err b) → ◌≡◌ {A = Result Row End} (Err a) (Err b)
as_row a b e = let same : a ≡ b = cc in ap (λ x. Err x) same

pub as_fill : (a b : End) → ◌≡◌ {A = Result Row End} (Err a) (Err b) → ◌≡◌ {A = Result (Unit {0}) End} (Err a) (Err b)
as_fill a b e = let same : a ≡ b = cc in ap (λ x. Err x) same

-- a block that is filled is no end
pub not_filled : (u : Unit {0}) (end : End) → ◌≡◌ {A = Result (Unit {0}) End} (Ok u) (Err end) → ⊥
not_filled u end e = cc

-- a row is no end
pub not_both : (row : Row) (end : End) → ◌≡◌ {A = Result Row End} (Ok row) (Err end) → ⊥
not_both row end e = cc
