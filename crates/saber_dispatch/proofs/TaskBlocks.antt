-- Blocks over inputs that tell their bytes.
use Rattle.std.proofs.Common.{◌≡◌, ◌≤◌, ◌<◌, ℕ, ◌+◌, ◌*◌, ◌==◌, min, length, List, [], ◌∷◌, ◌++◌, map, Bool, true, false, ◌&&◌, not, cond, Option, Some, None, option_map, ◌⊎◌, inl, inr, ⊎_elim, refl, sym, ◌∙◌, ap, subst, arith, append_assoc, append-nil, length-append}
use Rattle.std.proofs.lemmas.List.{take_all}
use Rattle.std.proofs.lemmas.Bool.Decides.{nat_tests}
use Rattle.std.proofs.lemmas.Bool.{cases_lt}
use Rattle.std.proofs.lemmas.Grind.{div_ceil_times}
use Rattle.saber_plan.specs.Sizes.{FileLimits, limits_of}
use Rattle.saber_plan.specs.declared.rows.Row.{Row}
use Rattle.saber_plan.specs.declared.windows.Stream.{Stream}
use Rattle.saber_plan.specs.declared.sizes.Sizes.{Sizes}
use Rattle.saber_plan.specs.Rows as rows
use Rattle.saber_plan.specs.Rows.{Read, all_read, bad}
use Rattle.saber_plan.specs.Windows.{has_windows}
use Rattle.saber_plan.specs.Answers.{frame}
use Rattle.saber_plan.specs.Inputs.{Input, going_on}
use Rattle.saber_plan.specs.Trees.{Tree}
use Rattle.saber_plan.specs.Tasks.{upto, row_tasks, task_count, run_input, is_all_read}
use Rattle.saber_plan.specs.Needs.{need, wide}
use Rattle.saber_rows.specs.Reader as readers
use Rattle.saber_rows.specs.Reader.{CanFollow, to_come, rest_over, nothing}
use Rattle.saber_rows.specs.Merging.{merger_over}
use Rattle.saber_dispatch.specs.declared.ends.End.{End}
use Rattle.saber_dispatch.specs.declared.ends.End.TheVariants.{AllRead, Bad, ReadFault, TooWide, NoMemory}
use Rattle.saber_dispatch.specs.declared.cutter.Cutter.{Cutter}
use Rattle.saber_dispatch.specs.Readings.{Reading, one, two, reading_of, Suits, ReadMoves, ReadHasEnd}
use Rattle.saber_dispatch.specs.Filling.{prepend}
use Rattle.saber_dispatch.specs.Cutting.{Cuts, CutState, AreWhole, AtEnd, AtBad, EndComes, EndGiven, Flushes, IsThere, IsTooWide, end_counts, is_due, told_end, end_of, fresh, fresh_on}
use Rattle.saber_plan.specs.Files.{input_of}
use Rattle.saber_dispatch.specs.Telling.{IsFirstWide, EndsNear, AreNear, BlocksAreNear, HasAll, EndsAs, AreTasks, BlocksAreTasks}
use Rattle.saber_plan.specs.Facts.Counts.{later_task}
use Rattle.saber_dispatch.proofs.NextTasks.{goes_on, upto_rows, upto_end, upto_seam, none_wide, first_wide, need_stays}
use Rattle.saber_rows.proofs.MergedLaws.{merges_tell}
use Rattle.saber_rows.proofs.ReaderTexts.{readers_tell}

abbrev Lefts : Type 0
Lefts = List (Option (List ℕ))

-- what a reader has still to give over sources that tell
abbrev pub reading_over : Reading → List (Option (List ℕ)) → Option Read
reading_over (one r) (a ∷ []) = rest_over r a
reading_over (two m) (a ∷ b ∷ []) = merger_over m a b
reading_over _ _ = None

tells : (f : Read → Read) (a b : Reading) (had has : Lefts) → ReadMoves f a b had has → reading_over a had ≡ option_map f (reading_over b has)
tells f (one a) (one b) (x ∷ []) (y ∷ []) m = readers_tell f a b x y m
tells f (two a) (two b) (x ∷ z ∷ []) (y ∷ w ∷ []) m = merges_tell f a b x y z w m
tells f a b had has m = absurd m

fresh_over : (q : Tree) (limits : FileLimits) (streams : List Stream) (files : List (List ℕ)) → Suits (fresh_on q limits streams) (map Some files) → reading_over (fresh_on q limits streams) (map Some files) ≡ Some (input_of q limits files)
fresh_over q limits [] (f ∷ []) s = refl
fresh_over q limits (x ∷ []) (f ∷ []) s = refl
fresh_over q limits (x ∷ y ∷ ss) (f ∷ g ∷ []) s = refl
fresh_over q limits [] [] s = absurd s
fresh_over q limits [] (f ∷ g ∷ fs) s = absurd s
fresh_over q limits (x ∷ []) [] s = absurd s
fresh_over q limits (x ∷ []) (f ∷ g ∷ fs) s = absurd s
fresh_over q limits (x ∷ y ∷ ss) [] s = absurd s
fresh_over q limits (x ∷ y ∷ ss) (f ∷ []) s = absurd s
fresh_over q limits (x ∷ y ∷ ss) (f ∷ g ∷ h ∷ fs) s = absurd s

record Rest (o : Option Read) (all : Read) (ys : List Row) : Type 0 where
  rest : Read
  is : o ≡ Some rest
  front : all ≡ prepend ys rest

rest_of_all : (o : Option Read) (all : Read) (ys : List Row) → Some all ≡ option_map (prepend ys) o → Rest o all ys
rest_of_all None all ys e = absurd (some_none e) where
  some_none : ◌≡◌ {A = Option Read} (Some all) None → ⊥
  some_none h = cc
rest_of_all (Some r) all ys e = record { rest = r; is = refl; front = same all (prepend ys r) e } where
  same : (a b : Read) → ◌≡◌ {A = Option Read} (Some a) (Some b) → a ≡ b
  same a b h = cc

can_come : (r : readers.Reader) (z : List ℕ) → CanFollow false r (to_come r z)
can_come r z e = (refl, ap (λ b. cond b [] z) e)

inner : (a b : Read) → ◌≡◌ {A = Option Read} (Some a) (Some b) → a ≡ b
inner a b h = cc

none_inner : (b : Read) → ◌≡◌ {A = Option Read} None (Some b) → ⊥
none_inner b h = cc

-- a reader at an end has nothing left
at_end : (e : rows.End) (r : Reading) (has : Lefts) (rest : Read) → ReadHasEnd e r → reading_over r has ≡ Some rest → rest ≡ nothing e
at_end e (one r) (Some z ∷ []) rest h o = sym (inner _ rest o) ∙ h (to_come r z) (can_come r z)
at_end e (two m) (Some z ∷ Some w ∷ []) rest h o = sym (inner _ rest o) ∙ h (to_come m.left.reader z) (to_come m.right.reader w) (can_come m.left.reader z) (can_come m.right.reader w)
at_end e (one r) [] rest h o = absurd (none_inner rest o)
at_end e (one r) (None ∷ []) rest h o = absurd (none_inner rest o)
at_end e (one r) (a ∷ b ∷ l) rest h o = absurd (none_inner rest o)
at_end e (two m) [] rest h o = absurd (none_inner rest o)
at_end e (two m) (a ∷ []) rest h o = absurd (none_inner rest o)
at_end e (two m) (None ∷ b ∷ []) rest h o = absurd (none_inner rest o)
at_end e (two m) (Some z ∷ None ∷ []) rest h o = absurd (none_inner rest o)
at_end e (two m) (a ∷ b ∷ d ∷ l) rest h o = absurd (none_inner rest o)

-- ---- why no more blocks come, by why no more rows do

-- an end that is told is that of the rows, and no block of the input's end is still to come
pub told_is : (flush : Bool) (count : ℕ) (o : Option End) (e : End) → told_end flush count o ≡ Some e → (o ≡ Some e) × (is_due flush count e ≡ false)
told_is flush count None e h = absurd (none_some h) where
  none_some : ◌≡◌ {A = Option End} None (Some e) → ⊥
  none_some i = cc
told_is flush count (Some x) e h = by_case (is_due flush count x) refl where
  by_case : (b : Bool) → is_due flush count x ≡ b → (◌≡◌ {A = Option End} (Some x) (Some e)) × (is_due flush count e ≡ false)
  by_case false i =
      let same : ◌≡◌ {A = Option End} (Some x) (Some e) = sym (ap (λ b. cond b None (Some x)) i) ∙ h in
      let alike : x ≡ e = one_end same in
      (same, subst (λ y. is_due flush count y ≡ false) alike i) where
        one_end : ◌≡◌ {A = Option End} (Some x) (Some e) → x ≡ e
        one_end j = cc
  by_case true i = absurd (none_some (sym (ap (λ b. cond {A = Option End} b None (Some x)) i) ∙ h)) where
    none_some : ◌≡◌ {A = Option End} None (Some e) → ⊥
    none_some j = cc

-- ---- where the input stands

both_true : (f w : Bool) → (f && w) ≡ true → (f ≡ true) × (w ≡ true)
both_true true w h = (refl, h)
both_true false w h = absurd (let e : false ≡ true = h in cc)

-- the end comes where it counts, all was read and there are rows
end_on : (f a w n : Bool) → (f && w) ≡ true → a ≡ true → n ≡ true → (f && a && w && n) ≡ true
end_on f a w n h i j = let b = both_true f w h in ap (λ x. x && a && w && n) b.0 ∙ ap (λ x. true && x && w && n) i ∙ ap (λ x. true && true && x && n) b.1 ∙ j

end_off : (f a w n : Bool) → (f && w) ≡ false → (f && a && w && n) ≡ false
end_off false a w n h = refl
end_off true false w n h = refl
end_off true true w n h = ap (λ x. x && n) h

no_end : (f w n : Bool) → (f && false && w && n) ≡ false
no_end false w n = refl
no_end true w n = refl

last_off : (b : Bool) → (b && false) ≡ false
last_off true = refl
last_off false = refl

some_there : (n : ℕ) → 1 ≤ n → not (n == 0) ≡ true
some_there n h = let e : (n == 0) ≡ false = grind (arith, nat_tests, h) in ap not e

none_there : (n : ℕ) → n ≡ 0 → not (n == 0) ≡ false
none_there n h = let e : (n == 0) ≡ true = grind (arith, nat_tests, h) in ap not e

off_front : (b c : Bool) → (b && c) ≡ false → c ≡ true → b ≡ false
off_front true c h e = absurd (let f : true ≡ false = sym e ∙ h in cc)
off_front false c h e = refl

rows_counted : (b : Bool) (x : ℕ) → x ≤ cond b (x + 1) x
rows_counted true x = omega arith
rows_counted false x = omega arith

with_end : (b : Bool) (x : ℕ) → b ≡ true → cond b (x + 1) x ≡ x + 1
with_end b x h = ap (λ c. cond c (x + 1) x) h

-- the tasks of the blocks given are the first of an input that has their rows, and others only behind whole tasks
front_of : (n k : ℕ) (xs ys : List Row) (more : Input) → 1 ≤ n → k ≡ row_tasks n (going_on xs) → more.rows ≡ xs ++ ys → (length xs ≡ k * n) ⊎ (ys ≡ []) → upto n more k ≡ going_on xs
front_of n k xs ys more some count same (inl whole) = ap (λ l. upto n (record { rows = l; ended = more.ended }) k) same ∙ upto_seam n xs ys more.ended k some whole
front_of n k xs ys more some count same (inr none) =
    let all : more.rows ≡ xs = same ∙ ap (λ l. xs ++ l) none ∙ append-nil xs in
    let h = div_ceil_times (length xs) n some in
    let room : length xs ≤ k * n = omega (arith, h.0, ap (λ j. j * n) count) in
    ap (λ l. upto n (record { rows = l; ended = more.ended }) k) all ∙ upto_rows n (record { rows = xs; ended = more.ended }) k (omega (arith, count)) ∙ ap going_on (take_all (min (k * n) (length xs)) xs (omega (arith, room)))

-- ---- which task is too wide

module _ (q : Tree) (s : Sizes) (had has : Lefts) (c : Cutter) (r : Input) (k : Cuts q s had has c r) where
  some_size : 1 ≤ s.task
  some_size = k.sizes.task.0

  count_rows : r.ended ≡ false → c.number ≡ row_tasks s.task r
  count_rows h = k.count ∙ ap (task_count s.task) (goes_on r h)

  pub given_near : wide q s.task r s.ring ≡ None
  given_near = none_wide q s.task s.ring r c.number k.count k.near

  module _ (task needs : ℕ) (w : IsTooWide q s c r k.dropped task needs) where
    -- of an input that begins with the tasks of the blocks given, and has one more
    wide_in : (more : Input) → upto s.task more c.number ≡ r → c.number < task_count s.task more → IsFirstWide q s r more task needs
    wide_in more front there =
        let at : task ≡ c.number = w.task_is in
        let here : s.ring < need q s.task r c.number = subst (λ n. s.ring < n) (w.needs_is ∙ ap (need q s.task r) at) w.wide in
        record {
          behind = ap (upto s.task more) at ∙ front;
          next = at ∙ k.count;
          first = first_wide q s.task s.ring r more c.number some_size front there k.near here ∙ ap Some (sym at);
          needs_is = w.needs_is ∙ ap (need q s.task r) at ∙ need_stays q s.task r more c.number c.number some_size front (omega arith) ∙ ap (need q s.task more) (sym at);
        }

    -- and has all that was read, and the end if the task is that
    pub wide_among : (more : Input) (ys : List Row) → more.rows ≡ r.rows ++ (k.dropped ++ ys) → (k.dropped ≡ [] → ys ≡ []) → (e : Bool) → IsThere q s c r k.dropped e → (e ≡ true → more.ended ≡ true) → AreWhole s c r k.dropped → IsFirstWide q s r more task needs
    wide_among more ys all none false there ends (inl whole) =
        let count : length more.rows ≡ length r.rows + length (k.dropped ++ ys) = ap length all ∙ length-append r.rows (k.dropped ++ ys) in
        let longer : c.number * s.task < length more.rows = omega (arith, count, length-append k.dropped ys, there, whole) in
        let low = rows_counted more.ended (row_tasks s.task more) in
        wide_in more (front_of s.task c.number r.rows (k.dropped ++ ys) more some_size (count_rows w.unended) all (inl whole) ∙ sym (goes_on r w.unended)) (omega (arith, later_task s.task c.number (length more.rows) some_size longer, low))
    wide_among more ys all none false there ends (inr (d, e, h)) = absurd (omega (arith, there, ap length d))
    wide_among more ys all none true there ends whole =
        let nothing_more : k.dropped ++ ys ≡ [] = ap (λ l. l ++ ys) there.none_dropped ∙ none there.none_dropped in
        let same : more.rows ≡ r.rows = all ∙ ap (λ l. r.rows ++ l) nothing_more ∙ append-nil r.rows in
        let tasks : row_tasks s.task more ≡ row_tasks s.task r = ap (λ l. row_tasks s.task (going_on l)) same in
        wide_in more (front_of s.task c.number r.rows (k.dropped ++ ys) more some_size (count_rows w.unended) all (inr nothing_more) ∙ sym (goes_on r w.unended)) (omega (arith, with_end more.ended (row_tasks s.task more) (ends refl), tasks, count_rows w.unended))

  ends_near : (e : Option End) → end_of c ≡ e → EndsNear q s r e
  ends_near (Some (TooWide task needs)) h =
      let is = told_is c.flush c.number c.ended (TooWide task needs) h in
      let w : IsTooWide q s c r k.dropped task needs = subst (CutState q s c r k.dropped) is.0 k.state in
      let more : Input = record { rows = r.rows ++ k.dropped; ended = w.ended } in
      (more, wide_among task needs w more [] (ap (λ l. r.rows ++ l) (sym (append-nil k.dropped))) (λ d. refl) w.ended w.there (λ d. d) k.whole)
  ends_near None h = tt
  ends_near (Some AllRead) h = tt
  ends_near (Some (Bad side line cause)) h = tt
  ends_near (Some (ReadFault side)) h = tt
  ends_near (Some NoMemory) h = tt

  pub are_near : AreNear q s c r
  are_near = record { given = given_near; told = ends_near (end_of c) refl }

pub blocks_are_near : BlocksAreNear
blocks_are_near q s had has c r k = are_near q s had has c r k

-- ---- over inputs that tell

module _ (q : Tree) (s : Sizes) (files : List (List ℕ)) (has : Lefts) (c : Cutter) (r : Input) (u : Suits (fresh q (limits_of s)) (map Some files)) (k : Cuts q s (map Some files) has c r) where
  abbrev all : Read
  all = input_of q (limits_of s) files

  abbrev run : Input
  run = run_input q s.flush all

  left_over : Rest (reading_over (reading_of c.reader) has) all (r.rows ++ k.dropped)
  left_over = rest_of_all _ all (r.rows ++ k.dropped) (sym (fresh_over q (limits_of s) q.streams files u) ∙ tells (prepend (r.rows ++ k.dropped)) (fresh q (limits_of s)) (reading_of c.reader) (map Some files) has k.took.moves)

  all_rows : all.rows ≡ r.rows ++ (k.dropped ++ left_over.rest.rows)
  all_rows = ap (λ (i : Read). i.rows) left_over.front ∙ append_assoc r.rows k.dropped left_over.rest.rows

  ended : (e : rows.End) → k.dropped ≡ [] → ReadHasEnd e (reading_of c.reader) → (all.rows ≡ r.rows) × (all.end ≡ e) × (left_over.rest.rows ≡ [])
  ended e d h =
      let nil : left_over.rest ≡ nothing e = at_end e (reading_of c.reader) has left_over.rest h left_over.is in
      (all_rows ∙ ap (λ l. r.rows ++ (l ++ left_over.rest.rows)) d ∙ ap (λ (i : Read). r.rows ++ i.rows) nil ∙ append-nil r.rows, ap (λ (i : Read). i.end) left_over.front ∙ ap (λ (i : Read). i.end) nil, ap (λ (i : Read). i.rows) nil)

  -- the input's end is the run's
  run_ends : EndComes q s c r k.dropped → run.ended ≡ true
  run_ends h =
      let at = ended all_read h.none_dropped h.has_end in
      end_on s.flush (is_all_read all.end) (has_windows (frame q)) (not (length all.rows == 0)) h.counts (ap is_all_read at.1) (some_there (length all.rows) (subst (λ (l : List Row). 1 ≤ length l) (sym at.0) h.had_rows))

  whole_or : AreWhole s c r k.dropped → (length r.rows ≡ c.number * s.task) ⊎ (k.dropped ++ left_over.rest.rows ≡ [])
  whole_or (inl w) = inl w
  whole_or (inr (d, e, h)) = inr (ap (λ l. l ++ left_over.rest.rows) d ∙ (ended e d h).2)

  behind_end : EndGiven q s c r k.dropped → r.ended ≡ true → r ≡ run
  behind_end g e = λ i. record { rows = sym (ended all_read g.comes.none_dropped g.comes.has_end).0 i; ended = (e ∙ sym (run_ends g.comes)) i }

  tasks_by : (b : Bool) → r.ended ≡ b → Flushes q s c r k.dropped b → r ≡ upto s.task run (task_count s.task r)
  tasks_by false e f =
      goes_on r e ∙ sym (front_of s.task c.number r.rows (k.dropped ++ left_over.rest.rows) run (some_size q s (map Some files) has c r k) (count_rows q s (map Some files) has c r k e) all_rows (whole_or k.whole)) ∙ ap (upto s.task run) k.count
  tasks_by true e f =
      let same : r ≡ record { rows = r.rows; ended = true } = λ i. record { rows = r.rows; ended = e i } in
      let past : row_tasks s.task (going_on r.rows) < task_count s.task r = omega (arith, with_end r.ended (row_tasks s.task r) e) in
      same ∙ sym (upto_end s.task r.rows (task_count s.task r) past) ∙ ap (λ i. upto s.task i (task_count s.task r)) (sym same ∙ behind_end f e)

  -- ---- and why they end

  has_all : r ≡ run → HasAll q s r all
  has_all e = record { whole = e; near = ap (λ i. wide q s.task i s.ring) (sym e) ∙ given_near q s (map Some files) has c r k }

  -- where no block for the end came, none was to come
  no_end_comes : r.ended ≡ false → all.rows ≡ r.rows → c.flush ≡ end_counts q s → is_due c.flush c.number AllRead ≡ false → run.ended ≡ false
  no_end_comes e same on due = ⊎_elim
      (λ none. ap (λ b. s.flush && is_all_read all.end && has_windows (frame q) && b) (none_there (length all.rows) (omega (arith, none))) ∙ last_off (s.flush && is_all_read all.end && has_windows (frame q)))
      (λ some. end_off s.flush (is_all_read all.end) (has_windows (frame q)) (not (length all.rows == 0)) (sym on ∙ off_front c.flush (not (c.number == 0)) due (some_there c.number (given_some some))))
      (cases_lt (length all.rows) 1) where
        given_some : 1 ≤ length all.rows → 1 ≤ c.number
        given_some h =
            let l : 0 < row_tasks s.task r = later_task s.task 0 (length r.rows) (some_size q s (map Some files) has c r k) (omega (arith, h, ap length same)) in
            omega (arith, l, count_rows q s (map Some files) has c r k e)

  read_by : (b : Bool) → r.ended ≡ b → Flushes q s c r k.dropped b → all.rows ≡ r.rows → is_due c.flush c.number AllRead ≡ false → r ≡ run
  read_by false e f same due = λ i. record { rows = sym same i; ended = (e ∙ sym (no_end_comes e same f due)) i }
  read_by true e f same due = behind_end f e

  ends_by : (e : Option End) → end_of c ≡ e → EndsAs q s e r all
  ends_by None h = tt
  ends_by (Some AllRead) h =
      let is = told_is c.flush c.number c.ended AllRead h in
      let a : AtEnd q s c r k.dropped = subst (CutState q s c r k.dropped) is.0 k.state in
      let at = ended all_read a.none_dropped a.has_end in
      (has_all (read_by r.ended refl k.flushes at.0 is.1), at.1)
  ends_by (Some (Bad side line cause)) h =
      let is = told_is c.flush c.number c.ended (Bad side line cause) h in
      let a : AtBad c r k.dropped (bad side line cause) = subst (CutState q s c r k.dropped) is.0 k.state in
      let at = ended (bad side line cause) a.none_dropped a.has_end in
      let off : run.ended ≡ false = ap (λ x. s.flush && is_all_read x && has_windows (frame q) && not (length all.rows == 0)) at.1 ∙ no_end s.flush (has_windows (frame q)) (not (length all.rows == 0)) in
      (has_all (λ i. record { rows = sym at.0 i; ended = (a.unended ∙ sym off) i }), at.1)
  ends_by (Some (ReadFault side)) h = tt
  ends_by (Some (TooWide task needs)) h =
      let is = told_is c.flush c.number c.ended (TooWide task needs) h in
      let w : IsTooWide q s c r k.dropped task needs = subst (CutState q s c r k.dropped) is.0 k.state in
      wide_among q s (map Some files) has c r k task needs w run left_over.rest.rows all_rows (none_left w.ended w.there) w.ended w.there (end_by w.ended w.there) k.whole where
        none_left : (e : Bool) → IsThere q s c r k.dropped e → k.dropped ≡ [] → left_over.rest.rows ≡ []
        none_left false t d = absurd (omega (arith, t, ap length d))
        none_left true t d = (ended all_read t.none_dropped t.has_end).2

        end_by : (e : Bool) → IsThere q s c r k.dropped e → e ≡ true → run.ended ≡ true
        end_by false t d = absurd (let f : false ≡ true = d in cc)
        end_by true t d = run_ends t
  ends_by (Some NoMemory) h = tt

  are_tasks : AreTasks q s c r all
  are_tasks = record { tasks = tasks_by r.ended refl k.flushes; ends = ends_by (end_of c) refl }

pub blocks_are_tasks : BlocksAreTasks
blocks_are_tasks q s files has c r u k = are_tasks q s files has c r u k
