-- Row files that are opened, read and given back.
use Rattle.std.proofs.Common.{Bool, ◌≡◌, ◌≤◌, ◌<◌, inl, inr, ℕ, suc, ◌-◌, ◌^◌, List, [], ◌∷◌, ◌++◌, length, map, Option, Some, None, option_map, IfSome, refl, sym, ◌∙◌, ap, subst, arith, append-nil, append_assoc}
use Rattle.std.proofs.lemmas.List.{take_all}
use Rattle.std.proofs.lemmas.Bool.Decides.{nat_tests}
use Rattle.std.specs.Prelude.{option_to_list, option_and_then}
use Rattle.saber_io.specs.Outside.{FilesView, Closed, Opens, OpensIn, after_asking, after_closing, content_in, left_before, raised_faults}
use Rattle.saber_plan.specs.Outputs.{Rose, raised_count}
use Rattle.saber_plan.specs.declared.rows.Side.{Side}
use Rattle.saber_plan.specs.declared.rows.Side.TheVariants as sides
use Rattle.saber_plan.specs.Trees.{Tree}
use Rattle.saber_plan.specs.Sizes.{FileLimits}
use Rattle.saber_dispatch.specs.declared.inputs.Inputs.{Inputs}
use Rattle.saber_dispatch.specs.declared.inputs.Inputs.TheVariants.{One, Two}
use Rattle.saber_engine.specs.Sources.{each_input, told_by, RoseAt, GaveAll}
use Rattle.saber_plan.specs.Files.{input_of}
use Rattle.saber_engine.specs.Gives.{ReadsWhole}
use Rattle.saber_words.specs.declared.commands.RowNames.{RowNames}
use Rattle.saber_notes.specs.declared.outcome.InputFile.TheVariants.{Query, Left, Right, SecondQuery}
use Rattle.saber_notes.specs.declared.outcome.Outcome.{Outcome}
use Rattle.saber_notes.specs.declared.outcome.Outcome.TheVariants.{Done, Usage, FileCount, QueryFault, SecondQueryFault, Unchainable, LineRefused, ChainLineRefused, OpenFault, ReadFault, TooWide, WriteFault, NoMemory}
use Rattle.saber_cli.specs.Outcomes.{IsClean, IsFileFault, IsOfRun}
use Rattle.saber_cli.specs.Endings.{file_on}
use Rattle.saber_cli.specs.Answered.{Answered, AnsweredIn}
use Rattle.saber_cli.specs.Due.{Contents, contents_of, rows_named}
use Rattle.saber_cli.specs.Uses.{IsOf, IsOpened, KeepsFaults}
use Rattle.saber_cli.specs.Leaves.{AreOf, HadNoFaults, HadFaults, Matches}
use Rattle.saber_cli.specs.RowFiles.{IsNotOpened, OpensAll, UsesRows, raised_by, source_back, after_use}
use Rattle.saber_cli.specs.Taken.{TakesOf, TakesRows}
use Rattle.saber_cli.proofs.FileLemmas.{rose_some}

-- ---- the right file was not opened

-- two files were asked for, and the first was given back
two_asked : (told : Option FilesView) (l name : List ℕ) (left : Option (List ℕ)) (faults : ℕ) → after_closing (after_asking (after_asking told l) name) left faults ≡ after_use told (l ∷ name ∷ []) ((left, faults) ∷ [])
two_asked None l name left faults = refl
two_asked (Some t) l name left faults = ap (λ x. Some (record { contents = t.contents; asked = x; closed = t.closed ++ (left, faults) ∷ [] })) (append_assoc t.asked (l ∷ []) (name ∷ []))

one_asked : (told : Option FilesView) (l : List ℕ) (left : Option (List ℕ)) (faults : ℕ) → after_closing (after_asking told l) left faults ≡ after_use told (l ∷ []) ((left, faults) ∷ [])
one_asked None l left faults = refl
one_asked (Some t) l left faults = refl

-- a source that was opened, and not read
unread_of : (told : Option FilesView) (name : List ℕ) (left : Option (List ℕ)) (faults : ℕ) → Opens told name left → IfSome told (λ t. IsOf t.contents name (left, faults) × Unit {0})
unread_of None name left faults o = tt
unread_of (Some t) name left faults o = (record { taken = []; rest = o.0; there = o.1; left = o.2 }, tt)

back_of_two : (l name : List ℕ) (o : Outcome) (a b c d : Option FilesView) (left : Option (List ℕ)) (faults : ℕ) → Opens a l left → faults ≡ 0 → b ≡ after_asking a l → IsNotOpened Right name o b c → d ≡ after_closing c left faults → UsesRows (l ∷ name ∷ []) o a d
back_of_two l name o a b c d left faults opens fresh asked (inl (k, n)) closed = subst (λ p. UsesRows (l ∷ name ∷ []) p a d) (sym k) (record {
  count = 2;
  few = omega arith;
  given_back = (left, faults) ∷ [];
  told = closed ∙ ap (λ x. after_closing x left faults) n ∙ ap (λ x. after_closing (after_asking x name) left faults) asked ∙ two_asked a l name left faults;
  are_of = unread_of a l left faults opens;
  matches = λ query z. (refl, refl, (z, (fresh, tt)));
})
back_of_two l name o a b c d left faults opens fresh asked (inr (k, n)) closed = subst (λ p. UsesRows (l ∷ name ∷ []) p a d) (sym k) (record {
  count = 1;
  few = omega arith;
  given_back = (left, faults) ∷ [];
  told = closed ∙ ap (λ x. after_closing x left faults) n ∙ ap (λ x. after_closing x left faults) asked ∙ one_asked a l left faults;
  are_of = unread_of a l left faults opens;
  matches = λ query z. refl;
})

pub right_unopened : (r : RowNames) (name : List ℕ) (o : Outcome) (a b c d : Option FilesView) (left : Option (List ℕ)) (faults : ℕ) → option_map (λ name. name.now) r.right ≡ Some name → Opens a r.left.now left → faults ≡ 0 → b ≡ after_asking a r.left.now → IsNotOpened Right name o b c → d ≡ after_closing c left faults → UsesRows (rows_named r) o a d
right_unopened r name o a b c d left faults e opens fresh asked not closed = subst (λ x. UsesRows (r.left.now ∷ option_to_list x) o a d) (sym e) (back_of_two r.left.now name o a b c d left faults opens fresh asked not closed)

-- ---- sources as they are given back

-- these of all inputs
abbrev pub backs : {S : Type 0} → (S → Option (List ℕ)) → (S → ℕ) → Inputs S → List Closed
backs left faults i = each_input (source_back left faults) i

pub lefts_of : {S : Type 0} (left : S → Option (List ℕ)) (faults : S → ℕ) (i : Inputs S) → map (λ s. s.0) (backs left faults i) ≡ each_input left i
lefts_of left faults (One s) = refl
lefts_of left faults (Two s t) = refl

pub faults_of : {S : Type 0} (left : S → Option (List ℕ)) (faults : S → ℕ) (i : Inputs S) → map (λ s. s.1) (backs left faults i) ≡ each_input faults i
faults_of left faults (One s) = refl
faults_of left faults (Two s t) = refl

-- as many as there were
pub gave_length : (hads hass : List (Option (List ℕ))) (taken : List (List ℕ)) → GaveAll hads taken hass → length hads ≡ length hass
gave_length [] [] [] g = refl
gave_length [] [] (t ∷ ts) g = absurd g
gave_length [] (h ∷ hs) [] g = absurd g
gave_length [] (h ∷ hs) (t ∷ ts) g = absurd g
gave_length (h ∷ hs) [] [] g = absurd g
gave_length (h ∷ hs) [] (t ∷ ts) g = absurd g
gave_length (h ∷ hs) (k ∷ ks) [] g = absurd g
gave_length (h ∷ hs) (k ∷ ks) (t ∷ ts) g = omega (arith, gave_length hs ks ts g.1)

pub back_length : {S : Type 0} (left : S → Option (List ℕ)) (faults : S → ℕ) (i : Inputs S) → length (backs left faults i) ≡ length (each_input left i)
back_length left faults (One s) = refl
back_length left faults (Two s t) = refl

-- a source that was opened and read is of its file
read_of : (contents : Contents) (name : List ℕ) (had has : Option (List ℕ)) (faults : ℕ) (taken : List ℕ) → OpensIn contents name had → had ≡ left_before taken has → IsOf contents name (has, faults)
read_of contents name had None faults taken o e = let clash : Some o.0 ≡ None = sym o.2 ∙ e in cc
read_of contents name had (Some rest) faults taken o e = record { taken = taken; rest = rest; there = o.1 ∙ sym o.2 ∙ e; left = refl }

all_of : (contents : Contents) (names : List (List ℕ)) (hads : List (Option (List ℕ))) (taken : List (List ℕ)) (back : List Closed) → OpensAll contents names hads → GaveAll hads taken (map (λ s. s.0) back) → AreOf 0 contents back names
all_of contents names hads taken [] o g = tt
all_of contents [] [] [] (s ∷ ss) o g = absurd g
all_of contents [] [] (t ∷ ts) (s ∷ ss) o g = absurd g
all_of contents [] (h ∷ hs) taken (s ∷ ss) o g = absurd o
all_of contents (n ∷ ns) [] taken (s ∷ ss) o g = absurd o
all_of contents (n ∷ ns) (h ∷ hs) [] (s ∷ ss) o g = absurd g
all_of contents (n ∷ ns) (h ∷ hs) (t ∷ ts) (s ∷ ss) o g = (read_of contents n h s.0 s.1 t o.0 g.0, all_of contents ns hs ts ss o.1 g.1)

-- ---- counts of faults of what is given back

pub no_faults_same : (xs ys : List Closed) → map (λ s. s.1) ys ≡ map (λ s. s.1) xs → HadNoFaults xs → HadNoFaults ys
no_faults_same xs [] e h = tt
no_faults_same [] (y ∷ ys) e h = cc
no_faults_same (x ∷ xs) (y ∷ ys) e h = let one : y.1 ≡ x.1 = cc in let more : map (λ s. s.1) ys ≡ map (λ s. s.1) xs = cc in (one ∙ h.0, no_faults_same xs ys more h.1)

faulty_left : (xs ys : List Closed) (query : Closed) → query.1 ≡ 0 → HadNoFaults xs → RoseAt sides.Left (map (λ s. s.1) xs) (map (λ s. s.1) ys) → HadFaults 1 (query ∷ ys) 1
faulty_left [] ys query z h r = absurd r
faulty_left (x ∷ xs) [] query z h r = absurd r
faulty_left (x ∷ xs) (y ∷ ys) query z h r = record { source = y; there = refl; faults = rose_some x.1 y.1 h.0 r; before = (z, tt) }

faulty_right : (xs ys : List Closed) (query : Closed) → query.1 ≡ 0 → HadNoFaults xs → RoseAt sides.Right (map (λ s. s.1) xs) (map (λ s. s.1) ys) → HadFaults 1 (query ∷ ys) 2
faulty_right [] ys query z h r = absurd r
faulty_right (x ∷ []) ys query z h r = absurd r
faulty_right (x ∷ v ∷ xs) [] query z h r = absurd r
faulty_right (x ∷ v ∷ xs) (y ∷ []) query z h r = absurd r
faulty_right (x ∷ v ∷ xs) (y ∷ w ∷ ys) query z h r = record { source = w; there = refl; faults = rose_some v.1 w.1 h.1.0 r; before = (z, tt) }

-- ---- the files' own count

-- one that is within its type's values doesn't fall
stays : (d : ℕ) (ys : List Closed) → d ≤ 2 ^ 64 - 1 → d ≤ raised_by d ys
stays d [] h = omega arith
stays d (y ∷ ys) h =
    let more : d ≤ raised_faults d y.1 = grind (arith, nat_tests) in
    let small : raised_faults d y.1 ≤ 2 ^ 64 - 1 = grind (arith, nat_tests) in
    let rest : raised_faults d y.1 ≤ raised_by (raised_faults d y.1) ys = stays (raised_faults d y.1) ys small in
    omega (arith, more, rest)

-- behind a source that had faults
rose_behind : (c f : ℕ) (ys : List Closed) → 0 < f → Rose c (raised_by (raised_faults c f) ys)
rose_behind c f ys h =
    let up : raised_faults c f ≡ raised_count c = grind (arith, nat_tests) in
    let small : raised_count c ≤ 2 ^ 64 - 1 = omega arith in
    subst (λ x. Rose c (raised_by x ys)) (sym up) (stays (raised_count c) ys small)

pub rose_left : (xs ys : List Closed) (c : ℕ) → HadNoFaults xs → RoseAt sides.Left (map (λ s. s.1) xs) (map (λ s. s.1) ys) → Rose c (raised_by c ys)
rose_left [] ys c h r = absurd r
rose_left (x ∷ xs) [] c h r = absurd r
rose_left (x ∷ xs) (y ∷ ys) c h r = rose_behind c y.1 ys (rose_some x.1 y.1 h.0 r)

pub rose_right : (xs ys : List Closed) (c : ℕ) → HadNoFaults xs → RoseAt sides.Right (map (λ s. s.1) xs) (map (λ s. s.1) ys) → Rose c (raised_by c ys)
rose_right [] ys c h r = absurd r
rose_right (x ∷ []) ys c h r = absurd r
rose_right (x ∷ v ∷ xs) [] c h r = absurd r
rose_right (x ∷ v ∷ xs) (y ∷ []) c h r = absurd r
rose_right (x ∷ v ∷ xs) (y ∷ w ∷ ys) c h r =
    let one : KeepsFaults c (raised_faults c y.1) = grind (arith, nat_tests) in
    let more : Rose (raised_faults c y.1) (raised_by (raised_faults (raised_faults c y.1) w.1) ys) = rose_behind (raised_faults c y.1) w.1 ys (rose_some v.1 w.1 h.1.0 r) in
    omega (arith, one, more)

run_matches : (n : ℕ) (o : Outcome) (xs ys : List Closed) (query : Closed) → IsOfRun o → IsOpened o → length ys ≡ n → HadNoFaults xs → (IsClean o → map (λ s. s.1) ys ≡ map (λ s. s.1) xs)
    → ((side : Side) → o ≡ ReadFault (file_on side) → RoseAt side (map (λ s. s.1) xs) (map (λ s. s.1) ys)) → query.1 ≡ 0 → Matches 1 (suc n) o (suc n) (query ∷ ys)
run_matches n Done xs ys query h p len z c r q = record { asked_for = refl; all = omega (arith, len); good = (q, no_faults_same xs ys (c tt) z) }
run_matches n Usage xs ys query h p len z c r q = absurd h
run_matches n (SecondQueryFault place why) xs ys query h p len z c r q = absurd h
run_matches n (Unchainable which) xs ys query h p len z c r q = absurd h
run_matches n (ChainLineRefused place why) xs ys query h p len z c r q = absurd h
run_matches n (FileCount s g) xs ys query h p len z c r q = absurd h
run_matches n (QueryFault b k) xs ys query h p len z c r q = absurd h
run_matches n (LineRefused s l k) xs ys query h p len z c r q = record { asked_for = refl; all = omega (arith, len); good = (q, no_faults_same xs ys (c tt) z) }
run_matches n (OpenFault f) xs ys query h p len z c r q = absurd p
run_matches n (ReadFault Query) xs ys query h p len z c r q = absurd h
run_matches n (ReadFault SecondQuery) xs ys query h p len z c r q = absurd h
run_matches n (ReadFault Left) xs ys query h p len z c r q = (refl, omega (arith, len), faulty_left xs ys query q z (r sides.Left refl))
run_matches n (ReadFault Right) xs ys query h p len z c r q = (refl, omega (arith, len), faulty_right xs ys query q z (r sides.Right refl))
run_matches n (TooWide t l k) xs ys query h p len z c r q = record { asked_for = refl; all = omega (arith, len); good = (q, no_faults_same xs ys (c tt) z) }
run_matches n WriteFault xs ys query h p len z c r q = (refl, omega (arith, len))
run_matches n NoMemory xs ys query h p len z c r q = omega (arith, len)

-- ---- what files tell

-- all names were asked for, and then all sources given back
pub both_used : (a b c : Option FilesView) (names : List (List ℕ)) (back : List Closed) → b ≡ after_use a names [] → c ≡ after_use b [] back → c ≡ after_use a names back
both_used None b c names back e f = f ∙ ap (λ x. after_use x [] back) e
both_used (Some t) b c names back e f = f ∙ ap (λ x. after_use x [] back) e ∙ (λ i. Some (record { contents = t.contents; asked = append-nil (t.asked ++ names) i; closed = append-nil t.closed i ++ back }))

pub of_told : (told : Option FilesView) (names : List (List ℕ)) (hads : List (Option (List ℕ))) (taken : List (List ℕ)) (back : List Closed) → IfSome told (λ t. OpensAll t.contents names hads) → GaveAll hads taken (map (λ s. s.0) back)
    → IfSome told (λ t. AreOf 0 t.contents back names)
of_told None names hads taken back o g = tt
of_told (Some t) names hads taken back o g = all_of t.contents names hads taken back o g

-- what sources had that were opened is what their files have
opened_same : (contents : Contents) (names : List (List ℕ)) (hads : List (Option (List ℕ))) → OpensAll contents names hads → hads ≡ map (content_in contents) names
opened_same contents [] [] o = refl
opened_same contents [] (h ∷ hs) o = absurd o
opened_same contents (n ∷ ns) [] o = absurd o
opened_same contents (n ∷ ns) (h ∷ hs) o = λ i. (o.0.2 ∙ sym o.0.1) i ∷ opened_same contents ns hs o.1 i

takes_told : (q : Tree) (n : ℕ) (limits : FileLimits) (tasks : ℕ) (names : List (List ℕ)) (hads : List (Option (List ℕ))) (back : List Closed) (told : Option FilesView) → IfSome told (λ t. OpensAll t.contents names hads) → ReadsWhole q n limits tasks hads (map (λ s. s.0) back)
    → IfSome told (λ t. TakesOf q n limits tasks t.contents names back)
takes_told q n limits tasks names hads back None o w = tt
takes_told q n limits tasks names hads back (Some t) o w = subst (λ x. ReadsWhole q n limits tasks x (map (λ s. s.0) back)) (opened_same t.contents names hads o) w

-- ---- a run over open sources, of inputs as they were and as they are

module _ {S : Type 0} (left : S → Option (List ℕ)) (faults : S → ℕ) where
  pub run_uses : (names : List (List ℕ)) (o : Outcome) (i j : Inputs S) (a b c : Option FilesView) → length (each_input left i) ≡ length names → IfSome a (λ t. OpensAll t.contents names (each_input left i)) → HadNoFaults (backs left faults i)
      → b ≡ after_use a names [] → c ≡ after_use b [] (backs left faults j) → IsOfRun o → IsOpened o → (taken : List (List ℕ)) × GaveAll (each_input left i) taken (each_input left j)
      → (IsClean o → each_input faults j ≡ each_input faults i) → ((side : Side) → o ≡ ReadFault (file_on side) → RoseAt side (each_input faults i) (each_input faults j)) → UsesRows names o a c
  run_uses names o i j a b c number opens fresh asked closed kinds opened takes good read =
      let len : length (backs left faults j) ≡ length names = back_length left faults j ∙ sym (gave_length (each_input left i) (each_input left j) takes.0 takes.1) ∙ number in
      let gave : GaveAll (each_input left i) takes.0 (map (λ s. s.0) (backs left faults j)) = subst (GaveAll (each_input left i) takes.0) (sym (lefts_of left faults j)) takes.1 in
      record {
        count = length names;
        few = omega arith;
        given_back = backs left faults j;
        told = both_used a b c names (backs left faults j) asked closed ∙ ap (λ x. after_use a x (backs left faults j)) (sym (take_all (length names) names (omega arith)));
        are_of = of_told a names (each_input left i) takes.0 (backs left faults j) opens gave;
        matches = λ query z. run_matches (length names) o (backs left faults i) (backs left faults j) query kinds opened len fresh (λ k. faults_of left faults j ∙ good k ∙ sym (faults_of left faults i))
            (λ side e. subst (λ x. RoseAt side x (map (λ s. s.1) (backs left faults j))) (sym (faults_of left faults i)) (subst (RoseAt side (each_input faults i)) (sym (faults_of left faults j)) (read side e))) z;
      }

  -- ---- what was taken

  pub run_takes : (q : Tree) (n : ℕ) (limits : FileLimits) (tasks : ℕ) (names : List (List ℕ)) (i j : Inputs S) (a b c : Option FilesView) → IfSome a (λ t. OpensAll t.contents names (each_input left i)) → b ≡ after_use a names [] → c ≡ after_use b [] (backs left faults j)
      → ReadsWhole q n limits tasks (each_input left i) (each_input left j) → TakesRows q n limits tasks names a c
  run_takes q n limits tasks names i j a b c opens asked closed w = record {
    given_back = backs left faults j;
    told = both_used a b c names (backs left faults j) asked closed;
    takes = takes_told q n limits tasks names (each_input left i) (backs left faults j) a opens (subst (ReadsWhole q n limits tasks (each_input left i)) (sym (lefts_of left faults j)) w);
  }

  -- ---- what was answered

  -- what sources tell that were opened is what their files have
  pub all_told : (contents : Contents) (names : List (List ℕ)) (i : Inputs S) → OpensAll contents names (each_input left i) → (all : List (List ℕ)) × (contents_of contents names ≡ Some all) × (told_by left i ≡ Some all)
  all_told contents [] (One s) o = absurd o
  all_told contents (n ∷ []) (One s) o = (o.0.0 ∷ [], ap (option_and_then (λ bytes. Some (bytes ∷ []))) o.0.1, ap (option_map (λ b. b ∷ [])) o.0.2)
  all_told contents (n ∷ m ∷ ns) (One s) o = absurd o.1
  all_told contents [] (Two s t) o = absurd o
  all_told contents (n ∷ []) (Two s t) o = absurd o.1
  all_told contents (n ∷ m ∷ []) (Two s t) o = (
    o.0.0 ∷ o.1.0.0 ∷ [],
    (λ k. option_and_then (λ bytes. option_map (λ more. bytes ∷ more) (option_and_then (λ b. Some (b ∷ [])) (o.1.0.1 k))) (o.0.1 k)),
    (λ k. option_and_then (λ b. option_map (λ c. b ∷ c ∷ []) (o.1.0.2 k)) (o.0.2 k)),
  )
  all_told contents (n ∷ m ∷ l ∷ ns) (Two s t) o = absurd o.1.1

  pub run_answers : (q : Tree) (n ring : ℕ) (limits : FileLimits) (flush : Bool) (names : List (List ℕ)) (o : Outcome) (tasks : ℕ) (out : List ℕ) (i : Inputs S) (told : Option FilesView) → IfSome told (λ t. OpensAll t.contents names (each_input left i))
      → IfSome (told_by left i) (λ all. Answered q n ring flush (input_of q limits all) o tasks out) → IfSome told (λ t. AnsweredIn q n ring limits flush (contents_of t.contents names) o tasks out)
  run_answers q n ring limits flush names o tasks out i None opens h = tt
  run_answers q n ring limits flush names o tasks out i (Some t) opens h =
      let a = all_told t.contents names i opens in
      subst (λ x. AnsweredIn q n ring limits flush x o tasks out) (sym a.1) (subst (λ x. IfSome x (λ all. Answered q n ring flush (input_of q limits all) o tasks out)) a.2 h)

  -- ---- counts of files

  pub run_cause : (o : Outcome) (i j : Inputs S) (a b c : ℕ) → HadNoFaults (backs left faults i) → b ≡ a → c ≡ raised_by b (backs left faults j) → IsOfRun o → IsOpened o
      → ((side : Side) → o ≡ ReadFault (file_on side) → RoseAt side (each_input faults i) (each_input faults j)) → IsFileFault o → Rose a c
  run_cause Done i j a b c z e f h p r k = absurd k
  run_cause Usage i j a b c z e f h p r k = absurd k
  run_cause (SecondQueryFault place why) i j a b c z e f h p r k = absurd k
  run_cause (Unchainable which) i j a b c z e f h p r k = absurd k
  run_cause (ChainLineRefused place why) i j a b c z e f h p r k = absurd k
  run_cause (FileCount s g) i j a b c z e f h p r k = absurd k
  run_cause (QueryFault q w) i j a b c z e f h p r k = absurd k
  run_cause (LineRefused s l w) i j a b c z e f h p r k = absurd k
  run_cause (OpenFault file) i j a b c z e f h p r k = absurd p
  run_cause (ReadFault Query) i j a b c z e f h p r k = absurd h
  run_cause (ReadFault SecondQuery) i j a b c z e f h p r k = absurd h
  run_cause (ReadFault Left) i j a b c z e f h p r k = subst (λ x. Rose x c) e (subst (Rose b) (sym f) (rose_left (backs left faults i) (backs left faults j) b z
      (subst (λ x. RoseAt sides.Left x (map (λ s. s.1) (backs left faults j))) (sym (faults_of left faults i)) (subst (RoseAt sides.Left (each_input faults i)) (sym (faults_of left faults j)) (r sides.Left refl)))))
  run_cause (ReadFault Right) i j a b c z e f h p r k = subst (λ x. Rose x c) e (subst (Rose b) (sym f) (rose_right (backs left faults i) (backs left faults j) b z
      (subst (λ x. RoseAt sides.Right x (map (λ s. s.1) (backs left faults j))) (sym (faults_of left faults i)) (subst (RoseAt sides.Right (each_input faults i)) (sym (faults_of left faults j)) (r sides.Right refl)))))
  run_cause (TooWide t l w) i j a b c z e f h p r k = absurd k
  run_cause WriteFault i j a b c z e f h p r k = absurd k
  run_cause NoMemory i j a b c z e f h p r k = absurd k
