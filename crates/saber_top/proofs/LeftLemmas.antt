-- Several plans over the left file, which is opened, read and given back.
use Rattle.std.proofs.Common.{◌≡◌, ◌<◌, ℕ, List, [], ◌∷◌, ◌++◌, Option, Some, None, option_map, IfSome, refl, sym, ◌∙◌, ap, subst, arith, append-nil, inl, inr}
use Rattle.std.proofs.lemmas.Bool.Decides.{nat_tests}
use Rattle.std.specs.Prelude.{option_and_then}
use Rattle.std.specs.List.{AllByRecursion, AllZip}
use Rattle.saber_io.specs.Outside.{FilesView, Closed, Opens, after_asking, left_before, raised_faults}
use Rattle.saber_plan.specs.Outputs.{Rose, raised_count}
use Rattle.saber_plan.specs.Outputs as outs
use Rattle.saber_plan.specs.declared.plans.Plan.{Plan}
use Rattle.saber_plan.specs.declared.rows.Side.{Side}
use Rattle.saber_plan.specs.declared.rows.Side.TheVariants as sides
use Rattle.saber_plan.specs.declared.sizes.Sizes.{Sizes}
use Rattle.saber_plan.specs.declared.ends.RunEnd.{RunEnd}
use Rattle.saber_plan.specs.declared.ends.RunEnd.TheVariants as ends
use Rattle.saber_plan.specs.Runs as run_defs
use Rattle.saber_plan.specs.Runs.{GivesOver, writes_over}
use Rattle.saber_plan.specs.Sizes.{limits_of}
use Rattle.saber_plan.specs.Trees.{Tree, tree_of}
use Rattle.saber_dispatch.specs.declared.inputs.Inputs.{Inputs}
use Rattle.saber_dispatch.specs.declared.inputs.Inputs.TheVariants.{One, Two}
use Rattle.saber_engine.specs.Gives.{ReadsWhole}
use Rattle.saber_engine.specs.Sources.{each_input, told_by, GaveAll, RoseAt}
use Rattle.saber_notes.specs.declared.outcome.InputFile.TheVariants.{Left, Right}
use Rattle.saber_notes.specs.declared.outcome.Outcome.{Outcome}
use Rattle.saber_notes.specs.declared.outcome.Outcome.TheVariants.{OpenFault, ReadFault}
use Rattle.saber_notes.specs.declared.outcome.Outcome.TheVariants as outcomes
use Rattle.saber_notes.specs.declared.early.Early.{Early}
use Rattle.saber_notes.specs.declared.early.Early.TheVariants as early
use Rattle.saber_notes.specs.declared.early.Early.TheVariants.{Usage, QueryUnopened, QueryUnread, QueryFault, Unshareable, LeftUnopened, CreateFault}
use Rattle.saber_cli.specs.Outcomes.{IsClean, IsFileFault}
use Rattle.saber_cli.specs.Due.{contents_of}
use Rattle.saber_cli.specs.Endings.{ended_as, file_on}
use Rattle.saber_cli.specs.Leaves.{AreOf}
use Rattle.saber_cli.specs.RowFiles.{IsNotOpened, raised_by, source_back, after_use}
use Rattle.saber_cli.specs.Taken.{TakesOf}
use Rattle.saber_top.specs.declared.parts.Part.{Part}
use Rattle.saber_top.specs.Ends.{IsCreateEnd, IsFileEnd, IsReadWell}
use Rattle.saber_top.specs.Made.{EarlyMade, IsOfCreate, IsOfLeft, MadeFirst}
use Rattle.saber_top.specs.ManyLeaves.{LeftAlone, LeftFits, LeftRan, UsesLeft}
use Rattle.saber_top.specs.Queries.{IsThere}
use Rattle.saber_top.specs.Shared.{RunsOver, RunsPart, outcomes_of}
use Rattle.saber_top.proofs.MadeLemmas.{lacks_first, no_more}
use Rattle.saber_top.proofs.QueryLemmas.{for_all, one_lost, unused}

-- ---- ends

pub read_by : (ring : ℕ) (e : RunEnd) (side : Side) → ended_as ring e ≡ ReadFault (file_on side) → e ≡ ends.ReadFault side
read_by ring ends.AllRead side k = cc
read_by ring (ends.Bad s line cause) side k = cc
read_by ring (ends.ReadFault sides.Left) sides.Left k = refl
read_by ring (ends.ReadFault sides.Left) sides.Right k = let clash : ReadFault Left ≡ ReadFault Right = k in cc
read_by ring (ends.ReadFault sides.Right) sides.Left k = let clash : ReadFault Right ≡ ReadFault Left = k in cc
read_by ring (ends.ReadFault sides.Right) sides.Right k = refl
read_by ring (ends.TooWide task need) side k = cc
read_by ring ends.WriteFault side k = cc
read_by ring ends.NoMemory side k = cc

clean_by : (ring : ℕ) (e : RunEnd) → IsClean (ended_as ring e) → run_defs.IsClean e
clean_by ring ends.AllRead w = tt
clean_by ring (ends.Bad side line cause) w = tt
clean_by ring (ends.ReadFault side) w = absurd w
clean_by ring (ends.TooWide task need) w = tt
clean_by ring ends.WriteFault w = absurd w
clean_by ring ends.NoMemory w = absurd w

faulty_by : (ring : ℕ) (e : RunEnd) → IsFileFault (ended_as ring e) → (side : Side) × (e ≡ ends.ReadFault side)
faulty_by ring ends.AllRead k = absurd k
faulty_by ring (ends.Bad side line cause) k = absurd k
faulty_by ring (ends.ReadFault side) k = (side, refl)
faulty_by ring (ends.TooWide task need) k = absurd k
faulty_by ring ends.WriteFault k = absurd k
faulty_by ring ends.NoMemory k = absurd k

-- ---- the file

-- it was asked for, and its source given back
pub used_one : (a b c : Option FilesView) (name : List ℕ) (back : Closed) → b ≡ after_asking a name → c ≡ after_use b [] (back ∷ []) → c ≡ after_use a (name ∷ []) (back ∷ [])
used_one None b c name back e f = f ∙ ap (λ x. after_use x [] (back ∷ [])) e
used_one (Some t) b c name back e f = f ∙ ap (λ x. after_use x [] (back ∷ [])) e ∙ (λ i. Some (record { contents = t.contents; asked = append-nil (t.asked ++ name ∷ []) i; closed = t.closed ++ back ∷ [] }))

-- a source that was opened and read is of its file
is_of : (told : Option FilesView) (name : List ℕ) (had has : Option (List ℕ)) (faults : ℕ) (taken : List ℕ) → Opens told name had → had ≡ left_before taken has → IfSome told (λ t. AreOf 0 t.contents ((has, faults) ∷ []) (name ∷ []))
is_of None name had has faults taken o e = tt
is_of (Some t) name had None faults taken o e = let clash : Some o.0 ≡ None = sym o.2 ∙ e in cc
is_of (Some t) name had (Some rest) faults taken o e = (record { taken = taken; rest = rest; there = o.1 ∙ sym o.2 ∙ e; left = refl }, tt)

-- the files' own count
raised_some : (c f : ℕ) → 0 < f → Rose c (raised_faults c f)
raised_some c f h = let up : raised_faults c f ≡ raised_count c = grind (arith, nat_tests) in subst (Rose c) (sym up) (omega arith)

pub raised_none : (c f : ℕ) → f ≡ 0 → raised_faults c f ≡ c
raised_none c f h = grind (arith, nat_tests, h)

-- ---- of one part

module _ {S T : Type 0} (left : S → Option (List ℕ)) (faults : S → ℕ) (written : T → Option (List ℕ)) (failed made : T → ℕ) (sizes : Sizes) (src now : S) where
  -- a run of one plan over the source, which stood so before and stands so now
  abbrev pub Runs : Tree → Part T → Type 0
  Runs q part = RunsPart left faults written failed made q sizes (One src) (One now) part

  -- the source as it was given back
  abbrev pub back : Closed
  back = source_back left faults now

  rose_now : (end : RunEnd) → faults src ≡ 0 → ((side : Side) → end ≡ ends.ReadFault side → RoseAt side (each_input faults (One src)) (each_input faults (One now))) → (side : Side) → end ≡ ends.ReadFault side → 0 < faults now
  rose_now end z r sides.Left e = let rose : Rose (faults src) (faults now) = r sides.Left e in omega (arith, z, rose)
  rose_now end z r sides.Right e = absurd (r sides.Right e)

  good_now : (end : RunEnd) → faults src ≡ 0 → (run_defs.IsClean end → each_input faults (One now) ≡ each_input faults (One src)) → run_defs.IsClean end → faults now ≡ 0
  good_now end z g k =
      let same : faults now ∷ [] ≡ faults src ∷ [] = g k in
      let one : faults now ≡ faults src = cc in
      one ∙ z

  -- ---- counts of faults

  fits_one : (q : Tree) (part : Part T) → Runs q part → faults src ≡ 0 → LeftFits back part.outcome
  fits_one q part r z = record {
    faults = λ e. rose_now r.end z r.read sides.Left (read_by sizes.ring r.end sides.Left (sym r.tells.outcome_is ∙ e));
    good = λ k. good_now r.end z r.read_good (clean_by sizes.ring r.end (subst IsClean r.tells.outcome_is k));
  }

  pub fits_all : (plans : List Plan) (parts : List (Part T)) → AllZip (λ plan part. Runs (tree_of plan) part) plans parts → faults src ≡ 0 → AllByRecursion (LeftFits back) (outcomes_of parts)
  fits_all [] [] r z = tt
  fits_all [] (part ∷ parts) r z = absurd r
  fits_all (plan ∷ plans) [] r z = absurd r
  fits_all (plan ∷ plans) (part ∷ parts) r z = (fits_one (tree_of plan) part r.0 z, fits_all plans parts r.1 z)

  reads_one : (q : Tree) (part : Part T) (c : ℕ) → Runs q part → faults src ≡ 0 → IsFileFault part.outcome → Rose c (raised_faults c (faults now))
  reads_one q part c r z k =
      let f = faulty_by sizes.ring r.end (subst IsFileFault r.tells.outcome_is k) in
      raised_some c (faults now) (rose_now r.end z r.read f.0 f.1)

  -- what the files count, with the source given back
  pub reads_all : (plans : List Plan) (parts : List (Part T)) (c : ℕ) → AllZip (λ plan part. Runs (tree_of plan) part) plans parts → faults src ≡ 0 → AllByRecursion (λ part. IsFileFault part.outcome → Rose c (raised_by c (back ∷ []))) parts
  reads_all [] [] c r z = tt
  reads_all [] (part ∷ parts) c r z = absurd r
  reads_all (plan ∷ plans) [] c r z = absurd r
  reads_all (plan ∷ plans) (part ∷ parts) c r z = (λ k. reads_one (tree_of plan) part c r.0 z k, reads_all plans parts c r.1 z)

  pub reads_good_all : (plans : List Plan) (parts : List (Part T)) (c : ℕ) → AllZip (λ plan part. Runs (tree_of plan) part) plans parts → faults src ≡ 0 → AllByRecursion (λ part. IsClean part.outcome → raised_by c (back ∷ []) ≡ c) parts
  reads_good_all [] [] c r z = tt
  reads_good_all [] (part ∷ parts) c r z = absurd r
  reads_good_all (plan ∷ plans) [] c r z = absurd r
  reads_good_all (plan ∷ plans) (part ∷ parts) c r z =
      (λ k. raised_none c (faults now) (good_now r.0.end z r.0.read_good (clean_by sizes.ring r.0.end (subst IsClean r.0.tells.outcome_is k))), reads_good_all plans parts c r.1 z)

  -- ---- the file of this name, before, open, and after

  module _ (name : List ℕ) (a b c : Option FilesView) where
    pub left_used : (ends_of : List Outcome) → Opens a name (left src) → b ≡ after_asking a name → c ≡ after_use b [] (back ∷ []) → (taken : List (List ℕ)) × GaveAll (each_input left (One src)) taken (each_input left (One now)) → AllByRecursion (LeftFits back) ends_of
        → UsesLeft name (LeftRan ends_of) a c
    left_used ends_of o asked closed g fits = record {
      count = 1;
      few = omega arith;
      given_back = back ∷ [];
      told = used_one a b c name back asked closed;
      are_of = is_of a name (left src) (left now) (faults now) (first_taken g.0 g.1) o (gave_first g.0 g.1);
      matches = record { asked_for = refl; left = back; are = refl; fits = fits };
    }
      where
        first_taken : (taken : List (List ℕ)) → GaveAll (each_input left (One src)) taken (each_input left (One now)) → List ℕ
        first_taken [] g = absurd g
        first_taken (t ∷ ts) g = t

        gave_first : (taken : List (List ℕ)) (g : GaveAll (each_input left (One src)) taken (each_input left (One now))) → left src ≡ left_before (first_taken taken g) (left now)
        gave_first [] g = absurd g
        gave_first (t ∷ ts) g = g.0

    -- what was told of the source holds of the file
    over_file : (q : Tree) (end : RunEnd) (tasks : ℕ) (out : List ℕ) (told : Option FilesView) → Opens told name (left src) → IfSome (told_by left (One src)) (λ all. GivesOver q sizes all end tasks out) → IfSome told (λ t. IfSome (contents_of t.contents (name ∷ [])) (λ all. GivesOver q sizes all end tasks out))
    over_file q end tasks out None o h = tt
    over_file q end tasks out (Some t) o h =
        let there : contents_of t.contents (name ∷ []) ≡ Some (o.0 ∷ []) = ap (option_and_then (λ bytes. Some (bytes ∷ []))) o.1 in
        let told : told_by left (One src) ≡ Some (o.0 ∷ []) = ap (option_map (λ bytes. bytes ∷ [])) o.2 in
        subst (λ x. IfSome x (λ all. GivesOver q sizes all end tasks out)) (told ∙ sym there) h

    writes_file : (q : Tree) (end : RunEnd) (tasks now_made : ℕ) (told : Option FilesView) → Opens told name (left src) → IfSome (told_by left (One src)) (λ all. now_made ≡ outs.raised_by 0 (writes_over q sizes all end tasks))
        → IfSome told (λ t. IfSome (contents_of t.contents (name ∷ [])) (λ all. now_made ≡ outs.raised_by 0 (writes_over q sizes all end tasks)))
    writes_file q end tasks now_made None o h = tt
    writes_file q end tasks now_made (Some t) o h =
        let there : contents_of t.contents (name ∷ []) ≡ Some (o.0 ∷ []) = ap (option_and_then (λ bytes. Some (bytes ∷ []))) o.1 in
        let told : told_by left (One src) ≡ Some (o.0 ∷ []) = ap (option_map (λ bytes. bytes ∷ [])) o.2 in
        subst (λ x. IfSome x (λ all. now_made ≡ outs.raised_by 0 (writes_over q sizes all end tasks))) (told ∙ sym there) h

    takes_file : (q : Tree) (tasks : ℕ) (told : Option FilesView) → Opens told name (left src) → ReadsWhole q sizes.task (limits_of sizes) tasks (left src ∷ []) (left now ∷ []) → IfSome told (λ t. TakesOf q sizes.task (limits_of sizes) tasks t.contents (name ∷ []) (back ∷ []))
    takes_file q tasks None o w = tt
    takes_file q tasks (Some t) o w = subst (λ x. ReadsWhole q sizes.task (limits_of sizes) tasks (x ∷ []) (left now ∷ [])) (o.2 ∙ sym o.1) w

    over_one : (q : Tree) (part : Part T) → Opens a name (left src) → b ≡ after_asking a name → c ≡ after_use b [] (back ∷ []) → Runs q part → RunsOver written failed made q sizes name a c part
    over_one q part o asked closed r = record {
      end = r.end;
      out = r.out;
      tells = r.tells;
      holds = r.holds;
      gives = over_file q r.end part.tasks r.out a o r.gives;
      one_write = writes_file q r.end part.tasks (made part.out) a o r.one_write;
      taken = λ side e. record {
        source = back;
        told = used_one a b c name back asked closed;
        takes = takes_file q part.tasks a o (r.whole side e);
      };
    }

    pub over_all : (plans : List Plan) (parts : List (Part T)) → Opens a name (left src) → b ≡ after_asking a name → c ≡ after_use b [] (back ∷ []) → AllZip (λ plan part. Runs (tree_of plan) part) plans parts
        → AllZip (λ plan part. RunsOver written failed made (tree_of plan) sizes name a c part) plans parts
    over_all [] [] o asked closed r = tt
    over_all [] (part ∷ parts) o asked closed r = absurd r
    over_all (plan ∷ plans) [] o asked closed r = absurd r
    over_all (plan ∷ plans) (part ∷ parts) o asked closed r = (over_one (tree_of plan) part o asked closed r.0, over_all plans parts o asked closed r.1)

-- ---- one source stays one

pub of_one : {S : Type 0} (left : S → Option (List ℕ)) (src : S) (j : Inputs S) → (taken : List (List ℕ)) × GaveAll (each_input left (One src)) taken (each_input left j) → (now : S) × (j ≡ One now)
of_one left src (One s) g = (s, refl)
of_one left src (Two s t) ([], g) = absurd g
of_one left src (Two s t) (taken ∷ more, g) = absurd (two_of_one more g.1)
  where
    two_of_one : (more : List (List ℕ)) → GaveAll [] more (left t ∷ []) → ⊥
    two_of_one [] h = h
    two_of_one (m ∷ ms) h = h

-- ---- where none is run

pub left_there : (told : Option FilesView) (name : List ℕ) (left : Option (List ℕ)) → Opens told name left → IfSome told (λ t. IsThere t.contents name)
left_there None name left o = tt
left_there (Some t) name left o = (o.0, o.1)

-- its source was given back as it was
untouched_fits : (e : Early) (source : Closed) → IsOfCreate e → source.1 ≡ 0 → LeftAlone e 1 (source ∷ [])
untouched_fits Usage source k z = absurd k
untouched_fits (QueryUnopened number) source k z = absurd k
untouched_fits (QueryUnread number) source k z = absurd k
untouched_fits (QueryFault number byte cause) source k z = absurd k
untouched_fits (Unshareable number) source k z = absurd k
untouched_fits LeftUnopened source k z = absurd k
untouched_fits (CreateFault number) source k z = record { asked_for = refl; all = refl; good = (z, tt) }
untouched_fits early.NoMemory source k z = refl

pub left_untouched : (e : Early) (name : List ℕ) (left : Option (List ℕ)) (faults : ℕ) (a b c : Option FilesView) → IsOfCreate e → Opens a name left → faults ≡ 0 → b ≡ after_asking a name → c ≡ after_use b [] ((left, faults) ∷ []) → UsesLeft name (LeftAlone e) a c
left_untouched e name left faults a b c k o z asked closed = record {
  count = 1;
  few = omega arith;
  given_back = (left, faults) ∷ [];
  told = used_one a b c name (left, faults) asked closed;
  are_of = unread_of a o;
  matches = untouched_fits e (left, faults) k z;
}
  where
    unread_of : (told : Option FilesView) → Opens told name left → IfSome told (λ t. AreOf 0 t.contents ((left, faults) ∷ []) (name ∷ []))
    unread_of None o = tt
    unread_of (Some t) o = (record { taken = []; rest = o.0; there = o.1; left = o.2 }, tt)

-- it was not opened
pub left_unopened : (o : Outcome) (e : Early) (name : List ℕ) (a c : Option FilesView) → (o ≡ OpenFault Left → e ≡ LeftUnopened) → (o ≡ outcomes.NoMemory → e ≡ early.NoMemory) → IsNotOpened Left name o a c → UsesLeft name (LeftAlone e) a c
left_unopened o e name a c f m (inl (k, s)) = subst (λ x. UsesLeft name (LeftAlone x) a c) (sym (f k)) (record {
  count = 1;
  few = omega arith;
  given_back = [];
  told = s ∙ one_lost a name;
  are_of = for_all (λ t. AreOf 0 t.contents [] (name ∷ [])) a (λ t. tt);
  matches = (refl, refl);
})
left_unopened o e name a c f m (inr (k, s)) = subst (λ x. UsesLeft name (LeftAlone x) a c) (sym (m k)) (record {
  count = 0;
  few = omega arith;
  given_back = [];
  told = s ∙ unused a;
  are_of = for_all (λ t. AreOf 0 t.contents [] (name ∷ [])) a (λ t. tt);
  matches = refl;
})

pub unopened_kinds : (o : Outcome) (e : Early) (name : List ℕ) (a c : Option FilesView) → (o ≡ OpenFault Left → e ≡ LeftUnopened) → (o ≡ outcomes.NoMemory → e ≡ early.NoMemory) → IsNotOpened Left name o a c → IsOfLeft e
unopened_kinds o e name a c f m (inl (k, s)) = subst IsOfLeft (sym (f k)) tt
unopened_kinds o e name a c f m (inr (k, s)) = subst IsOfLeft (sym (m k)) tt

pub create_of_left : (e : Early) → IsOfCreate e → IsOfLeft e
create_of_left Usage k = absurd k
create_of_left (QueryUnopened number) k = absurd k
create_of_left (QueryUnread number) k = absurd k
create_of_left (QueryFault number byte cause) k = absurd k
create_of_left (Unshareable number) k = absurd k
create_of_left LeftUnopened k = absurd k
create_of_left (CreateFault number) k = tt
create_of_left early.NoMemory k = tt

pub create_no_file : (e : Early) → IsOfCreate e → IsFileEnd e → ⊥
create_no_file Usage k h = k
create_no_file (QueryUnopened number) k h = k
create_no_file (QueryUnread number) k h = k
create_no_file (QueryFault number byte cause) k h = k
create_no_file (Unshareable number) k h = k
create_no_file LeftUnopened k h = k
create_no_file (CreateFault number) k h = h
create_no_file early.NoMemory k h = h

pub unopened_file : (o : Outcome) (e : Early) (name : List ℕ) (a c : Option FilesView) (P : Type 0) → (o ≡ outcomes.NoMemory → e ≡ early.NoMemory) → IsNotOpened Left name o a c → (o ≡ OpenFault Left → P) → IsFileEnd e → P
unopened_file o e name a c P m (inl (k, s)) p h = p k
unopened_file o e name a c P m (inr (k, s)) p h = absurd (subst IsFileEnd (m k) h)

pub unopened_unwell : (o : Outcome) (e : Early) (name : List ℕ) (a c : Option FilesView) → (o ≡ OpenFault Left → e ≡ LeftUnopened) → (o ≡ outcomes.NoMemory → e ≡ early.NoMemory) → IsNotOpened Left name o a c → IsReadWell e → ⊥
unopened_unwell o e name a c f m (inl (k, s)) h = subst IsReadWell (f k) h
unopened_unwell o e name a c f m (inr (k, s)) h = subst IsReadWell (m k) h

pub unopened_no_create : (o : Outcome) (e : Early) (name : List ℕ) (a c : Option FilesView) → (o ≡ OpenFault Left → e ≡ LeftUnopened) → (o ≡ outcomes.NoMemory → e ≡ early.NoMemory) → IsNotOpened Left name o a c → IsCreateEnd e → ⊥
unopened_no_create o e name a c f m (inl (k, s)) h = subst IsCreateEnd (f k) h
unopened_no_create o e name a c f m (inr (k, s)) h = subst IsCreateEnd (m k) h

-- no file is created behind it
pub unopened_made : (o : Outcome) (e : Early) (name : List ℕ) (a c : Option FilesView) (queries : List (List ℕ)) (asked : Option (List (List ℕ))) → (o ≡ OpenFault Left → e ≡ LeftUnopened) → (o ≡ outcomes.NoMemory → e ≡ early.NoMemory) → IsNotOpened Left name o a c
    → MadeFirst queries (EarlyMade 0 e) asked asked
unopened_made o e name a c queries asked f m (inl (k, s)) = subst (λ x. MadeFirst queries (EarlyMade 0 x) asked asked) (sym (f k)) (record { count = 0; few = omega arith; asked = no_more asked; matches = refl })
unopened_made o e name a c queries asked f m (inr (k, s)) = subst (λ x. MadeFirst queries (EarlyMade 0 x) asked asked) (sym (m k)) (lacks_first 0 queries asked)
