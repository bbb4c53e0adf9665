-- That the rows of what was given are the first ones of the inputs, where these tell what they have.
use Rattle.std.proofs.Common.{◌≡◌, ℕ, ◌*◌, List, [], ◌∷◌, map, take, refl, sym, ◌∙◌, ap, subst}
use Rattle.std.specs.Prelude.{Option, Some, None, IfSome, option_map}
use Rattle.saber_plan.specs.declared.sizes.Sizes.{Sizes}
use Rattle.saber_plan.specs.Files.{input_of as rows_of_files}
use Rattle.saber_plan.specs.Inputs.{Input}
use Rattle.saber_plan.specs.Rows.{Read}
use Rattle.saber_plan.specs.Sizes.{limits_of}
use Rattle.saber_plan.specs.Tasks.{task_count, run_input}
use Rattle.saber_plan.specs.Trees.{Tree}
use Rattle.saber_assembly.specs.declared.work.RunData.{RunData}
use Rattle.saber_assembly.specs.Works.{HasFirstRows, input_of}
use Rattle.saber_assembly.specs.WorkLaws.{upto_rows}
use Rattle.saber_dispatch.specs.declared.cutter.Cutter.{Cutter}
use Rattle.saber_dispatch.specs.Cutting.{Cuts, fresh}
use Rattle.saber_dispatch.specs.Readings.{Reading, one, two, Suits, ReadMoves}
use Rattle.saber_dispatch.specs.Sources.{Lefts}
use Rattle.saber_dispatch.specs.Telling as telling
use Rattle.saber_dispatch.proofs.TaskBlocks.{blocks_are_tasks}
use Rattle.saber_engine.specs.Sources.{files_left, rows_left}

-- what is known where it is made of what is known
mapped : {A B : Type 0} (P : B → Type 0) (f : A → B) (o : Option A) → IfSome o (λ x. P (f x)) → IfSome (option_map f o) P
mapped P f None h = tt
mapped P f (Some x) h = h

-- where all tell what they have left
if_left : (P : List (List ℕ) → Type 0) (lefts : Lefts) → ((files : List (List ℕ)) → lefts ≡ map Some files → P files) → IfSome (files_left lefts) P
if_left P [] h = h [] refl
if_left P (None ∷ more) h = tt
if_left P (Some b ∷ more) h =
    mapped P (λ others. b ∷ others) (files_left more) (if_left (λ others. P (b ∷ others)) more (λ files e. h (b ∷ files) (ap (λ l. Some b ∷ l) e)))

-- there are as many as the reader has that took of them
moved_suits : (out : Read → Read) (a b : Reading) (had has : Lefts) → ReadMoves out a b had has → Suits a had
moved_suits out (one a) (one b) (x ∷ []) has m = tt
moved_suits out (two a) (two b) (x ∷ y ∷ []) has m = tt
moved_suits out a b had has m = absurd m

-- the data know of no rows but those filled
pub none_known : {O : Type 0} (told : RunData O) (d : ℕ) → told.all ≡ None → HasFirstRows told d
none_known told d none = subst (λ o. IfSome o (λ rows. told.rows ≡ take (d * told.size) rows)) (sym none) tt

module _ {O : Type 0} (plan : O → Tree) (s : Sizes) (had has : Lefts) (c : Cutter) (told : RunData O) (d : ℕ) (cuts : Cuts (plan told.operator) s had has c (input_of told)) (size : told.size ≡ s.task) (count : d ≡ c.number) where
  abbrev q : Tree
  q = plan told.operator

  -- over files with these bytes
  first_of : (files : List (List ℕ)) → had ≡ map Some files → told.rows ≡ take (d * told.size) (rows_of_files q (limits_of s) files).rows
  first_of files e =
      let all : Read = rows_of_files q (limits_of s) files in
      let suits : Suits (fresh q (limits_of s)) had = moved_suits _ _ _ had has cuts.took.moves in
      let are : telling.AreTasks q s c (input_of told) all =
      blocks_are_tasks q s files has c (input_of told) (subst (Suits (fresh q (limits_of s))) e suits) (subst (λ l. Cuts q s l has c (input_of told)) e cuts) in
      let same : task_count s.task (input_of told) ≡ d = sym (count ∙ cuts.count) in
      ap (λ (r : Input). r.rows) are.tasks ∙ upto_rows s.task (run_input q s.flush all) (task_count s.task (input_of told)) cuts.sizes.task.0
      ∙ (λ i. take (same i * sym size i) all.rows)

  -- the rows of the blocks that were given are those of the first tasks of what the inputs had
  pub given_first : told.all ≡ rows_left plan s had told.operator → HasFirstRows told d
  given_first known =
      subst (λ o. IfSome o (λ rows. told.rows ≡ take (d * told.size) rows)) (sym known)
      (mapped (λ rows. told.rows ≡ take (d * told.size) rows) (λ files. (rows_of_files q (limits_of s) files).rows) (files_left had)
      (if_left (λ files. told.rows ≡ take (d * told.size) (rows_of_files q (limits_of s) files).rows) had first_of))
