use Rattle.std.proofs.Common.{◌≡◌, ◌∙◌, ◌∷◌, ℕ, List, [], sym, subst}
use Rattle.std.specs.List.{AllByRecursion, AllZip}
use Rattle.saber_plan.specs.Outputs.{Rose}
use Rattle.saber_plan.specs.Trees.{tree_of}
use Rattle.saber_dispatch.specs.declared.inputs.Inputs.TheVariants.{One}
use Rattle.saber_engine.specs.Sources.{each_input, GaveAll}
use Rattle.saber_cli.specs.Outcomes.{IsClean, IsFileFault}
use Rattle.saber_cli.specs.RowFiles.{raised_by, source_back, after_use}
use Rattle.saber_top.specs.Shared.{RunsPart, outcomes_of, parts_in}
use Rattle.saber_top.proofs.LeftLemmas.{create_no_file, create_of_left, fits_all, left_there, left_unopened, left_untouched, left_used, of_one, over_all, reads_all, raised_none, reads_good_all, unopened_file, unopened_kinds, unopened_made, unopened_no_create, unopened_unwell}
use Rattle.saber_top.proofs.left.run_left.Goals as goal

-- ---- the left file is not opened

pub returns-in-Err-clause-uses : goal.returns-in-Err-clause-uses
returns-in-Err-clause-uses g c = left_unopened c.in-Err.outcome c.unopened.result c.args.left.now _ _ c.unopened.ensures.file c.unopened.ensures.memory c.in-Err.ensures.refused

pub returns-in-Err-clause-kinds : goal.returns-in-Err-clause-kinds
returns-in-Err-clause-kinds g c = unopened_kinds c.in-Err.outcome c.unopened.result c.args.left.now _ _ c.unopened.ensures.file c.unopened.ensures.memory c.in-Err.ensures.refused

pub returns-in-Err-clause-file : goal.returns-in-Err-clause-file
returns-in-Err-clause-file g c k = unopened_file c.in-Err.outcome c.unopened.result c.args.left.now _ _ _ c.unopened.ensures.memory c.in-Err.ensures.refused c.in-Err.ensures.cause k

pub returns-in-Err-clause-file_good : goal.returns-in-Err-clause-file_good
returns-in-Err-clause-file_good g c k = absurd (unopened_unwell c.in-Err.outcome c.unopened.result c.args.left.now _ _ c.unopened.ensures.file c.unopened.ensures.memory c.in-Err.ensures.refused k)

pub returns-in-Err-clause-cause : goal.returns-in-Err-clause-cause
returns-in-Err-clause-cause g c k = absurd (unopened_no_create c.in-Err.outcome c.unopened.result c.args.left.now _ _ c.unopened.ensures.file c.unopened.ensures.memory c.in-Err.ensures.refused k)

pub returns-in-Err-clause-there_early : goal.returns-in-Err-clause-there_early
returns-in-Err-clause-there_early g c k = absurd (unopened_no_create c.in-Err.outcome c.unopened.result c.args.left.now _ _ c.unopened.ensures.file c.unopened.ensures.memory c.in-Err.ensures.refused k)

pub returns-in-Err-clause-early : goal.returns-in-Err-clause-early
returns-in-Err-clause-early g c = unopened_made c.in-Err.outcome c.unopened.result c.args.left.now _ _ _ _ c.unopened.ensures.file c.unopened.ensures.memory c.in-Err.ensures.refused

-- ---- all were run

pub returns-in-Ok-run_source-clause-parts : goal.returns-in-Ok-run_source-clause-parts
returns-in-Ok-run_source-clause-parts g c =
    let left = g.F.Src.Source.left in
    let faults = g.F.Src.Source.faults in
    let src = c.in-Ok.source in
    let told = g.F.Files.told in
    let a = told c.args.files.now in
    let b = told c.open_row.new.files in
    let new = told c.close_rows.new.files in
    let name = c.args.left.now in
    let written = g.U.Out.Sink.written in
    let failed = g.U.Out.Sink.faults in
    let made = g.U.Out.Sink.writes in
    let sizes = c.args.sizes.now in
    let plans = c.args.plans.now in
    let parts = parts_in c.in-Ok-run_source.parts in
    let one = of_one left src c.run_source.new.inputs c.in-Ok-run_source.ensures.takes in
    let runs = subst (λ i. AllZip (λ plan part. RunsPart left faults written failed made (tree_of plan) sizes (One src) i part) plans parts) one.1 c.in-Ok-run_source.ensures.parts in
    let closed : new ≡ after_use b [] (source_back left faults one.0 ∷ []) = subst (λ i. new ≡ after_use b [] (each_input (source_back left faults) i)) one.1 c.close_rows.ensures.closed in
    over_all left faults written failed made sizes src one.0 name a b new plans parts c.in-Ok.ensures.opens c.in-Ok.ensures.asked closed runs

pub returns-in-Ok-run_source-clause-there : goal.returns-in-Ok-run_source-clause-there
returns-in-Ok-run_source-clause-there g c = left_there _ _ _ c.in-Ok.ensures.opens

pub returns-in-Ok-run_source-clause-used : goal.returns-in-Ok-run_source-clause-used
returns-in-Ok-run_source-clause-used g c =
    let left = g.F.Src.Source.left in
    let faults = g.F.Src.Source.faults in
    let src = c.in-Ok.source in
    let told = g.F.Files.told in
    let a = told c.args.files.now in
    let b = told c.open_row.new.files in
    let new = told c.close_rows.new.files in
    let name = c.args.left.now in
    let written = g.U.Out.Sink.written in
    let failed = g.U.Out.Sink.faults in
    let made = g.U.Out.Sink.writes in
    let sizes = c.args.sizes.now in
    let plans = c.args.plans.now in
    let parts = parts_in c.in-Ok-run_source.parts in
    let one = of_one left src c.run_source.new.inputs c.in-Ok-run_source.ensures.takes in
    let runs = subst (λ i. AllZip (λ plan part. RunsPart left faults written failed made (tree_of plan) sizes (One src) i part) plans parts) one.1 c.in-Ok-run_source.ensures.parts in
    let closed : new ≡ after_use b [] (source_back left faults one.0 ∷ []) = subst (λ i. new ≡ after_use b [] (each_input (source_back left faults) i)) one.1 c.close_rows.ensures.closed in
    let taken = subst (λ i. (taken : List (List ℕ)) × GaveAll (each_input left (One src)) taken (each_input left i)) one.1 c.in-Ok-run_source.ensures.takes in
    left_used left faults written failed made sizes src one.0 name a b new (outcomes_of parts) c.in-Ok.ensures.opens c.in-Ok.ensures.asked closed taken (fits_all left faults written failed made sizes src one.0 plans parts runs c.in-Ok.ensures.fresh)

pub returns-in-Ok-run_source-clause-reads : goal.returns-in-Ok-run_source-clause-reads
returns-in-Ok-run_source-clause-reads g c =
    let left = g.F.Src.Source.left in
    let faults = g.F.Src.Source.faults in
    let src = c.in-Ok.source in
    let told = g.F.Files.told in
    let a = told c.args.files.now in
    let b = told c.open_row.new.files in
    let new = told c.close_rows.new.files in
    let name = c.args.left.now in
    let written = g.U.Out.Sink.written in
    let failed = g.U.Out.Sink.faults in
    let made = g.U.Out.Sink.writes in
    let sizes = c.args.sizes.now in
    let plans = c.args.plans.now in
    let parts = parts_in c.in-Ok-run_source.parts in
    let one = of_one left src c.run_source.new.inputs c.in-Ok-run_source.ensures.takes in
    let runs = subst (λ i. AllZip (λ plan part. RunsPart left faults written failed made (tree_of plan) sizes (One src) i part) plans parts) one.1 c.in-Ok-run_source.ensures.parts in
    let counted : g.F.Files.faults c.close_rows.new.files ≡ raised_by (g.F.Files.faults c.open_row.new.files) (source_back left faults one.0 ∷ []) = subst (λ i. g.F.Files.faults c.close_rows.new.files ≡ raised_by (g.F.Files.faults c.open_row.new.files) (each_input (source_back left faults) i)) one.1 c.close_rows.ensures.count in
    let old = g.F.Files.faults c.args.files.now in
    let mid = g.F.Files.faults c.open_row.new.files in
    let now = g.F.Files.faults c.close_rows.new.files in
    let all = reads_all left faults written failed made sizes src one.0 plans parts mid runs c.in-Ok.ensures.fresh in
    subst (λ n. AllByRecursion (λ part. IsFileFault part.outcome → Rose n now) parts) c.in-Ok.ensures.good (subst (λ n. AllByRecursion (λ part. IsFileFault part.outcome → Rose mid n) parts) (sym counted) all)

pub returns-in-Ok-run_source-clause-reads_good : goal.returns-in-Ok-run_source-clause-reads_good
returns-in-Ok-run_source-clause-reads_good g c =
    let left = g.F.Src.Source.left in
    let faults = g.F.Src.Source.faults in
    let src = c.in-Ok.source in
    let told = g.F.Files.told in
    let a = told c.args.files.now in
    let b = told c.open_row.new.files in
    let new = told c.close_rows.new.files in
    let name = c.args.left.now in
    let written = g.U.Out.Sink.written in
    let failed = g.U.Out.Sink.faults in
    let made = g.U.Out.Sink.writes in
    let sizes = c.args.sizes.now in
    let plans = c.args.plans.now in
    let parts = parts_in c.in-Ok-run_source.parts in
    let one = of_one left src c.run_source.new.inputs c.in-Ok-run_source.ensures.takes in
    let runs = subst (λ i. AllZip (λ plan part. RunsPart left faults written failed made (tree_of plan) sizes (One src) i part) plans parts) one.1 c.in-Ok-run_source.ensures.parts in
    let counted : g.F.Files.faults c.close_rows.new.files ≡ raised_by (g.F.Files.faults c.open_row.new.files) (source_back left faults one.0 ∷ []) = subst (λ i. g.F.Files.faults c.close_rows.new.files ≡ raised_by (g.F.Files.faults c.open_row.new.files) (each_input (source_back left faults) i)) one.1 c.close_rows.ensures.count in
    let old = g.F.Files.faults c.args.files.now in
    let mid = g.F.Files.faults c.open_row.new.files in
    let now = g.F.Files.faults c.close_rows.new.files in
    let all = reads_good_all left faults written failed made sizes src one.0 plans parts mid runs c.in-Ok.ensures.fresh in
    subst (λ n. AllByRecursion (λ part. IsClean part.outcome → now ≡ n) parts) c.in-Ok.ensures.good (subst (λ n. AllByRecursion (λ part. IsClean part.outcome → n ≡ mid) parts) (sym counted) all)

-- ---- none was

pub returns-in-Err-run_source-clause-there_early : goal.returns-in-Err-run_source-clause-there_early
returns-in-Err-run_source-clause-there_early g c k = left_there _ _ _ c.in-Ok.ensures.opens

pub returns-in-Err-run_source-clause-kinds : goal.returns-in-Err-run_source-clause-kinds
returns-in-Err-run_source-clause-kinds g c = create_of_left c.in-Err-run_source.early c.in-Err-run_source.ensures.kinds

pub returns-in-Err-run_source-clause-uses : goal.returns-in-Err-run_source-clause-uses
returns-in-Err-run_source-clause-uses g c =
    let left = g.F.Src.Source.left in
    let faults = g.F.Src.Source.faults in
    let src = c.in-Ok.source in
    let told = g.F.Files.told in
    let a = told c.args.files.now in
    let b = told c.open_row.new.files in
    let new = told c.close_rows-in-Err-run_source.new.files in
    let name = c.args.left.now in
    let closed : new ≡ after_use b [] (source_back left faults src ∷ []) = subst (λ i. new ≡ after_use b [] (each_input (source_back left faults) i)) c.in-Err-run_source.ensures.untouched c.close_rows-in-Err-run_source.ensures.closed in
    left_untouched c.in-Err-run_source.early name (left src) (faults src) a b new c.in-Err-run_source.ensures.kinds c.in-Ok.ensures.opens c.in-Ok.ensures.fresh c.in-Ok.ensures.asked closed

pub returns-in-Err-run_source-clause-file : goal.returns-in-Err-run_source-clause-file
returns-in-Err-run_source-clause-file g c k = absurd (create_no_file c.in-Err-run_source.early c.in-Err-run_source.ensures.kinds k)

pub returns-in-Err-run_source-clause-file_good : goal.returns-in-Err-run_source-clause-file_good
returns-in-Err-run_source-clause-file_good g c k =
    let left = g.F.Src.Source.left in
    let faults = g.F.Src.Source.faults in
    let src = c.in-Ok.source in
    let mid = g.F.Files.faults c.open_row.new.files in
    let now = g.F.Files.faults c.close_rows-in-Err-run_source.new.files in
    let raised : now ≡ raised_by mid (source_back left faults src ∷ []) = subst (λ i. now ≡ raised_by mid (each_input (source_back left faults) i)) c.in-Err-run_source.ensures.untouched c.close_rows-in-Err-run_source.ensures.count in
    raised ∙ raised_none mid (faults src) c.in-Ok.ensures.fresh ∙ c.in-Ok.ensures.good
