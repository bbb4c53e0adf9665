use Rattle.std.proofs.Common.{◌≡◌, ℕ, [], ◌∙◌, refl, subst}
use Rattle.saber_io.specs.Outside.{FilesView}
use Rattle.saber_plan.specs.Outputs.{appended-none}
use Rattle.saber_plan.specs.Trees.{Tree, tree_of}
use Rattle.saber_words.specs.Commands.{AskedRun, asked_run}
use Rattle.saber_words.specs.Chain.{AskedChain, asked_chain}
use Rattle.saber_plan.specs.declared.ends.RunEnd.{RunEnd}
use Rattle.saber_chain.specs.Sinks.{seen_of}
use Rattle.saber_cli.specs.Outcomes.{IsOfChain, IsOfPlans}
use Rattle.saber_cli.specs.Due.{contents_of, first_run, row_names}
use Rattle.saber_cli.specs.Chained.{AsksChainRows, ChainsOver, CutTakesChain, HasPlans, HasReason, not_run}
use Rattle.saber_cli.specs.Chaining.{ChainedIn, ChainedTold, CutTakes, UsesChainRows}
use Rattle.saber_cli.proofs.FileLemmas.{keeps_rose}
use Rattle.saber_cli.proofs.RunLemmas.{some_both, some_map}
use Rattle.saber_cli.proofs.ChainLeaveLemmas.{chain_rows_leave}
use Rattle.saber_cli.proofs.ChainRunLemmas.{chain_over, chained_on, cut_takes, read_contents}
use Rattle.saber_cli.proofs.chains.chain_command.Goals as goal

pub returns-in-Err-clause-written : goal.returns-in-Err-clause-written
returns-in-Err-clause-written g c = ([], appended-none _)

pub returns-in-Err-clause-chained : goal.returns-in-Err-clause-chained
returns-in-Err-clause-chained g c =
    let a : AskedChain = asked_chain c.args.command.now in
    let o = c.in-Err.outcome in
    let w = seen_of g.K.Sink.written g.K.Sink.writes c.args.sink in
    let new = g.F.Files.told c.chain_plans.new.files in
    some_map (λ (t : FilesView). HasReason t.contents a o) (λ t. ChainsOver t.contents (CutTakesChain a t new) a o 0 w w) _ (λ t h. not_run h refl refl) c.in-Err.ensures.reason

pub returns-in-Err-clause-kinds : goal.returns-in-Err-clause-kinds
returns-in-Err-clause-kinds g c e = subst IsOfPlans e c.in-Err.ensures.kinds

pub returns-clause-chained : goal.returns-clause-chained
returns-clause-chained g c =
    let a : AskedChain = asked_chain c.args.command.now in
    let p : Tree = tree_of c.in-Ok.plans.first in
    let q : Tree = tree_of c.in-Ok.plans.second in
    let o = c.chain_rows.result.outcome in
    let tasks = c.chain_rows.result.tasks in
    let told = g.F.Files.told in
    let w = seen_of g.K.Sink.written g.K.Sink.writes c.args.sink in
    let v = seen_of g.K.Sink.written g.K.Sink.writes c.chain_rows.result.sink in
    let names = row_names (first_run a) in
    let old = told c.args.files.now in
    let mid = told c.chain_plans.new.files in
    let new = told c.chain_rows.new.files in
    let leaves : RunEnd → ℕ → Type 0 = CutTakes p a.sizes names mid new in
    let runs = read_contents (λ files. ChainedIn p q a.sizes leaves (contents_of files names) w v o tasks) a.first a.second old mid c.in-Ok.ensures.read c.chain_rows.ensures.runs in
    let told_on =
    some_both (λ (t : FilesView). (e : RunEnd) (n : ℕ) → leaves e n → CutTakesChain a t new p e n) (λ t. ChainedIn p q a.sizes leaves (contents_of t.contents names) w v o tasks)
    (λ t. ChainedIn p q a.sizes (CutTakesChain a t new p) (contents_of t.contents names) w v o tasks) old
    (λ t f k. chained_on p q a.sizes leaves (CutTakesChain a t new p) (contents_of t.contents names) w v o tasks f k) (cut_takes a p old mid new c.in-Ok.ensures.read) runs in
    some_both (λ (t : FilesView). HasPlans t.contents a p q) (λ t. ChainedIn p q a.sizes (CutTakesChain a t new p) (contents_of t.contents names) w v o tasks) (λ t. ChainsOver t.contents (CutTakesChain a t new) a o tasks w v) old
    (λ t u k. chain_over t.contents (CutTakesChain a t new) a p q o tasks w v u c.in-Ok.ensures.chains c.in-Ok.ensures.like k) c.in-Ok.ensures.plans told_on

pub returns-clause-kinds : goal.returns-clause-kinds
returns-clause-kinds g c e = subst IsOfChain e c.chain_rows.ensures.kinds

pub returns-clause-leaves : goal.returns-clause-leaves
returns-clause-leaves g c =
    let a : AskedChain = asked_chain c.args.command.now in
    let p : Tree = tree_of c.in-Ok.plans.first in
    let q : Tree = tree_of c.in-Ok.plans.second in
    let o = c.chain_rows.result.outcome in
    let told = g.F.Files.told in
    let due = some_map (λ (t : FilesView). HasPlans t.contents a p q) (λ t. AsksChainRows t.contents a) (told c.args.files.now) (λ t u. record { first = p; second = q; plans = u; chains = c.in-Ok.ensures.chains; like = c.in-Ok.ensures.like }) c.in-Ok.ensures.plans in
    chain_rows_leave a o _ _ _ due c.in-Ok.ensures.read c.chain_rows.ensures.uses

pub returns-clause-cause : goal.returns-clause-cause
returns-clause-cause g c k = keeps_rose _ _ _ c.in-Ok.ensures.count (c.chain_rows.ensures.cause k)

pub returns-clause-read_good : goal.returns-clause-read_good
returns-clause-read_good g c k = c.chain_rows.ensures.read_good k ∙ c.in-Ok.ensures.read_good tt
