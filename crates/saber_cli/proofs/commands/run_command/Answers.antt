use Rattle.std.proofs.Common.{◌≡◌, [], Some, IfSome, length, ◌∙◌, ap, sym, subst}
use Rattle.saber_io.specs.Outside.{FilesView}
use Rattle.saber_plan.specs.Sizes.{limits_of}
use Rattle.saber_plan.specs.Outputs.{appended-none, raised_by}
use Rattle.saber_check.specs.Texts.{HasPlan}
use Rattle.saber_words.specs.declared.commands.Command.TheVariants.{Run}
use Rattle.saber_words.specs.Commands.{AskedRun, run, asked_command, asked_run}
use Rattle.saber_notes.specs.declared.outcome.Outcome.TheVariants.{FileCount}
use Rattle.saber_cli.specs.Texts.{BeginsFile}
use Rattle.saber_cli.specs.Answered.{AnsweredIn}
use Rattle.saber_plan.specs.Trees.{Tree, tree_of}
use Rattle.saber_cli.specs.Planned.{IsTextFault}
use Rattle.saber_cli.specs.Gives.{Gives}
use Rattle.saber_cli.specs.Leaving.{AsksFile}
use Rattle.saber_cli.specs.Due.{HasRun, IsLike, contents_of, row_names}
use Rattle.saber_cli.specs.Taken.{TakesRows, TakesWhole}
use Rattle.saber_cli.proofs.AnsweredLemmas.{for_any}
use Rattle.saber_cli.proofs.LeavesLemmas.{query_leaves, refused_leaves, rows_leaves}
use Rattle.saber_cli.proofs.TakenLemmas.{takes_whole}
use Rattle.saber_cli.proofs.RunLemmas.{gives_no_text, gives_text_fault, gives_unlike, gives_answer, run_of, asks_rows, some_map, some_both, used_contents, text_fault_after}
use Rattle.saber_cli.proofs.PlanLemmas.{query_alone, run_alone, text_alone}
use Rattle.saber_plan.specs.Tasks.{run_input}
use Rattle.saber_plan.specs.Files.{input_of}
use Rattle.saber_plan.specs.Runs.{writes_of}
use Rattle.saber_cli.specs.Endings.{end_of}
use Rattle.saber_cli.specs.Uses.{IsOfQuery}
use Rattle.saber_cli.specs.Writes.{run_writes}
use Rattle.saber_cli.proofs.WriteLemmas.{run_unwritten, same_run}
use Rattle.saber_cli.proofs.commands.run_command.Goals as goal

pub returns-in-Err-clause-written : goal.returns-in-Err-clause-written
returns-in-Err-clause-written g c =
    ([], appended-none _, for_any (λ (t : FilesView). Gives t.contents (asked_command (Run c.args.command.now)) c.in-Err.outcome 0 []) _ (λ t. gives_no_text t.contents (asked_command (Run c.args.command.now)) tt c.in-Err.outcome c.in-Err.ensures.kinds))

pub returns-in-Err-clause-leaves : goal.returns-in-Err-clause-leaves
returns-in-Err-clause-leaves g c = query_leaves _ _ (λ t. AsksFile t.contents (run (asked_run c.args.command.now)) 1) c.in-Err.outcome _ _ c.in-Err.ensures.kinds c.in-Err.ensures.uses

pub returns-in-Err-planned-clause-written : goal.returns-in-Err-planned-clause-written
returns-in-Err-planned-clause-written g c =
    let r : AskedRun = asked_run c.args.command.now in
    let err : IsTextFault c.in-Ok.text.items c.in-Err-planned.outcome = subst (λ t. IsTextFault t c.in-Err-planned.outcome) c.deref.ensures.value c.in-Err-planned.ensures.fault in
    ([], appended-none _, some_map (λ (t : FilesView). BeginsFile t.contents r.query c.in-Ok.text.items) (λ t. Gives t.contents (run r) c.in-Err-planned.outcome 0 []) _ (λ t b. gives_text_fault t.contents r c.in-Ok.text.items c.in-Err-planned.outcome b err) c.in-Ok.ensures.front)

pub returns-in-Err-planned-clause-leaves : goal.returns-in-Err-planned-clause-leaves
returns-in-Err-planned-clause-leaves g c = refused_leaves _ _ (λ t. AsksFile t.contents (run (asked_run c.args.command.now)) 1) c.in-Err-planned.outcome _ _ (text_fault_after _ c.in-Err-planned.outcome c.in-Err-planned.ensures.fault) c.in-Ok.ensures.uses

pub returns-then-streams-given-clause-written : goal.returns-then-streams-given-clause-written
returns-then-streams-given-clause-written g c =
    let r : AskedRun = asked_run c.args.command.now in
    let q : Tree = tree_of c.in-Ok-planned.plan in
    let ok : HasPlan c.in-Ok.text.items q = subst (λ t. HasPlan t q) c.deref.ensures.value c.in-Ok-planned.ensures.plan in
    let streams : length c.streams.result.now ≡ length q.streams = ap length c.streams.ensures.is in
    let given : c.file_count-given.result ≡ length (row_names r) = c.file_count-given.ensures in
    let unlike : IsLike r q → ⊥ = λ l. c.if-streams-given.true (streams ∙ l ∙ sym given) in (
      [],
      appended-none _,
      some_map (λ (t : FilesView). BeginsFile t.contents r.query c.in-Ok.text.items) (λ t. Gives t.contents (run r) (FileCount (length c.streams.result.now) c.file_count-given.result) 0 []) _
          (λ t b. subst (λ o. Gives t.contents (run r) o 0 []) (λ i. FileCount (sym streams i) (sym given i)) (gives_unlike t.contents r q (run_of t.contents r c.in-Ok.text.items q b ok) unlike)) c.in-Ok.ensures.front,
    )

pub returns-clause-written : goal.returns-clause-written
returns-clause-written g c =
    let r : AskedRun = asked_run c.args.command.now in
    let q : Tree = tree_of c.in-Ok-planned.plan in
    let o = c.run_rows.result.outcome in
    let tasks = c.run_rows.result.tasks in
    let w = c.run_rows.ensures.written in
    let ok : HasPlan c.in-Ok.text.items q = subst (λ t. HasPlan t q) c.deref.ensures.value c.in-Ok-planned.ensures.plan in
    let like : IsLike r q = sym (ap length c.streams.ensures.is) ∙ c.if-streams-given.false ∙ c.file_count-given.ensures in (
      w.0,
      w.1,
      some_both (λ (t : FilesView). BeginsFile t.contents r.query c.in-Ok.text.items) (λ t. AnsweredIn q r.sizes.task r.sizes.ring (limits_of r.sizes) r.sizes.flush (contents_of t.contents (row_names r)) o tasks w.0) (λ t. Gives t.contents (run r) o tasks w.0) _
          (λ t b a. gives_answer t.contents r q o tasks w.0 (run_of t.contents r c.in-Ok.text.items q b ok) like c.run_rows.ensures.kinds a) c.in-Ok.ensures.front
          (used_contents (λ f. AnsweredIn q r.sizes.task r.sizes.ring (limits_of r.sizes) r.sizes.flush (contents_of f (row_names r)) o tasks w.0) _ _ _ c.in-Ok.ensures.uses
          w.2),
    )

pub returns-clause-leaves : goal.returns-clause-leaves
returns-clause-leaves g c =
    let r : AskedRun = asked_run c.args.command.now in
    let q : Tree = tree_of c.in-Ok-planned.plan in
    let ok : HasPlan c.in-Ok.text.items q = subst (λ t. HasPlan t q) c.deref.ensures.value c.in-Ok-planned.ensures.plan in
    let like : IsLike r q = sym (ap length c.streams.ensures.is) ∙ c.if-streams-given.false ∙ c.file_count-given.ensures in
    let rows = some_map (λ (t : FilesView). BeginsFile t.contents r.query c.in-Ok.text.items) (λ t. AsksFile t.contents (run r) 1) (g.F.Files.told c.args.files.now) (λ t b. asks_rows t.contents r q (run_of t.contents r c.in-Ok.text.items q b ok) like) c.in-Ok.ensures.front in
    rows_leaves r c.run_rows.result.outcome _ _ _ rows c.in-Ok.ensures.uses c.run_rows.ensures.uses

pub returns-clause-taken : goal.returns-clause-taken
returns-clause-taken g c asked_for e side k =
    let told = g.F.Files.told in
    let r : AskedRun = asked_run c.args.command.now in
    let both : run r ≡ run asked_for = e in
    let same : r ≡ asked_for = cc in
    let q : Tree = tree_of c.in-Ok-planned.plan in
    let tasks = c.run_rows.result.tasks in
    let ok : HasPlan c.in-Ok.text.items q = subst (λ t. HasPlan t q) c.deref.ensures.value c.in-Ok-planned.ensures.plan in
    let has = some_map (λ (t : FilesView). BeginsFile t.contents r.query c.in-Ok.text.items) (λ t. HasRun t.contents r q) (told c.args.files.now) (λ t b. run_of t.contents r c.in-Ok.text.items q b ok) c.in-Ok.ensures.front in
    let rows : TakesRows q r.sizes.task (limits_of r.sizes) tasks (row_names r) (told c.query_text.new.files) (told c.run_rows.new.files) = c.run_rows.ensures.taken side k in
    subst (λ a. IfSome (told c.args.files.now) (λ (t : FilesView). (u : FilesView) × (told c.run_rows.new.files ≡ Some u) × TakesWhole a tasks t u)) same
    (takes_whole r q tasks (told c.args.files.now) (told c.query_text.new.files) (told c.run_rows.new.files) has c.in-Ok.ensures.uses rows)

pub returns-in-Err-clause-alone : goal.returns-in-Err-clause-alone
returns-in-Err-clause-alone g c k = query_alone c.in-Err.outcome c.in-Err.ensures.kinds k

pub returns-in-Err-planned-clause-alone : goal.returns-in-Err-planned-clause-alone
returns-in-Err-planned-clause-alone g c k = text_alone _ c.in-Err-planned.outcome c.in-Err-planned.ensures.fault k

pub returns-clause-alone : goal.returns-clause-alone
returns-clause-alone g c k = run_alone c.run_rows.result.outcome c.run_rows.ensures.kinds k

pub returns-in-Err-clause-writes : goal.returns-in-Err-clause-writes
returns-in-Err-clause-writes g c = run_unwritten (asked_run c.args.command.now) _ c.in-Err.outcome _ (λ e. subst IsOfQuery e c.in-Err.ensures.kinds)

pub returns-in-Err-planned-clause-writes : goal.returns-in-Err-planned-clause-writes
returns-in-Err-planned-clause-writes g c = run_unwritten (asked_run c.args.command.now) _ c.in-Err-planned.outcome _ (λ e. subst (IsTextFault _) e c.in-Err-planned.ensures.fault)

pub returns-then-streams-given-clause-writes : goal.returns-then-streams-given-clause-writes
returns-then-streams-given-clause-writes g c = run_unwritten (asked_run c.args.command.now) _ (FileCount (length c.streams.result.now) c.file_count-given.result) _ (λ e. cc)

pub returns-clause-writes : goal.returns-clause-writes
returns-clause-writes g c =
    let told = g.F.Files.told in
    let r : AskedRun = asked_run c.args.command.now in
    let q : Tree = tree_of c.in-Ok-planned.plan in
    let o = c.run_rows.result.outcome in
    let tasks = c.run_rows.result.tasks in
    let had = g.K.Sink.writes c.args.sink in
    let now = g.K.Sink.writes c.run_rows.result.sink in
    let ok : HasPlan c.in-Ok.text.items q = subst (λ t. HasPlan t q) c.deref.ensures.value c.in-Ok-planned.ensures.plan in
    let over = used_contents (λ f. IfSome (contents_of f (row_names r)) (λ all. now ≡ raised_by had (run_writes r q all o tasks))) _ _ _ c.in-Ok.ensures.uses c.run_rows.ensures.writes in
    some_both (λ (t : FilesView). BeginsFile t.contents r.query c.in-Ok.text.items) (λ t. IfSome (contents_of t.contents (row_names r)) (λ all. now ≡ raised_by had (run_writes r q all o tasks)))
    (λ t. (p : Tree) → HasRun t.contents r p → IfSome (contents_of t.contents (row_names r)) (λ all. now ≡ raised_by had (run_writes r p all o tasks))) (told c.args.files.now)
    (λ t b h. same_run t.contents r q o tasks had now (contents_of t.contents (row_names r)) (run_of t.contents r c.in-Ok.text.items q b ok) h) c.in-Ok.ensures.front over
