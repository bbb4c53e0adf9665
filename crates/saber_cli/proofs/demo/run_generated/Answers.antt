use Rattle.std.proofs.Common.{◌≡◌, refl, sym, ◌∙◌, ap, subst, arith}
use Rattle.saber_plan.specs.Trees.{tree_of}
use Rattle.saber_words.specs.Demo.{asked_demo}
use Rattle.saber_dispatch.specs.declared.inputs.Inputs.TheVariants.{One}
use Rattle.saber_plan.specs.declared.ends.RunEnd.TheVariants.{AllRead, WriteFault}
use Rattle.saber_demo.specs.Rows.{generated_file}
use Rattle.saber_demo.specs.TextSinks.{TextState}
use Rattle.saber_cli.specs.Tells.{IsAnswer}
use Rattle.saber_cli.proofs.DemoLemmas.{IsRunOf, end_is, run_gives, demo_read, whole_answer, written_is}
use Rattle.saber_cli.proofs.demo.run_generated.Goals as goal

pub is_whole-requires : goal.is_whole-requires
is_whole-requires g c =
    let d = asked_demo c.args.command.now in
    let q = tree_of c.in-Ok.plan in
    let ran = c.engine-end.ensures.gives in
    let end = c.engine-end.result.end in
    let rows : c.new-rows.result ≡ generated_file d.seed d.rows = c.new-rows.ensures ∙ (λ i. generated_file (c.from.ensures i) (c.from-2.ensures i)) in
    let run : IsRunOf d q c.new-rows.result = record { plan = c.in-Ok.ensures; rows = rows } in
    let gives = run_gives d q c.new-rows.result end c.engine-end.result.tasks ran.0 c.requires run ran.2 in
    let no_write : end ≡ WriteFault → ⊥ = λ e. absurd (omega (arith, c.engine-end.ensures.write e)) in
    end_is d.sizes.task d.sizes.ring (demo_read d) end (One c.new-rows.result) c.engine-end.new.inputs c.requires.fit.ring.0 refl gives.ends c.engine-end.ensures.read no_write

pub returns : goal.returns
returns g c = record {
  answer = λ whole.
      let d = asked_demo c.args.command.now in
      let q = tree_of c.in-Ok.plan in
      let ran = c.engine-end.ensures.gives in
      let end = c.engine-end.result.end in
      let tasks = c.engine-end.result.tasks in
      let rows : c.new-rows.result ≡ generated_file d.seed d.rows = c.new-rows.ensures ∙ (λ i. generated_file (c.from.ensures i) (c.from-2.ensures i)) in
      let run : IsRunOf d q c.new-rows.result = record { plan = c.in-Ok.ensures; rows = rows } in
      let gives = run_gives d q c.new-rows.result end tasks ran.0 c.requires run ran.2 in
      let all : end ≡ AllRead = c.is_whole.ensures.0 whole in
      let out = written_is c.new-text.result.written c.engine-end.result.sink.written ran.0 (ap (λ (t : TextState). t.written) c.new-text.ensures) ran.1 in
      subst (λ t. IsAnswer d t tasks) (sym out) (whole_answer d d.sizes.ring tasks end ran.0 c.requires.fit.task.0 all gives);
}
