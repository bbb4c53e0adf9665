use Rattle.std.proofs.Common.{◌≡◌, ℕ, List, [], Some, Err, map, Bor, sym, ◌∙◌, ap, subst}
use Rattle.saber_io.specs.Outside.{FilesView}
use Rattle.saber_plan.specs.Outputs.{appended-none}
use Rattle.saber_words.specs.declared.commands.Command.{Command}
use Rattle.saber_words.specs.declared.commands.Command.TheVariants.{Run, Check}
use Rattle.saber_words.specs.Commands.{run, demo, chain, asked_command, command_of}
use Rattle.saber_words.specs.Chain.{asked_chain}
use Rattle.saber_words.specs.Demo.{asked_demo}
use Rattle.saber_chain.specs.Sinks.{seen_of}
use Rattle.saber_cli.specs.Gives.{Gives}
use Rattle.saber_cli.specs.Tells.{TellsRun}
use Rattle.saber_cli.specs.Outcomes.{IsOfSecond}
use Rattle.saber_cli.specs.Chained.{AnswersChain}
use Rattle.saber_cli.specs.Leaving.{LeavesTold}
use Rattle.saber_cli.proofs.PlanLemmas.{put_alone}
use Rattle.saber_cli.proofs.ChainRunLemmas.{unread_alone, unread_chained}
use Rattle.saber_cli.proofs.AnsweredLemmas.{for_any}
use Rattle.saber_cli.proofs.RunLemmas.{some_map}
use Rattle.saber_cli.proofs.WordLemmas.{Answers, answers_of, unread_answers, unread_leave, unread_not_read}
use Rattle.saber_cli.proofs.DemoLemmas.{tell_leaves, told_kinds, told_over, unread_told}
use Rattle.saber_cli.specs.Writes.{WritesTold}
use Rattle.saber_cli.proofs.WriteLemmas.{unread_unwritten}
use Rattle.saber_cli.proofs.words.run_words.Goals as goal

pub returns-in-Err-clause-written : goal.returns-in-Err-clause-written
returns-in-Err-clause-written g c =
    let ws : List (List ℕ) = map (λ (word : Bor (List ℕ)). word.now) c.args.words.now in (
      [],
      appended-none _,
      λ n. for_any (λ (t : FilesView). Answers ws t.contents c.unread.result 0 []) _
          (λ t. subst (λ o. Answers ws t.contents o 0 []) (sym c.unread.ensures) (unread_answers ws t.contents c.in-Err.fault n (λ e. c.in-Err.ensures.usage (ap Err e)))),
    )

pub returns-in-Run-clause-written : goal.returns-in-Run-clause-written
returns-in-Run-clause-written g c =
    let ws : List (List ℕ) = map (λ (word : Bor (List ℕ)). word.now) c.args.words.now in
    let w = c.run_command.ensures.written in
    let is : command_of ws ≡ Some (asked_command (Run c.in-Run.run')) = c.in-Ok.ensures.taken ∙ ap (λ (k : Command). Some (asked_command k)) c.in-Run.is in (
      w.0,
      w.1,
      λ n. some_map (λ (t : FilesView). Gives t.contents (asked_command (Run c.in-Run.run')) c.run_command.result.outcome c.run_command.result.tasks w.0) (λ t. Answers ws t.contents c.run_command.result.outcome c.run_command.result.tasks w.0) _
          (λ t k. answers_of ws t.contents (asked_command (Run c.in-Run.run')) c.run_command.result.outcome c.run_command.result.tasks w.0 is k) w.2,
    )

pub returns-in-Check-clause-written : goal.returns-in-Check-clause-written
returns-in-Check-clause-written g c =
    let ws : List (List ℕ) = map (λ (word : Bor (List ℕ)). word.now) c.args.words.now in
    let w = c.check_command.ensures.written in
    let is : command_of ws ≡ Some (asked_command (Check c.in-Check.check)) = c.in-Ok.ensures.taken ∙ ap (λ (k : Command). Some (asked_command k)) c.in-Check.is in (
      w.0,
      w.1,
      λ n. some_map (λ (t : FilesView). Gives t.contents (asked_command (Check c.in-Check.check)) c.check_command.result.outcome c.check_command.result.tasks w.0) (λ t. Answers ws t.contents c.check_command.result.outcome c.check_command.result.tasks w.0) _
          (λ t k. answers_of ws t.contents (asked_command (Check c.in-Check.check)) c.check_command.result.outcome c.check_command.result.tasks w.0 is k) w.2,
    )

pub returns-in-Err-clause-taken : goal.returns-in-Err-clause-taken
returns-in-Err-clause-taken g c r e side k = absurd (unread_not_read c.in-Err.fault _ (sym c.unread.ensures ∙ k))

pub returns-in-Run-clause-taken : goal.returns-in-Run-clause-taken
returns-in-Run-clause-taken g c r e =
    let ws : List (List ℕ) = map (λ (word : Bor (List ℕ)). word.now) c.args.words.now in
    let is : command_of ws ≡ Some (asked_command (Run c.in-Run.run')) = c.in-Ok.ensures.taken ∙ ap (λ (k : Command). Some (asked_command k)) c.in-Run.is in
    let both : Some (asked_command (Run c.in-Run.run')) ≡ Some (run r) = sym is ∙ e in
    let same : asked_command (Run c.in-Run.run') ≡ run r = cc in
    c.run_command.ensures.taken r same

pub returns-in-Check-clause-taken : goal.returns-in-Check-clause-taken
returns-in-Check-clause-taken g c r e =
    let ws : List (List ℕ) = map (λ (word : Bor (List ℕ)). word.now) c.args.words.now in
    let is : command_of ws ≡ Some (asked_command (Check c.in-Check.check)) = c.in-Ok.ensures.taken ∙ ap (λ (k : Command). Some (asked_command k)) c.in-Check.is in
    let both : Some (asked_command (Check c.in-Check.check)) ≡ Some (run r) = sym is ∙ e in
    let same : asked_command (Check c.in-Check.check) ≡ run r = cc in
    cc

pub returns-in-Err-clause-told : goal.returns-in-Err-clause-told
returns-in-Err-clause-told g c d is =
    let ws : List (List ℕ) = map (λ (word : Bor (List ℕ)). word.now) c.args.words.now in
    let w = g.K.Sink.written c.args.sink in
    subst (λ o. TellsRun d o 0 w w) (sym c.unread.ensures) (unread_told ws d c.in-Err.fault w (λ e. c.in-Err.ensures.usage (ap Err e)) is)

pub returns-in-Demo-clause-written : goal.returns-in-Demo-clause-written
returns-in-Demo-clause-written g c =
    let ws : List (List ℕ) = map (λ (word : Bor (List ℕ)). word.now) c.args.words.now in
    let d = asked_demo c.in-Demo.demo in
    let o = c.demo_command.result.outcome in
    let tasks = c.demo_command.result.tasks in
    let t = c.demo_command.ensures.told in
    let is : command_of ws ≡ Some (demo d) = c.in-Ok.ensures.taken ∙ ap (λ (k : Command). Some (asked_command k)) c.in-Demo.is in
    (t.out, t.written, λ n. for_any (λ (x : FilesView). Answers ws x.contents o tasks t.out) _ (λ x. answers_of ws x.contents (demo d) o tasks t.out is (told_over x.contents d o tasks t.out t.gives)))

pub returns-in-Run-clause-leaves : goal.returns-in-Run-clause-leaves
returns-in-Run-clause-leaves g c a e =
    let ws : List (List ℕ) = map (λ (word : Bor (List ℕ)). word.now) c.args.words.now in
    let is : command_of ws ≡ Some (asked_command (Run c.in-Run.run')) = c.in-Ok.ensures.taken ∙ ap (λ (k : Command). Some (asked_command k)) c.in-Run.is in
    let both : Some (asked_command (Run c.in-Run.run')) ≡ Some a = sym is ∙ e in
    let same : asked_command (Run c.in-Run.run') ≡ a = cc in
    subst (λ x. LeavesTold x c.run_command.result.outcome (g.F.Files.told c.args.files.now) (g.F.Files.told c.run_command.new.files)) same c.run_command.ensures.leaves

pub returns-in-Check-clause-leaves : goal.returns-in-Check-clause-leaves
returns-in-Check-clause-leaves g c a e =
    let ws : List (List ℕ) = map (λ (word : Bor (List ℕ)). word.now) c.args.words.now in
    let is : command_of ws ≡ Some (asked_command (Check c.in-Check.check)) = c.in-Ok.ensures.taken ∙ ap (λ (k : Command). Some (asked_command k)) c.in-Check.is in
    let both : Some (asked_command (Check c.in-Check.check)) ≡ Some a = sym is ∙ e in
    let same : asked_command (Check c.in-Check.check) ≡ a = cc in
    subst (λ x. LeavesTold x c.check_command.result.outcome (g.F.Files.told c.args.files.now) (g.F.Files.told c.check_command.new.files)) same c.check_command.ensures.leaves

pub returns-in-Demo-clause-leaves : goal.returns-in-Demo-clause-leaves
returns-in-Demo-clause-leaves g c a e =
    let ws : List (List ℕ) = map (λ (word : Bor (List ℕ)). word.now) c.args.words.now in
    let d = asked_demo c.in-Demo.demo in
    let is : command_of ws ≡ Some (demo d) = c.in-Ok.ensures.taken ∙ ap (λ (k : Command). Some (asked_command k)) c.in-Demo.is in
    let both : Some a ≡ Some (demo d) = sym e ∙ is in
    let same : a ≡ demo d = cc in
    let t = c.demo_command.ensures.told in
    tell_leaves a d c.demo_command.result.outcome _ same (told_kinds d c.demo_command.result.outcome c.demo_command.result.tasks t.out t.gives)

-- ---- a chain

pub returns-in-Err-clause-chained : goal.returns-in-Err-clause-chained
returns-in-Err-clause-chained g c a is =
    let ws : List (List ℕ) = map (λ (word : Bor (List ℕ)). word.now) c.args.words.now in
    let w = seen_of g.K.Sink.written g.K.Sink.writes c.args.sink in
    let told = g.F.Files.told c.args.files.now in
    subst (λ o. AnswersChain a o 0 told told w w) (sym c.unread.ensures) (unread_chained ws a c.in-Err.fault told told w (λ e. c.in-Err.ensures.usage (ap Err e)) is)

pub returns-in-Err-clause-leaves : goal.returns-in-Err-clause-leaves
returns-in-Err-clause-leaves g c a is =
    let ws : List (List ℕ) = map (λ (word : Bor (List ℕ)). word.now) c.args.words.now in
    let told = g.F.Files.told c.args.files.now in
    subst (λ o. LeavesTold a o told told) (sym c.unread.ensures) (unread_leave ws a c.in-Err.fault told (λ e. c.in-Err.ensures.usage (ap Err e)) is)

pub returns-in-Err-clause-second : goal.returns-in-Err-clause-second
returns-in-Err-clause-second g c k = absurd (unread_alone c.in-Err.fault (subst IsOfSecond c.unread.ensures k))

pub returns-in-Run-clause-second : goal.returns-in-Run-clause-second
returns-in-Run-clause-second g c k = absurd (c.run_command.ensures.alone k)

pub returns-in-Check-clause-second : goal.returns-in-Check-clause-second
returns-in-Check-clause-second g c k = absurd (c.check_command.ensures.alone k)

pub returns-in-Demo-clause-second : goal.returns-in-Demo-clause-second
returns-in-Demo-clause-second g c k =
    let o = c.demo_command.result.outcome in
    let t = c.demo_command.ensures.told in
    absurd (put_alone o (told_kinds (asked_demo c.in-Demo.demo) o c.demo_command.result.tasks t.out t.gives) k)

pub returns-in-Chain-clause-second : goal.returns-in-Chain-clause-second
returns-in-Chain-clause-second g c k = (asked_chain c.in-Chain.chain, c.in-Ok.ensures.taken ∙ ap (λ (x : Command). Some (asked_command x)) c.in-Chain.is)

pub returns-in-Chain-clause-written : goal.returns-in-Chain-clause-written
returns-in-Chain-clause-written g c =
    let ws : List (List ℕ) = map (λ (word : Bor (List ℕ)). word.now) c.args.words.now in
    let a = asked_chain c.in-Chain.chain in
    let is : command_of ws ≡ Some (chain a) = c.in-Ok.ensures.taken ∙ ap (λ (x : Command). Some (asked_command x)) c.in-Chain.is in
    let w = c.chain_command.ensures.written in
    (w.0, w.1, λ n. absurd (n a is))

pub returns-in-Chain-clause-chained : goal.returns-in-Chain-clause-chained
returns-in-Chain-clause-chained g c a e =
    let ws : List (List ℕ) = map (λ (word : Bor (List ℕ)). word.now) c.args.words.now in
    let b = asked_chain c.in-Chain.chain in
    let is : command_of ws ≡ Some (chain b) = c.in-Ok.ensures.taken ∙ ap (λ (x : Command). Some (asked_command x)) c.in-Chain.is in
    let both : Some (chain b) ≡ Some (chain a) = sym is ∙ e in
    let same : b ≡ a = cc in
    subst (λ x. AnswersChain x c.chain_command.result.outcome c.chain_command.result.tasks (g.F.Files.told c.args.files.now) (g.F.Files.told c.chain_command.new.files) (seen_of g.K.Sink.written g.K.Sink.writes c.args.sink) (seen_of g.K.Sink.written g.K.Sink.writes c.chain_command.result.sink)) same c.chain_command.ensures.chained

pub returns-in-Chain-clause-leaves : goal.returns-in-Chain-clause-leaves
returns-in-Chain-clause-leaves g c a e =
    let ws : List (List ℕ) = map (λ (word : Bor (List ℕ)). word.now) c.args.words.now in
    let b = asked_chain c.in-Chain.chain in
    let is : command_of ws ≡ Some (chain b) = c.in-Ok.ensures.taken ∙ ap (λ (x : Command). Some (asked_command x)) c.in-Chain.is in
    let both : Some (chain b) ≡ Some a = sym is ∙ e in
    let same : chain b ≡ a = cc in
    subst (λ x. LeavesTold x c.chain_command.result.outcome (g.F.Files.told c.args.files.now) (g.F.Files.told c.chain_command.new.files)) same c.chain_command.ensures.leaves

pub returns-in-Err-clause-writes : goal.returns-in-Err-clause-writes
returns-in-Err-clause-writes g c a is =
    let ws : List (List ℕ) = map (λ (word : Bor (List ℕ)). word.now) c.args.words.now in
    let told = g.F.Files.told c.args.files.now in
    let had = g.K.Sink.writes c.args.sink in
    subst (λ o. WritesTold a told o 0 had had) (sym c.unread.ensures) (unread_unwritten ws a c.in-Err.fault told had (λ e. c.in-Err.ensures.usage (ap Err e)) is)

pub returns-in-Run-clause-writes : goal.returns-in-Run-clause-writes
returns-in-Run-clause-writes g c a e =
    let ws : List (List ℕ) = map (λ (word : Bor (List ℕ)). word.now) c.args.words.now in
    let is : command_of ws ≡ Some (asked_command (Run c.in-Run.run')) = c.in-Ok.ensures.taken ∙ ap (λ (k : Command). Some (asked_command k)) c.in-Run.is in
    let both : Some (asked_command (Run c.in-Run.run')) ≡ Some a = sym is ∙ e in
    let same : asked_command (Run c.in-Run.run') ≡ a = cc in
    subst (λ x. WritesTold x (g.F.Files.told c.args.files.now) c.run_command.result.outcome c.run_command.result.tasks (g.K.Sink.writes c.args.sink) (g.K.Sink.writes c.run_command.result.sink)) same c.run_command.ensures.writes

pub returns-in-Check-clause-writes : goal.returns-in-Check-clause-writes
returns-in-Check-clause-writes g c a e =
    let ws : List (List ℕ) = map (λ (word : Bor (List ℕ)). word.now) c.args.words.now in
    let is : command_of ws ≡ Some (asked_command (Check c.in-Check.check)) = c.in-Ok.ensures.taken ∙ ap (λ (k : Command). Some (asked_command k)) c.in-Check.is in
    let both : Some (asked_command (Check c.in-Check.check)) ≡ Some a = sym is ∙ e in
    let same : asked_command (Check c.in-Check.check) ≡ a = cc in
    subst (λ x. WritesTold x (g.F.Files.told c.args.files.now) c.check_command.result.outcome c.check_command.result.tasks (g.K.Sink.writes c.args.sink) (g.K.Sink.writes c.check_command.result.sink)) same c.check_command.ensures.writes

pub returns-in-Demo-clause-writes : goal.returns-in-Demo-clause-writes
returns-in-Demo-clause-writes g c a e =
    let ws : List (List ℕ) = map (λ (word : Bor (List ℕ)). word.now) c.args.words.now in
    let d = asked_demo c.in-Demo.demo in
    let is : command_of ws ≡ Some (demo d) = c.in-Ok.ensures.taken ∙ ap (λ (k : Command). Some (asked_command k)) c.in-Demo.is in
    let both : Some (demo d) ≡ Some a = sym is ∙ e in
    let same : demo d ≡ a = cc in
    subst (λ x. WritesTold x (g.F.Files.told c.args.files.now) c.demo_command.result.outcome c.demo_command.result.tasks (g.K.Sink.writes c.args.sink) (g.K.Sink.writes c.demo_command.result.sink)) same c.demo_command.ensures.writes

pub returns-in-Chain-clause-writes : goal.returns-in-Chain-clause-writes
returns-in-Chain-clause-writes g c a e =
    let ws : List (List ℕ) = map (λ (word : Bor (List ℕ)). word.now) c.args.words.now in
    let b = asked_chain c.in-Chain.chain in
    let is : command_of ws ≡ Some (chain b) = c.in-Ok.ensures.taken ∙ ap (λ (x : Command). Some (asked_command x)) c.in-Chain.is in
    let both : Some (chain b) ≡ Some a = sym is ∙ e in
    let same : chain b ≡ a = cc in
    subst (λ x. WritesTold x (g.F.Files.told c.args.files.now) c.chain_command.result.outcome c.chain_command.result.tasks (g.K.Sink.writes c.args.sink) (g.K.Sink.writes c.chain_command.result.sink)) same tt
