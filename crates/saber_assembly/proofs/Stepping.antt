-- One task more behind the stage.
use Rattle.std.proofs.Common.{◌≡◌, ◌≢◌, ℕ, suc, ◌≤◌, ◌+◌, ◌-◌, ◌^◌, min, List, [], ◌++◌, take, drop, Option, Some, None, refl, sym, ◌∙◌, ap, subst, arith, append_assoc, take-append-drop}
use Rattle.saber_plan.specs.Outputs.{raised_count, raised_by, Rose, appended_text, AppendsPrefix}
use Rattle.saber_plan.specs.Trees.{Tree}
use Rattle.saber_plan.specs.Answers.{text}
use Rattle.saber_plan.specs.Tasks.{Kept, upto, kept_behind, task_start, added_text}
use Rattle.saber_plan.specs.Inputs.{Input, first_arrivals}
use Rattle.saber_plan.specs.Runs.{tasks_with_text}
use Rattle.saber_plan.specs.Stages.{StageView, Start, Tasks, IsCutOff, After, Keeps}
use Rattle.saber_plan.specs.declared.stages.StageState.TheVariants.{Running, SinkFailed, NoMemory}
use Rattle.saber_assembly.specs.declared.stage.Absorbed.{Absorbed}
use Rattle.saber_assembly.specs.declared.stage.Absorbed.TheVariants.{Done, Stopped}
use Rattle.saber_laws.proofs.TaskCutLaws.{cuts_rise}
use Rattle.saber_laws.proofs.StepLaws.{text_goes_on}
use Rattle.saber_laws.proofs.WriteLaws.{writes_go_on}

appended_twice : (o : Option (List ℕ)) (xs ys : List ℕ) → appended_text (appended_text o xs) ys ≡ appended_text o (xs ++ ys)
appended_twice None xs ys = refl
appended_twice (Some w) xs ys = ap Some (append_assoc w xs ys)

rose_since : (start old new : ℕ) → old ≡ start → min (old + 1) (2 ^ 64 - 1) ≤ new → min (start + 1) (2 ^ 64 - 1) ≤ new
rose_since start old new h r = omega (arith, h, r)

-- what the step made, and what the definitions say of it
pub record Step (old new : StageView) (result : Absorbed) (more : List ℕ) (left : Kept) : Type 0 where
  pub written : result ≡ Done → new.written ≡ appended_text old.written more
  pub leaves : result ≡ Done → new.kept ≡ left
  pub rises : result ≡ Done → new.k ≡ old.k + 1
  pub stopped : result ≡ Stopped → new.state ≢ Running
  pub stays : result ≡ Stopped → new.k ≡ old.k
  pub runs : result ≡ Done → new.state ≡ Running
  pub failed : new.state ≡ SinkFailed → AppendsPrefix old.written new.written more
  pub cause : new.state ≡ SinkFailed → Rose old.faults new.faults
  pub memory : new.state ≡ NoMemory → new.written ≡ old.written
  pub good : new.state ≢ SinkFailed → new.faults ≡ old.faults
  pub count : old.faults ≤ new.faults
  pub one : result ≡ Done → more ≢ [] → new.writes ≡ raised_count old.writes
  pub no_text : result ≡ Done → more ≡ [] → new.writes ≡ old.writes
  pub failed_one : new.state ≡ SinkFailed → new.writes ≡ raised_count old.writes
  pub no_write : new.state ≡ NoMemory → new.writes ≡ old.writes

done_if : (r : Absorbed) → (r ≡ Stopped → ⊥) → r ≡ Done
done_if Done h = refl
done_if Stopped h = absurd (h refl)

stopped_if : (r : Absorbed) → (r ≡ Done → ⊥) → r ≡ Stopped
stopped_if Done h = absurd (h refl)
stopped_if Stopped h = refl

module _ (q : Tree) (n : ℕ) (r : Input) (start : Start) (old new : StageView) (result : Absorbed)
    (t : Tasks q n r) (a : After q n r start old Running) (h : Step old new result (added_text q r (task_start n r old.k) (task_start n r (old.k + 1))) (kept_behind q (upto n r (old.k + 1)))) where
  -- what the next task adds
  abbrev adds : List ℕ
  adds = added_text q r (task_start n r old.k) (task_start n r (old.k + 1))

  rises : task_start n r old.k ≤ task_start n r (old.k + 1)
  rises = cuts_rise n r old.k (old.k + 1) (omega arith)

  step_text : text q (upto n r (old.k + 1)) ≡ text q (upto n r old.k) ++ adds
  step_text = text_goes_on q t.windows r (task_start n r old.k) (task_start n r (old.k + 1)) t.fits.ordered rises

  -- the count of writes behind k tasks
  abbrev with_text : ℕ → ℕ
  with_text k = raised_by start.writes (tasks_with_text q n r k)

  runs_on : new.state ≡ Running → After q n r start new Running
  runs_on run =
      let d : result ≡ Done = done_if result (λ z. h.stopped z run) in
      let k : new.k ≡ old.k + 1 = h.rises d in (
        h.written d ∙ ap (λ o. appended_text o adds) a.0 ∙ appended_twice start.written (text q (upto n r old.k)) adds ∙ ap (appended_text start.written) (sym step_text ∙ ap (λ j. text q (upto n r j)) (sym k)),
        h.leaves d ∙ ap (λ j. kept_behind q (upto n r j)) (sym k),
        h.good (λ f. apart (sym run ∙ f)) ∙ a.2,
        writes_go_on q n r old.k start.writes old.writes new.writes adds step_text a.3 (h.one d) (h.no_text d) ∙ ap with_text (sym k),
      )
    where
      apart : Running ≡ SinkFailed → ⊥
      apart e = cc

  cut_off : new.k ≡ old.k → AppendsPrefix old.written new.written adds → IsCutOff q n r new.k start.written new.written
  cut_off k p =
      subst (λ j. IsCutOff q n r j start.written new.written) (sym k) (record {
        out = text q (upto n r old.k) ++ take p.0 adds;
        written_is = p.2 ∙ ap (λ o. appended_text o (take p.0 adds)) a.0 ∙ appended_twice start.written (text q (upto n r old.k)) (take p.0 adds);
        is_cut = record {
          more = take p.0 adds;
          rest = drop p.0 adds;
          out_is = refl;
          next_is = step_text ∙ ap (λ l. text q (upto n r old.k) ++ l) (sym (take-append-drop p.0 adds));
        };
      })

  not_done : new.state ≢ Running → new.k ≡ old.k
  not_done u = h.stays (stopped_if result (λ d. u (h.runs d)))

  fails : new.state ≡ SinkFailed → After q n r start new SinkFailed
  fails f =
      let k : new.k ≡ old.k = not_done (λ r. apart (sym r ∙ f)) in (
        cut_off k (h.failed f),
        rose_since start.faults old.faults new.faults a.2 (h.cause f),
        omega (arith, a.2, h.count),
        h.failed_one f ∙ ap raised_count (a.3 ∙ ap with_text (sym k)),
      )
    where
      apart : Running ≡ SinkFailed → ⊥
      apart e = cc

  lacks : new.state ≡ NoMemory → After q n r start new NoMemory
  lacks m =
      let k : new.k ≡ old.k = not_done (λ r. apart (sym r ∙ m)) in (
        h.memory m ∙ a.0 ∙ ap (λ j. appended_text start.written (text q (upto n r j))) (sym k),
        h.good (λ f. unlike (sym m ∙ f)) ∙ a.2,
        h.no_write m ∙ a.3 ∙ ap with_text (sym k),
      )
    where
      apart : Running ≡ NoMemory → ⊥
      apart e = cc

      unlike : NoMemory ≡ SinkFailed → ⊥
      unlike e = cc

  -- whatever the step came to
  stands : After q n r start new new.state
  stands = elim new.state as (λ z. new.state ≡ z → After q n r start new z) [ Running ↦ runs_on | SinkFailed ↦ fails | NoMemory ↦ lacks ] refl

  pub stepped : (taken : Input → Type 0) → (result ≡ Done → taken (first_arrivals r (task_start n r (old.k + 1)))) → Keeps q n r start taken new
  stepped taken f = record {
    after = stands;
    taken_is = λ run. let d : result ≡ Done = done_if result (λ z. h.stopped z run) in subst (λ j. taken (upto n r j)) (sym (h.rises d)) (f d);
  }
