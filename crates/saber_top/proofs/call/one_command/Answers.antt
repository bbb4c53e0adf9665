use Rattle.std.proofs.Common.{◌≡◌, ◌≢◌, refl}
use Rattle.saber_plan.specs.Outputs.{Rose}
use Rattle.saber_notes.specs.Notes.{status_of}
use Rattle.saber_notes.specs.declared.outcome.Outcome.TheVariants.{WriteFault}
use Rattle.saber_cli.specs.Outcomes.{IsClean, IsFileFault}
use Rattle.saber_top.specs.Shared.{parts_in}
use Rattle.saber_top.proofs.TellLemmas.{none_all}
use Rattle.saber_top.proofs.call.one_command.Goals as goal

pub returns-clause-is : goal.returns-clause-is
returns-clause-is g c = record {
  ended = c.saber-status.result;
  says = c.saber-status.ensures;
  end_is = refl;
  status_is = refl;
  sink_is = refl;
  tasks_are = refl;
  noted_is = refl;
  no_parts = c.none.ensures;
}

pub returns-clause-holds : goal.returns-clause-holds
returns-clause-holds g c failed =
    let parts = parts_in c.none.result in
    let none = c.none.ensures in
    let faults = g.F.Files.faults in
    let old = c.args.files.now in
    let new = c.saber-status.new.files in
    record {
      none = tt;
      statuses = none_all (λ part. part.status ≡ status_of part.outcome) parts none;
      files = λ k. absurd k;
      files_good = λ k. absurd k;
      reads = none_all (λ part. IsFileFault part.outcome → Rose (faults old) (faults new)) parts none;
      reads_good = none_all (λ part. IsClean part.outcome → faults new ≡ faults old) parts none;
      writes = none_all (λ part. part.outcome ≡ WriteFault → Rose 0 (failed part.out)) parts none;
      writes_good = none_all (λ part. part.outcome ≢ WriteFault → failed part.out ≡ 0) parts none;
    }

pub returns-clause-one : goal.returns-clause-one
returns-clause-one g c = (c.saber-status.result.outcome, refl)

pub returns-clause-status : goal.returns-clause-status
returns-clause-status g c = c.saber-status.ensures.status

pub returns-clause-notes : goal.returns-clause-notes
returns-clause-notes g c = c.saber-status.ensures.notes
