use Rattle.std.proofs.Common.{arith, drop, ap, ◌∙◌, option_map, subst}
use Rattle.std.proofs.lemmas.List.{take_rest}
use Rattle.saber_rows.specs.QuickRows.{IsPut}
use Rattle.saber_rows.specs.Reader.{reader_of, end_behind, answer_of}
use Rattle.saber_rows.proofs.QuickTakes.{run_on}
use Rattle.saber_rows.proofs.SoundRows.{no_end}
use Rattle.saber_rows.proofs.lines.Lines.run.Goals as goal

pub loop-run-preserved : goal.loop-run-preserved
loop-run-preserved c =
    let own = c.args.self.now in
    let run = c.loop-run.run in
    let had = c.args.out.now.rows in
    let there = c.loop-run.out.rows in
    let has = c.put_row.new.out.rows in
    record {
      begun = c.in-Some.ensures.begun;
      few = omega (arith, c.loop-run-test.true);
      runs = run_on (reader_of own) own.over c.requires.over (no_end own.over (end_behind own.side) c.requires.over) c.requires.slack (ap (option_map answer_of) c.requires.goes)
          run had there has c.loop-run.invariant.runs c.in-Some.n c.in-Some.stamp
          (subst (λ held. IsPut own.side own.columns held run.high there has c.in-Some.n c.in-Some.stamp) (take_rest c.bytes-held.result.now run.at ∙ ap (drop run.at) c.bytes-held.ensures.value) c.in-Some.ensures.some)
          (omega (arith, c.loop-run-test.true, c.min-most.ensures, own.counted));
    }
