use Rattle.std.specs.Prelude.{◌≡◌, ◌≤◌, ◌-◌, []}
use Rattle.saber_plan.specs.Trees.{Tree}
use Rattle.saber_dispatch.specs.Readings.{reading_of, Suits, Reads, IsOpen}
use Rattle.saber_dispatch.specs.Sources.{each_input, NoneFell}
use Rattle.saber_dispatch.specs.Filling.{Filling}
use Rattle.saber_dispatch.proofs.fill.fill.Given as goal

abbrev pub invariant-loop-done : goal.invariant-loop-done
invariant-loop-done g l =
    let left = g.S.Source.left in
    let faults = g.S.Source.faults in
    record {
      within : l.done ≤ l.size;
      begun : l.rows.begun ≡ [];
      filling : (q : Tree) → Reads q l.fn.mark (reading_of l.fn.reader) → Filling l.done q l.fn.mark l.mark (reading_of l.fn.reader) (reading_of l.reader) (each_input left l.fn.inputs) (each_input left l.inputs) l.fn.rows.rows l.rows.rows;
      suits : Suits (reading_of l.reader) (each_input left l.inputs);
      opened : IsOpen (reading_of l.reader);
      same : each_input faults l.inputs ≡ each_input faults l.fn.inputs;
      count : NoneFell (each_input faults l.fn.inputs) (each_input faults l.inputs);
    }

abbrev pub decreases-loop-done : goal.decreases-loop-done
decreases-loop-done g l = l.size - l.done
