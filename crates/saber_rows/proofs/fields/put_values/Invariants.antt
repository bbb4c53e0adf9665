use Rattle.std.proofs.Common.{◌≡◌, ◌+◌, ◌<◌, ◌^◌, ◌++◌, length, option_copied, None}
use Rattle.saber_plan.specs.Rows.{fields_of, bad_field, wide_field, numbers}
use Rattle.saber_rows.specs.Fields.{fields_from}
use Rattle.saber_rows.proofs.fields.put_values.Given as goal

abbrev pub invariant-loop-rest : goal.invariant-loop-rest
invariant-loop-rest l =
    let rest = fields_from (option_copied l.rest) in
    record {
      good : bad_field l.field_number rest ≡ None;
      values : l.values ++ numbers rest ≡ numbers (fields_of l.content);
      wide : wide_field l.field_number (numbers rest) ≡ wide_field 1 (numbers (fields_of l.content));
      count : l.field_number + length rest < 2 ^ 32;
    }

abbrev pub decreases-loop-rest : goal.decreases-loop-rest
decreases-loop-rest l = length (fields_from (option_copied l.rest))
