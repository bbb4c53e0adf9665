use Rattle.std.proofs.Common.{◌≤◌, take}
use Rattle.std.specs.List.{AllByRecursion}
use Rattle.saber_group.specs.declared.slice_list.Span.{Span}
use Rattle.saber_group.specs.SliceLists.{IsWithin}
use Rattle.saber_group.proofs.slice_list.all_needed.Given as goal

abbrev pub invariant-loop-span : goal.invariant-loop-span
invariant-loop-span l = record {
  within : l.count ≤ l.parts;
  all : AllByRecursion (λ (s : Span). IsWithin l.count l.parts s.part) (take l.span-index l.spans);
}
