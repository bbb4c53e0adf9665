use Rattle.std.proofs.Common.{◌≡◌, ◌≤◌, ◌^◌, drop}
use Rattle.saber_check.specs.Widths.{span, decl_width}
use Rattle.saber_check.specs.Plans.{place}
use Rattle.saber_check.proofs.expressions.place_among.Given as goal

abbrev pub invariant-loop-decl : goal.invariant-loop-decl
invariant-loop-decl l = record {
  same : place (drop l.decl-index l.decls) l.stream l.name ≡ place l.decls l.stream l.name;
  room : span decl_width (drop l.decl-index l.decls) ≤ 2 ^ 30;
}
