use Rattle.std.proofs.Common.{◌≡◌, ◌∙◌, sym, Option, Some, None, MatchOption, option_map, false, is_some, []}
use Rattle.saber_plan.specs.Rows.{due, End}
use Rattle.saber_rows.specs.Reader.{reader_of, end_behind}
use Rattle.saber_rows.specs.declared.ends.Behind.{Behind}
use Rattle.saber_rows.proofs.HeldRows.{none_due}
use Rattle.saber_rows.proofs.lines.Lines.has_ready.Goals as goal

by_end : (o : Option Behind) (f : Behind → End) (P : Type 0) (Q : End → Type 0) → is_some o ≡ false → P → MatchOption (option_map f o) P Q
by_end None f P Q e p = p
by_end (Some b) f P Q e p = absurd cc

pub returns-else-is_some-clause-no : goal.returns-else-is_some-clause-no
returns-else-is_some-clause-no c unready =
    let r = reader_of c.args.self.now in
    by_end c.args.self.now.over (end_behind c.args.self.now.side) (due r.rules r.place ≡ []) (λ end. r.place.accepted ≡ []) (sym c.is_some.ensures ∙ c.if-is_some.false)
    (none_due r.rules.slack r.place.high r.last r.place.accepted c.in-Some.stamp c.args.self.now.sound.in_time (sym c.in-Some.is ∙ c.first.ensures) (sym c.is_ready.ensures ∙ unready))
