use Rattle.std.proofs.Common.{refl, sym, ◌∙◌}
use Rattle.saber_dispatch.proofs.NextTasks.{wide_end, near_end}
use Rattle.saber_dispatch.proofs.cutter.Cutter.first_needed.Goals as goal

pub look_back-first-requires : goal.look_back-first-requires
look_back-first-requires c = c.requires

pub returns-in-None-clause-looked : goal.returns-in-None-clause-looked
returns-in-None-clause-looked c = record {
  first_is = c.look_back-first.ensures.first;
  near = near_end c.args.self.now.number c.look_back-first.result c.args.self.now.room (sym c.too_wide.ensures ∙ c.in-None.is);
  back = c.look_back-first.ensures.back;
  same = refl;
}

pub returns-in-Some-clause-looked : goal.returns-in-Some-clause-looked
returns-in-Some-clause-looked c =
    let wide = wide_end c.args.self.now.number c.look_back-first.result c.args.self.now.room c.in-Some.end (sym c.too_wide.ensures ∙ c.in-Some.is) in
    record { first = c.look_back-first.result; first_is = c.look_back-first.ensures.first; wide = wide.1; end_is = wide.0; same = refl }

pub returns-in-None-clause-few : goal.returns-in-None-clause-few
returns-in-None-clause-few c = c.look_back-first.ensures.few

pub returns-in-Some-clause-few : goal.returns-in-Some-clause-few
returns-in-Some-clause-few c = c.look_back-first.ensures.few
