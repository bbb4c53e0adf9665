use Rattle.std.specs.Prelude.{Vec}
use Rattle.std.specs.declared.alloc.Global.{Global}
use Rattle.saber_many.specs.declared.member.Member.{Member}
use Rattle.saber_many.proofs.EachRuns.{each}
use Rattle.saber_many.proofs.laws.each_runs.Goals as goal

pub returns : goal.returns
returns g c supply from base stage dispatched r = each g.W.Work.is_told g.W.Shareable.is_alone g.W.Work.upto g.W.Work.is_stage g.met.W.Shareable.fronts g.P.Supply.has_given g.P.Supply.is_over (λ (v : Vec (Member g.row.W-Stage.Denot) Global). v.items) supply from base stage dispatched r
