use Rattle.std.proofs.Common.{◌≡◌, ◌∙◌, subst, arith}
use Rattle.saber_plan.specs.Inputs.{going_on}
use Rattle.saber_plan.specs.Needs.{free}
use Rattle.saber_dispatch.specs.Cutting.{LooksBack, KeepsLasts}
use Rattle.saber_dispatch.proofs.BlockLists.{small, told, looked}
use Rattle.saber_laws.proofs.FreeLaws.{tasks_look_back}
use Rattle.saber_dispatch.proofs.cutter.look_back.Goals as goal

pub look_back-requires : goal.look_back-requires
look_back-requires c =
    let (q, n, xs, b, k) = c.requires in
    let l : KeepsLasts q n xs c.args.number c.in-Some.lasts = subst (LooksBack q n xs c.args.number) c.in-Some.is k in
    omega (arith, l.at, small q n xs c.args.number c.args.before.now b)

pub returns-in-Some-clause-first : goal.returns-in-Some-clause-first
returns-in-Some-clause-first c q n xs b k =
    let l : KeepsLasts q n xs c.args.number c.in-Some.lasts = subst (LooksBack q n xs c.args.number) c.in-Some.is k in
    c.look_back.ensures.first ∙ told q n xs c.args.number c.args.before.now b c.in-Some.lasts l

pub returns-in-Some-clause-back : goal.returns-in-Some-clause-back
returns-in-Some-clause-back c q n xs b k =
    let l : KeepsLasts q n xs c.args.number c.in-Some.lasts = subst (LooksBack q n xs c.args.number) c.in-Some.is k in
    let e = c.look_back.ensures in
    looked q n xs c.args.number c.args.before.now b c.in-Some.lasts c.look_back.new.self c.look_back.result l e.first e.kept e.list e.windows

pub returns-in-None-clause-few : goal.returns-in-None-clause-few
returns-in-None-clause-few c = let (q, n, xs, b, k) = c.requires in small q n xs c.args.number c.args.before.now b

pub returns-in-Some-clause-few : goal.returns-in-Some-clause-few
returns-in-Some-clause-few c = let (q, n, xs, b, k) = c.requires in small q n xs c.args.number c.args.before.now b

pub returns-in-Some-clause-within : goal.returns-in-Some-clause-within
returns-in-Some-clause-within c =
    let (q, n, xs, b, k) = c.requires in
    let l : KeepsLasts q n xs c.args.number c.in-Some.lasts = subst (LooksBack q n xs c.args.number) c.in-Some.is k in
    let is : c.look_back.result ≡ free q n (going_on xs) c.args.number = c.look_back.ensures.first ∙ told q n xs c.args.number c.args.before.now b c.in-Some.lasts l in
    omega (arith, is, tasks_look_back q n (going_on xs) c.args.number b.some)
