use Rattle.std.proofs.Common.{◌≡◌, [], ◌∷◌, ◌++◌, List, map, ap, sym, ◌∙◌, subst, subst₂}
use Rattle.std.proofs.lemmas.Result.{on_ok_weaker}
use Rattle.std.specs.List.{AllByRecursion}
use Rattle.saber_plan.specs.Parts.{Part}
use Rattle.saber_partial.specs.declared.layout.Layout.{Layout}
use Rattle.saber_partial.specs.Flat.{entry_in, IsRow}
use Rattle.saber_partial.specs.Ones.{IsOne}
use Rattle.saber_partial.specs.Sorted.{alone}
use Rattle.saber_partial.specs.Tallies.{CanMerge}
use Rattle.saber_partial.proofs.FlatRows.{row_layout}
use Rattle.saber_partial.proofs.OneRows.{alike_first, keyless_layout, pushed_row}
use Rattle.saber_partial.proofs.ones.Ones.push.Goals as goal

pub be_like-requires-clause-others : goal.be_like-requires-clause-others
be_like-requires-clause-others c = λ some.
    let t = c.self.inside.groups in
    let m = c.part.inside.layout.now in
    let r = c.part.inside.row.now in
    let lies = c.part.invariant in
    let alike = subst₂ (λ (ps : List Part) (p : Part). AllByRecursion (λ x. CanMerge x p) ps) (sym c.self.view_is) (sym c.part.view_is) c.requires.alike in
    alike_first t.layout m t.entries (entry_in m r) c.has_one_layout.ensures.layout lies.0 c.has_one_layout.ensures.each (row_layout m r lies.0 lies.1) alike some

pub push-requires : goal.push-requires
push-requires c = subst (λ (l : Layout). IsRow l c.part.inside.row.now) (sym c.be_like.ensures.layout) c.part.invariant.1

pub invariant_of-self : goal.invariant_of-self
invariant_of-self c =
    let lies = c.part.invariant in
    ap (λ (l : Layout). l.keys) (c.push.ensures.layout ∙ c.be_like.ensures.layout)
    ∙ keyless_layout c.part.inside.layout.now c.part.inside.row.now lies.0 lies.1 (subst IsOne (sym c.part.view_is) c.requires.one)

pub returns-clause-ok : goal.returns-clause-ok
returns-clause-ok c =
    let t = c.self.inside.groups in
    let r = c.part.inside.row.now in
    let ds = c.be_like.new.self.entries in
    let fs = c.push.new.self.entries in
    on_ok_weaker {P = fs ≡ ds ++ entry_in c.be_like.new.self.layout r ∷ []} {Q = map alone fs ≡ c.args.self.now ++ c.args.part.now ∷ []} c.push.result
    (pushed_row c.be_like.new.self.layout c.part.inside.layout.now t.entries ds fs r c.args.self.now c.args.part.now c.be_like.ensures.layout c.be_like.ensures.same c.self.view_is c.part.view_is)
    c.push.ensures.ok
