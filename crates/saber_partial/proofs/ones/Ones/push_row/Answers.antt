use Rattle.std.proofs.Common.{◌≡◌, ℕ, [], ◌∷◌, ◌++◌, List, length, map, ap, sym, ◌∙◌, subst}
use Rattle.std.proofs.lemmas.Result.{on_ok_weaker}
use Rattle.saber_plan.specs.Answers.{key}
use Rattle.saber_plan.specs.Parts.{group_part, numbers}
use Rattle.saber_plan.specs.Trees.{tree_of}
use Rattle.saber_partial.specs.Flat.{Suits}
use Rattle.saber_partial.specs.Ones.{AreOf}
use Rattle.saber_partial.specs.Sorted.{alone}
use Rattle.saber_partial.proofs.Fitting.{aggregates_count}
use Rattle.saber_partial.proofs.OneRows.{ones_suit}
use Rattle.saber_partial.proofs.RowParted.{row_more}
use Rattle.saber_partial.proofs.ones.Ones.push_row.Goals as goal

pub suit-requires : goal.suit-requires
suit-requires c =
    let q = tree_of c.args.aggregates.now in
    let t = c.self.inside.groups in
    record { others = λ some. ones_suit q t.layout t.entries c.has_one_layout.ensures.each (subst (AreOf q) (sym c.self.view_is) c.requires.others) some }

pub push_first-requires-clause-suits : goal.push_first-requires-clause-suits
push_first-requires-clause-suits c =
    let q = tree_of c.args.aggregates.now in
    subst (λ (ks : List ℕ). Suits c.suit.new.self.layout (length ks) q.aggregates) c.requires.keyless c.suit.ensures.suits

pub push_first-requires-clause-fit : goal.push_first-requires-clause-fit
push_first-requires-clause-fit c = aggregates_count (tree_of c.args.aggregates.now) c.keys-keys.ensures.checked c.requires.group c.args.row.now.values c.requires.row.count

pub invariant_of-self : goal.invariant_of-self
invariant_of-self c =
    let s = c.suit.ensures.suits in
    ap (λ (l : _). l.keys) c.push_first.ensures.layout ∙ s.keys ∙ ap length c.requires.keyless

pub returns-clause-ok : goal.returns-clause-ok
returns-clause-ok c =
    let q = tree_of c.args.aggregates.now in
    let zs = c.args.row.now.values in
    let es = c.self.inside.groups.entries in
    let ds = c.suit.new.self.entries in
    let fs = c.push_first.new.self.entries in
    on_ok_weaker {P = fs ≡ ds ++ ([], numbers q.aggregates (zs ∷ [])) ∷ []} {Q = map alone fs ≡ c.args.self.now ++ group_part q (zs ∷ []) ∷ []} c.push_first.result
    (row_more q zs [] es ds fs c.args.self.now (ap (λ (ks : List ℕ). key ks zs) (sym c.requires.keyless)) c.self.view_is c.suit.ensures.same) c.push_first.ensures.ok
