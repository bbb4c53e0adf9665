use Rattle.std.proofs.Common.{◌≡◌, ◌+◌, ◌∷◌, [], ◌++◌, List, ℤ, length, take, sym, ap, ◌∙◌, subst, arith}
use Rattle.std.specs.List.{insert}
use Rattle.saber_plan.specs.Trees.{tree_of}
use Rattle.saber_plan.specs.Parts.{Numbers, numbers}
use Rattle.saber_partial.specs.Flat.{Suits}
use Rattle.saber_partial.specs.Young.{by_key}
use Rattle.saber_partial.proofs.Layouts.{suits_there}
use Rattle.saber_partial.proofs.Picked.{length-by_key, order_long, picked_layout, put_order, put_part}
use Rattle.saber_partial.proofs.young.Young.add_first.Goals as goal

pub suit-requires : goal.suit-requires
suit-requires c =
    let t = c.args.self.now.groups in
    let order = c.args.self.now.order in
    let is = (tree_of c.args.aggregates.now).aggregates in
    let long = length-by_key order t.entries (order_long order t.entries c.requires.order) in
    record {
      others = λ some. subst (λ n. Suits t.layout n is) c.requires.keys
          (suits_there t.layout (by_key order t.entries) c.args.key.now is c.args.row.now.values
          (picked_layout t.layout (take (length t.entries) order) t.entries c.has_one_layout.ensures.each c.requires.order.within) c.requires.order.rises c.requires.room (omega (arith, some, long)));
    }

pub push_first-requires-clause-suits : goal.push_first-requires-clause-suits
push_first-requires-clause-suits c = subst (λ n. Suits c.suit.new.self.layout n (tree_of c.args.aggregates.now).aggregates) (sym c.requires.keys) c.suit.ensures.suits

pub returns-clause-order : goal.returns-clause-order
returns-clause-order c =
    let es = c.args.self.now.groups.entries in
    let old = c.args.self.now.order in
    let new = c.put_before.new.order in
    let i = c.args.i in
    let v = numbers (tree_of c.args.aggregates.now).aggregates (c.args.row.now.values ∷ []) in
    let e : List ℤ × Numbers = (c.args.key.now, v) in
    put_order old new es c.push_first.new.self.entries c.args.key.now i v c.requires.order c.requires.missing c.put_before.ensures.long c.requires.few
    (subst (λ n. take (n + 1) new ≡ insert (take n old) i n) c.len-count.ensures c.put_before.ensures.put)
    (c.in_ok-push_first.ensures.ok ∙ ap (λ l. l ++ e ∷ []) c.suit.ensures.same)

pub returns-clause-ok : goal.returns-clause-ok
returns-clause-ok c =
    let es = c.args.self.now.groups.entries in
    let old = c.args.self.now.order in
    let new = c.put_before.new.order in
    let i = c.args.i in
    let v = numbers (tree_of c.args.aggregates.now).aggregates (c.args.row.now.values ∷ []) in
    let e : List ℤ × Numbers = (c.args.key.now, v) in
    put_part old new es c.push_first.new.self.entries c.args.key.now i v c.requires.order c.requires.missing c.put_before.ensures.long c.requires.few
    (subst (λ n. take (n + 1) new ≡ insert (take n old) i n) c.len-count.ensures c.put_before.ensures.put)
    (c.in_ok-push_first.ensures.ok ∙ ap (λ l. l ++ e ∷ []) c.suit.ensures.same)
