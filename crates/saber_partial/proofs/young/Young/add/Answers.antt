use Rattle.std.proofs.Common.{◌≡◌, ◌∷◌, [], List, ℤ, get_or, sym, subst}
use Rattle.saber_plan.specs.Answers.{key}
use Rattle.saber_plan.specs.Trees.{tree_of}
use Rattle.saber_plan.specs.Parts.{Numbers, numbers}
use Rattle.saber_partial.specs.Tallies.{CanJoin}
use Rattle.saber_partial.specs.Young.{no_entry}
use Rattle.saber_partial.proofs.Picked.{told_can, told_key, joined_order, joined_part}
use Rattle.saber_partial.proofs.young.Young.add.Goals as goal

pub add_row-requires-clause-can : goal.add_row-requires-clause-can
add_row-requires-clause-can c = λ d.
    let es = c.args.self.now.groups.entries in
    let order = c.args.self.now.order in
    let v = numbers (tree_of c.args.aggregates.now).aggregates (c.args.row.now.values ∷ []) in
    let k = key c.args.columns.now c.args.row.now.values in
    let there = subst (λ zs. (e : List ℤ × Numbers) → (get_or es c.in-Ok.place e).0 ≡ key c.args.columns.now zs) c.values-2.ensures c.in-Ok.ensures.there in
    let w = c.requires.order.each c.in-Ok.place c.in-Ok.ensures.within in
    subst (λ p. CanJoin (get_or es p d).1 v) w.2
    (told_can order es k w.0 v c.requires.order w.1 (told_key order es c.requires.order w.0 w.1 c.in-Ok.place k (sym w.2) (λ e. sym (there e))) c.requires.room d)

pub returns-in-Ok-clause-order : goal.returns-in-Ok-clause-order
returns-in-Ok-clause-order c =
    let es = c.args.self.now.groups.entries in
    let order = c.args.self.now.order in
    let v = numbers (tree_of c.args.aggregates.now).aggregates (c.args.row.now.values ∷ []) in
    let k = key c.args.columns.now c.args.row.now.values in
    let there = subst (λ zs. (e : List ℤ × Numbers) → (get_or es c.in-Ok.place e).0 ≡ key c.args.columns.now zs) c.values-2.ensures c.in-Ok.ensures.there in
    let w = c.requires.order.each c.in-Ok.place c.in-Ok.ensures.within in
    joined_order order es c.add_row.new.self.entries k c.in-Ok.place w.0 v c.requires.order w.1 w.2
    (told_key order es c.requires.order w.0 w.1 c.in-Ok.place k (sym w.2) (λ e. sym (there e))) (c.add_row.ensures.joined no_entry)

pub returns-in-Ok-clause-ok : goal.returns-in-Ok-clause-ok
returns-in-Ok-clause-ok c =
    let es = c.args.self.now.groups.entries in
    let order = c.args.self.now.order in
    let v = numbers (tree_of c.args.aggregates.now).aggregates (c.args.row.now.values ∷ []) in
    let k = key c.args.columns.now c.args.row.now.values in
    let there = subst (λ zs. (e : List ℤ × Numbers) → (get_or es c.in-Ok.place e).0 ≡ key c.args.columns.now zs) c.values-2.ensures c.in-Ok.ensures.there in
    let w = c.requires.order.each c.in-Ok.place c.in-Ok.ensures.within in
    joined_part order es c.add_row.new.self.entries k c.in-Ok.place w.0 v c.requires.order w.1 w.2
    (told_key order es c.requires.order w.0 w.1 c.in-Ok.place k (sym w.2) (λ e. sym (there e))) (c.add_row.ensures.joined no_entry)
