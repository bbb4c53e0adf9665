use Rattle.std.proofs.Common.{[], sym, ap₂, ◌∙◌, subst, get_or}
use Rattle.std.proofs.lemmas.List.{drop_more}
use Rattle.saber_plan.specs.Answers.{items_over, key_cmp}
use Rattle.saber_plan.specs.Parts.{join_numbers}
use Rattle.saber_plan.specs.Facts.Parts.{exact}
use Rattle.saber_partial.specs.Flat.{entry_in, IsLayout}
use Rattle.saber_partial.specs.Printing.{joined_row}
use Rattle.saber_partial.proofs.Lined.{next_less, next_equal, next_greater}
use Rattle.saber_partial.proofs.Listed.{can_both, of_row, of_both, put_one}
use Rattle.saber_partial.proofs.joined_answers.push_next.Goals as goal

pub returns-in_ok-push_group-in-Less-clause-ok : goal.returns-in_ok-push_group-in-Less-clause-ok
returns-in_ok-push_group-in-Less-clause-ok c =
    let es = c.args.groups.now.entries in
    let fs = c.args.others.now.entries in
    let i = c.args.i in
    let j = c.args.j in
    let row = c.row.result.now in
    let l = c.args.groups.now.layout in
    let d = entry_in l row in
    let is = of_row c.args.items.now l row (get_or es i d) c.layout-layout.ensures.within c.row.ensures.row (c.row.ensures.entry d) in
    let order = ap₂ key_cmp (sym (c.key.ensures d)) (sym (c.key-2.ensures d)) ∙ sym c.key_order.ensures ∙ c.in-Less.is in
    let next = next_less es fs i j (get_or es i d) (get_or fs j d) (drop_more es i d c.requires.mine) (drop_more fs j d c.requires.theirs) order in
    put_one c.args.items.now c.args.answers.now c.push_group.new.answers (items_over c.args.items.now row [])
    (get_or es i d) _ _ is next c.in_ok-push_group-in-Less.ensures

pub push_both-requires-clause-can : goal.push_both-requires-clause-can
push_both-requires-clause-can c =
    let es = c.args.groups.now.entries in
    let fs = c.args.others.now.entries in
    let i = c.args.i in
    let j = c.args.j in
    let d = entry_in c.args.groups.now.layout c.row-in-Equal.result.now in
    let order = ap₂ key_cmp (sym (c.key.ensures d)) (sym (c.key-2.ensures d)) ∙ sym c.key_order.ensures ∙ c.in-Equal.is in
    let can = c.requires.can.at i j d d c.requires.mine c.requires.theirs (exact _ _ order) in
    can_both c.layout-layout.result.now c.args.groups.now.layout c.args.others.now.layout c.row-in-Equal.result.now c.row-in-Equal-2.result.now
    (get_or es i d) (get_or fs j d) c.layout-layout.ensures.layout c.requires.alike c.layout-layout.ensures.within
    c.row-in-Equal.ensures.row c.row-in-Equal-2.ensures.row (c.row-in-Equal.ensures.entry d) (c.row-in-Equal-2.ensures.entry d) can

pub returns-in_ok-push_both-in-Equal-clause-ok : goal.returns-in_ok-push_both-in-Equal-clause-ok
returns-in_ok-push_both-in-Equal-clause-ok c =
    let es = c.args.groups.now.entries in
    let fs = c.args.others.now.entries in
    let i = c.args.i in
    let j = c.args.j in
    let d = entry_in c.args.groups.now.layout c.row-in-Equal.result.now in
    let order = ap₂ key_cmp (sym (c.key.ensures d)) (sym (c.key-2.ensures d)) ∙ sym c.key_order.ensures ∙ c.in-Equal.is in
    let can = c.requires.can.at i j d d c.requires.mine c.requires.theirs (exact _ _ order) in
    let x = get_or es i d in
    let y = get_or fs j d in
    let is = of_both c.layout-layout.result.now c.args.groups.now.layout c.args.others.now.layout c.row-in-Equal.result.now c.row-in-Equal-2.result.now
    (get_or es i d) (get_or fs j d) c.layout-layout.ensures.layout c.requires.alike c.layout-layout.ensures.within
    c.row-in-Equal.ensures.row c.row-in-Equal-2.ensures.row (c.row-in-Equal.ensures.entry d) (c.row-in-Equal-2.ensures.entry d) can c.args.items.now in
    let next = next_equal es fs i j x y (drop_more es i d c.requires.mine) (drop_more fs j d c.requires.theirs) order in
    put_one c.args.items.now c.args.answers.now c.push_both.new.answers
    (items_over c.args.items.now (joined_row c.layout-layout.result.now c.row-in-Equal.result.now c.row-in-Equal-2.result.now) [])
    (x.0, join_numbers x.1 y.1) _ _ is next c.in_ok-push_both-in-Equal.ensures

pub returns-in_ok-push_group-in-Greater-clause-ok : goal.returns-in_ok-push_group-in-Greater-clause-ok
returns-in_ok-push_group-in-Greater-clause-ok c =
    let es = c.args.groups.now.entries in
    let fs = c.args.others.now.entries in
    let i = c.args.i in
    let j = c.args.j in
    let row = c.row-in-Greater.result.now in
    let l = c.args.others.now.layout in
    let d = entry_in l row in
    let within = subst IsLayout c.requires.alike c.layout-layout.ensures.within in
    let is = of_row c.args.items.now l row (get_or fs j d) within c.row-in-Greater.ensures.row (c.row-in-Greater.ensures.entry d) in
    let order = ap₂ key_cmp (sym (c.key.ensures d)) (sym (c.key-2.ensures d)) ∙ sym c.key_order.ensures ∙ c.in-Greater.is in
    let next = next_greater es fs i j (get_or es i d) (get_or fs j d) (drop_more es i d c.requires.mine) (drop_more fs j d c.requires.theirs) order in
    put_one c.args.items.now c.args.answers.now c.push_group-in-Greater.new.answers (items_over c.args.items.now row [])
    (get_or fs j d) _ _ is next c.in_ok-push_group-in-Greater.ensures
