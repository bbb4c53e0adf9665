use Rattle.std.proofs.Common.{[], sym, ap₂, ◌∙◌, subst, get_or}
use Rattle.std.proofs.lemmas.List.{drop_more}
use Rattle.saber_plan.specs.Answers.{items_over, key_cmp}
use Rattle.saber_plan.specs.Parts.{join_numbers}
use Rattle.saber_digits.specs.Cells.{drafted_text}
use Rattle.saber_plan.specs.Facts.Parts.{exact}
use Rattle.saber_partial.specs.Flat.{entry_in, IsLayout}
use Rattle.saber_partial.specs.Printing.{joined_row}
use Rattle.saber_partial.proofs.Lined.{next_less, next_equal, next_greater, written_one}
use Rattle.saber_partial.proofs.Listed.{can_both, of_row, of_both}
use Rattle.saber_partial.proofs.joined_lines.write_next.Goals as goal

pub returns-in_ok-end-in-Less-clause-ok : goal.returns-in_ok-end-in-Less-clause-ok
returns-in_ok-end-in-Less-clause-ok c =
    let es = c.args.groups.now.entries in
    let fs = c.args.others.now.entries in
    let i = c.args.i in
    let j = c.args.j in
    let row = c.row.result.now in
    let l = c.args.groups.now.layout in
    let d = entry_in l row in
    let is = of_row c.args.items.now l row (get_or es i d) c.layout-layout.ensures.within c.row.ensures.row (c.row.ensures.entry d) in
    let order = ap₂ key_cmp (sym (c.key.ensures d)) (sym (c.key-2.ensures d)) ∙ sym c.key_order.ensures ∙ c.in-Less.is in
    let next = next_less es fs i j (get_or es i d) (get_or fs j d) (drop_more es i d c.requires.mine) (drop_more fs j d c.requires.theirs) order in
    let before = drafted_text c.args.out.now.items c.args.draft.now c.args.at in
    written_one c.args.heading.now.window c.args.items.now before (drafted_text c.write_line.new.out.items c.write_line.new.draft c.in_ok-end-in-Less.end)
    (items_over c.args.items.now row []) (get_or es i d) _ _ is next c.in_ok-end-in-Less.ensures.ok

pub write_both-requires-clause-can : goal.write_both-requires-clause-can
write_both-requires-clause-can c =
    let es = c.args.groups.now.entries in
    let fs = c.args.others.now.entries in
    let i = c.args.i in
    let j = c.args.j in
    let d = entry_in c.args.groups.now.layout c.row-row.result.now in
    let order = ap₂ key_cmp (sym (c.key.ensures d)) (sym (c.key-2.ensures d)) ∙ sym c.key_order.ensures ∙ c.in-Equal.is in
    let can = c.requires.can.at i j d d c.requires.mine c.requires.theirs (exact _ _ order) in
    can_both c.layout-layout.result.now c.args.groups.now.layout c.args.others.now.layout c.row-row.result.now c.row-later.result.now
    (get_or es i d) (get_or fs j d) c.layout-layout.ensures.layout c.requires.alike c.layout-layout.ensures.within
    c.row-row.ensures.row c.row-later.ensures.row (c.row-row.ensures.entry d) (c.row-later.ensures.entry d) can

pub returns-in_ok-end-in-Equal-clause-ok : goal.returns-in_ok-end-in-Equal-clause-ok
returns-in_ok-end-in-Equal-clause-ok c =
    let es = c.args.groups.now.entries in
    let fs = c.args.others.now.entries in
    let i = c.args.i in
    let j = c.args.j in
    let d = entry_in c.args.groups.now.layout c.row-row.result.now in
    let order = ap₂ key_cmp (sym (c.key.ensures d)) (sym (c.key-2.ensures d)) ∙ sym c.key_order.ensures ∙ c.in-Equal.is in
    let can = c.requires.can.at i j d d c.requires.mine c.requires.theirs (exact _ _ order) in
    let x = get_or es i d in
    let y = get_or fs j d in
    let is = of_both c.layout-layout.result.now c.args.groups.now.layout c.args.others.now.layout c.row-row.result.now c.row-later.result.now
    (get_or es i d) (get_or fs j d) c.layout-layout.ensures.layout c.requires.alike c.layout-layout.ensures.within
    c.row-row.ensures.row c.row-later.ensures.row (c.row-row.ensures.entry d) (c.row-later.ensures.entry d) can c.args.items.now in
    let next = next_equal es fs i j x y (drop_more es i d c.requires.mine) (drop_more fs j d c.requires.theirs) order in
    let before = drafted_text c.args.out.now.items c.args.draft.now c.args.at in
    written_one c.args.heading.now.window c.args.items.now before (drafted_text c.write_both.new.out.items c.write_both.new.draft c.in_ok-end-in-Equal.end)
    (items_over c.args.items.now (joined_row c.layout-layout.result.now c.row-row.result.now c.row-later.result.now) [])
    (x.0, join_numbers x.1 y.1) _ _ is next c.in_ok-end-in-Equal.ensures.ok

pub returns-in_ok-end-in-Greater-clause-ok : goal.returns-in_ok-end-in-Greater-clause-ok
returns-in_ok-end-in-Greater-clause-ok c =
    let es = c.args.groups.now.entries in
    let fs = c.args.others.now.entries in
    let i = c.args.i in
    let j = c.args.j in
    let row = c.row-in-Greater.result.now in
    let l = c.args.others.now.layout in
    let d = entry_in l row in
    let within = subst IsLayout c.requires.alike c.layout-layout.ensures.within in
    let is = of_row c.args.items.now l row (get_or fs j d) within c.row-in-Greater.ensures.row (c.row-in-Greater.ensures.entry d) in
    let order = ap₂ key_cmp (sym (c.key.ensures d)) (sym (c.key-2.ensures d)) ∙ sym c.key_order.ensures ∙ c.in-Greater.is in
    let next = next_greater es fs i j (get_or es i d) (get_or fs j d) (drop_more es i d c.requires.mine) (drop_more fs j d c.requires.theirs) order in
    let before = drafted_text c.args.out.now.items c.args.draft.now c.args.at in
    written_one c.args.heading.now.window c.args.items.now before (drafted_text c.write_line-in-Greater.new.out.items c.write_line-in-Greater.new.draft c.in_ok-end-in-Greater.end)
    (items_over c.args.items.now row []) (get_or fs j d) _ _ is next c.in_ok-end-in-Greater.ensures.ok
