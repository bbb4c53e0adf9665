use Rattle.std.proofs.Common.{◌≡◌, [], take, ap, sym, ◌∙◌, subst}
use Rattle.std.proofs.lemmas.Result.{on_ok_weaker}
use Rattle.std.specs.List.{insert}
use Rattle.saber_plan.specs.Parts.{merge}
use Rattle.saber_partial.specs.declared.layout.Layout.{Layout}
use Rattle.saber_partial.specs.Flat.{entry_in}
use Rattle.saber_partial.specs.Sorted.{alone, part_of, IsAt, IsGap, Rises}
use Rattle.saber_partial.proofs.Adding.{merge_one, some_found}
use Rattle.saber_partial.proofs.Merging.{either}
use Rattle.saber_partial.proofs.Rising.{read_at, wrote_rises, wrote_part, filled_rises, filled_part}
use Rattle.saber_partial.proofs.merges.take_in_row.Goals as goal

pub join-requires-clause-can : goal.join-requires-clause-can
join-requires-clause-can c = λ d.
    let es = c.args.groups.now.entries in
    let e = entry_in c.args.groups.now.layout c.args.row.now in
    let here = subst (λ k. IsAt es k c.in-Ok.i) (ap (λ (l : Layout). take l.keys c.args.row.now) c.layout.ensures.layout) c.in-Ok.ensures.there in
    c.requires.can.at e.0 _ e.1 (read_at es e.0 c.in-Ok.i d c.requires.mine here) (some_found e [])

pub returns-in-Ok-clause-rises : goal.returns-in-Ok-clause-rises
returns-in-Ok-clause-rises c =
    let es = c.args.groups.now.entries in
    let e = entry_in c.args.groups.now.layout c.args.row.now in
    let here = subst (λ k. IsAt es k c.in-Ok.i) (ap (λ (l : Layout). take l.keys c.args.row.now) c.layout.ensures.layout) c.in-Ok.ensures.there in
    wrote_rises es c.join.new.self.entries e.0 c.in-Ok.i e e.1 c.requires.mine here (c.join.ensures.joined e)

pub returns-in-Ok-clause-ok : goal.returns-in-Ok-clause-ok
returns-in-Ok-clause-ok c =
    let es = c.args.groups.now.entries in
    let e = entry_in c.args.groups.now.layout c.args.row.now in
    let here = subst (λ k. IsAt es k c.in-Ok.i) (ap (λ (l : Layout). take l.keys c.args.row.now) c.layout.ensures.layout) c.in-Ok.ensures.there in
    wrote_part es c.join.new.self.entries e.0 c.in-Ok.i e e.1 c.requires.mine here (c.join.ensures.joined e) ∙ merge_one (part_of es) e.0 e.1

pub returns-in-Err-clause-rises : goal.returns-in-Err-clause-rises
returns-in-Err-clause-rises c =
    let es = c.args.groups.now.entries in
    let gs = c.insert.new.self.entries in
    let e = entry_in c.args.groups.now.layout c.args.row.now in
    let gap = subst (λ k. IsGap es k c.in-Err.i) (ap (λ (l : Layout). take l.keys c.args.row.now) c.layout.ensures.layout) c.in-Err.ensures.missing in
    either c.insert.result (gs ≡ insert es c.in-Err.i e) (gs ≡ es) (Rises gs) c.insert.ensures.ok c.insert.ensures.err
    (λ new. filled_rises es gs e.0 c.in-Err.i e.1 c.requires.mine gap new) (λ same. subst Rises (sym same) c.requires.mine)

pub returns-in-Err-clause-ok : goal.returns-in-Err-clause-ok
returns-in-Err-clause-ok c =
    let es = c.args.groups.now.entries in
    let gs = c.insert.new.self.entries in
    let e = entry_in c.args.groups.now.layout c.args.row.now in
    let gap = subst (λ k. IsGap es k c.in-Err.i) (ap (λ (l : Layout). take l.keys c.args.row.now) c.layout.ensures.layout) c.in-Err.ensures.missing in
    on_ok_weaker {P = gs ≡ insert es c.in-Err.i e} {Q = part_of gs ≡ merge (part_of es) (alone e)} c.insert.result
    (λ new. filled_part es gs e.0 c.in-Err.i e.1 c.requires.mine gap new ∙ merge_one (part_of es) e.0 e.1) c.insert.ensures.ok
