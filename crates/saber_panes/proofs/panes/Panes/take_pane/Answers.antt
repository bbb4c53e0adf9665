use Rattle.std.proofs.Common.{◌≡◌, sym, ◌∙◌, ap, Some, None}
use Rattle.std.proofs.lemmas.Result.{on_ok_weaker}
use Rattle.std.specs.Option.{option_copied_mut}
use Rattle.std.specs.FinMap.{get, insert}
use Rattle.saber_plan.specs.Merges.{joined_value}
use Rattle.saber_plan.specs.Parts.{merge}
use Rattle.saber_panes.specs.Panes.{seen_panes}
use Rattle.saber_panes.proofs.PaneMaps.{pane_at, pane_written, pane_inserted}
use Rattle.saber_panes.proofs.panes.Panes.take_pane.Goals as goal

pub take_in-requires : goal.take_in-requires
take_in-requires g c =
    let mine = c.in-Some.mine.now in
    let found = sym c.get_mut.ensures.value ∙ ap option_copied_mut c.in-Some.is in
    c.requires mine (ap (λ m. get m c.args.pane) (sym c.self.view_is) ∙ pane_at c.args.pane c.self.inside.parts.entries (Some mine) found)

pub returns-in-Some-clause-ok : goal.returns-in-Some-clause-ok
returns-in-Some-clause-ok g c =
    let k = c.args.pane in
    let es = c.self.inside.parts.entries in
    let n = c.take_in.new.self in
    let found = sym c.get_mut.ensures.value ∙ ap option_copied_mut c.in-Some.is in
    let here = ap (λ m. get m k) (sym c.self.view_is) ∙ pane_at k es (Some c.in-Some.mine.now) found in
    let new : seen_panes (c.get_mut.follows.lender n).entries ≡ insert c.args.self.now k n = ap seen_panes (c.get_mut.follows.holds n).0 ∙ pane_written k n c.in-Some.mine.now es found ∙ ap (λ m. insert m k n) c.self.view_is in
    on_ok_weaker c.take_in.result (λ e. new ∙ ap (insert c.args.self.now k) (e ∙ sym (ap (λ o. joined_value merge o c.args.part) here))) c.take_in.ensures.ok

pub returns-in_ok-insert-in-None-clause-ok : goal.returns-in_ok-insert-in-None-clause-ok
returns-in_ok-insert-in-None-clause-ok g c =
    let k = c.args.pane in
    let n = c.args.part in
    let es = c.self.inside.parts.entries in
    let found = sym c.get_mut.ensures.value ∙ ap option_copied_mut c.in-None.is in
    let here : get c.args.self.now k ≡ None = ap (λ m. get m k) (sym c.self.view_is) ∙ pane_at k es None found in
    let same : seen_panes c.get_mut.follows.lender-at-none.entries ≡ c.args.self.now = ap seen_panes (λ i. (c.get_mut.follows.holds-at-none i).entries) ∙ c.self.view_is in
    let sum : n ≡ joined_value merge (get c.args.self.now k) n = sym (ap (λ o. joined_value merge o n) here) in
    ap seen_panes c.in_ok-insert-in-None.ensures.entries ∙ pane_inserted k n c.get_mut.follows.lender-at-none.entries ∙ ap (λ m. insert m k n) same ∙ ap (insert c.args.self.now k) sum
