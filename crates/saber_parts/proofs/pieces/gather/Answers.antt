use Rattle.std.proofs.Common.{◌++◌, Some, sym, ◌∙◌, ap, append-nil}
use Rattle.std.proofs.lemmas.Map.Iter.{rest_more, rest_all}
use Rattle.saber_plan.specs.Tasks.{is_complete}
use Rattle.saber_plan.specs.Needs.{is_closing, is_pending, is_opening}
use Rattle.saber_fragment.specs.Shown.{windows_by}
use Rattle.saber_parts.specs.Entries.{lines_if, entry_if, entries_by, lines_by}
use Rattle.saber_parts.proofs.Entering.{gave_more}
use Rattle.saber_parts.proofs.pieces.gather.Goals as goal

pub loop-window-init : goal.loop-window-init
loop-window-init g c =
    let shown = g.A.Assembles.shown in
    let all = c.into_iter-window-iterator.ensures.into_iter_gives.0 in
    let b = c.args.bounds.now in
    record {
      can = tt;
      finite = tt;
      closing = (λ j. windows_by shown (c.new-gathered.ensures.closing j) ++ entries_by is_closing b (windows_by shown (all j)));
      pending = (λ j. windows_by shown (c.new-gathered.ensures.pending j) ++ entries_by is_pending b (windows_by shown (all j)));
      opening = (λ j. windows_by shown (c.new-gathered.ensures.opening j) ++ entries_by is_opening b (windows_by shown (all j)));
      text = (λ j. c.new-gathered.ensures.text j ++ lines_by (g.A.Assembles.plan c.args.by.now) b (windows_by shown (all j)));
    }

pub loop-window-preserved : goal.loop-window-preserved
loop-window-preserved g c =
    let shown = g.A.Assembles.shown in
    let b = c.args.bounds.now in
    let left = rest_more (λ x. x) c.loop-window.window-iterator c.next.new.self c.next.result (c.in-Some.window, c.in-Some.part) c.in-Some.is c.next.ensures.steps in
    let old = c.loop-window.gathered in
    let new = c.place.new.gathered in
    let i = c.in-Some.window in
    let part = shown c.in-Some.part in
    let next = windows_by shown c.next.new.self in
    let kind = c.kind.ensures in
    record {
      can = tt;
      finite = tt;
      closing = gave_more (windows_by shown old.closing) (windows_by shown new.closing) _ (entries_by is_closing b next) _ (c.in-Ok.ensures.closing ∙ (λ j. windows_by shown old.closing ++ entry_if (is_closing (Some (kind j))) i part))
          (ap (λ es. windows_by shown old.closing ++ entries_by is_closing b (windows_by shown es)) (sym left) ∙ c.loop-window.invariant.closing);
      pending = gave_more (windows_by shown old.pending) (windows_by shown new.pending) _ (entries_by is_pending b next) _ (c.in-Ok.ensures.pending ∙ (λ j. windows_by shown old.pending ++ entry_if (is_pending (Some (kind j))) i part))
          (ap (λ es. windows_by shown old.pending ++ entries_by is_pending b (windows_by shown es)) (sym left) ∙ c.loop-window.invariant.pending);
      opening = gave_more (windows_by shown old.opening) (windows_by shown new.opening) _ (entries_by is_opening b next) _ (c.in-Ok.ensures.opening ∙ (λ j. windows_by shown old.opening ++ entry_if (is_opening (Some (kind j))) i part))
          (ap (λ es. windows_by shown old.opening ++ entries_by is_opening b (windows_by shown es)) (sym left) ∙ c.loop-window.invariant.opening);
      text = gave_more old.text.items new.text.items _ (lines_by (g.A.Assembles.plan c.args.by.now) b next) _ (c.in-Ok.ensures.text ∙ (λ j. old.text.items ++ lines_if (is_complete (Some (kind j))) (g.A.Assembles.plan c.args.by.now) i part))
          (ap (λ es. old.text.items ++ lines_by (g.A.Assembles.plan c.args.by.now) b (windows_by shown es)) (sym left) ∙ c.loop-window.invariant.text);
    }

pub returns-clause-closing : goal.returns-clause-closing
returns-clause-closing g c =
    let shown = g.A.Assembles.shown in
    let none = rest_all (λ x. x) c.loop-window.window-iterator c.next.new.self c.next.result c.in-None.is c.next.ensures.steps in
    let given = windows_by shown c.loop-window.gathered.closing in
    sym (append-nil given) ∙ ap (λ es. given ++ entries_by is_closing c.args.bounds.now (windows_by shown es)) (sym none) ∙ c.loop-window.invariant.closing

pub returns-clause-pending : goal.returns-clause-pending
returns-clause-pending g c =
    let shown = g.A.Assembles.shown in
    let none = rest_all (λ x. x) c.loop-window.window-iterator c.next.new.self c.next.result c.in-None.is c.next.ensures.steps in
    let given = windows_by shown c.loop-window.gathered.pending in
    sym (append-nil given) ∙ ap (λ es. given ++ entries_by is_pending c.args.bounds.now (windows_by shown es)) (sym none) ∙ c.loop-window.invariant.pending

pub returns-clause-opening : goal.returns-clause-opening
returns-clause-opening g c =
    let shown = g.A.Assembles.shown in
    let none = rest_all (λ x. x) c.loop-window.window-iterator c.next.new.self c.next.result c.in-None.is c.next.ensures.steps in
    let given = windows_by shown c.loop-window.gathered.opening in
    sym (append-nil given) ∙ ap (λ es. given ++ entries_by is_opening c.args.bounds.now (windows_by shown es)) (sym none) ∙ c.loop-window.invariant.opening

pub returns-clause-text : goal.returns-clause-text
returns-clause-text g c =
    let shown = g.A.Assembles.shown in
    let none = rest_all (λ x. x) c.loop-window.window-iterator c.next.new.self c.next.result c.in-None.is c.next.ensures.steps in
    let given = c.loop-window.gathered.text.items in
    sym (append-nil given) ∙ ap (λ es. given ++ lines_by (g.A.Assembles.plan c.args.by.now) c.args.bounds.now (windows_by shown es)) (sym none) ∙ c.loop-window.invariant.text
