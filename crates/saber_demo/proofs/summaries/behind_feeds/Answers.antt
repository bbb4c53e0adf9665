use Rattle.std.proofs.Common.{◌≡◌, ◌∷◌, [], ◌++◌, ◌-◌, ◌+◌, length, take, drop, arith, ap, sym, ◌∙◌, subst, inr, length-drop}
use Rattle.std.proofs.lemmas.List.{take-append-drop, take_more, take_all}
use Rattle.saber_demo.specs.Feeds.{IsBehindFeeds}
use Rattle.saber_demo.proofs.summaries.behind_feeds.Goals as goal

pub returns-then-text-start-eq10 : goal.returns-then-text-start-eq10
returns-then-text-start-eq10 c =
    let text = c.args.text.now in
    let start = c.loop-start.start in
    let whole : take (length text - start) (drop start text) ≡ drop start text = take_all (length text - start) (drop start text) (omega (arith, length-drop start text)) in
    let next : start - 1 + 1 ≡ start = omega arith in
    let more = take_more text (start - 1) 0 (omega arith) in
    let fed : take start text ≡ take (start - 1) text ++ 10 ∷ [] = ap (λ n. take n text) (sym next) ∙ more ∙ ap (λ b. take (start - 1) text ++ b ∷ []) c.if-text-start-eq10.true in
    subst (IsBehindFeeds text) (sym whole) (record { before = take start text; all = sym (take-append-drop start text); fed = inr (take (start - 1) text, fed); plain = c.loop-start.invariant.plain })
