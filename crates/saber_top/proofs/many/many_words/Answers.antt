use Rattle.std.proofs.Common.{◌≡◌, ◌∙◌, ℕ, List, [], Some, Err, Bor, map, sym, ap, subst}
use Rattle.saber_words.specs.Many.{asked_many}
use Rattle.saber_top.specs.declared.ended.TopEnd.TheVariants.{Before}
use Rattle.saber_top.specs.Comes.{ComesTo, IsOfMany, IsTrueOf}
use Rattle.saber_top.specs.Ends.{EndsBy, EndsUnreadMany, IsCreateEnd, unread_many}
use Rattle.saber_top.specs.Shared.{parts_in}
use Rattle.saber_top.proofs.ManyLemmas.{unread_comes, unread_true, unread_usage, unread_no_create, unread_ends}
use Rattle.saber_top.proofs.many.many_words.Goals as goal

-- ---- words that were not read

pub returns-in-Err-clause-comes : goal.returns-in-Err-clause-comes
returns-in-Err-clause-comes g c m is =
    let ws : List (List ℕ) = map (λ (word : Bor (List ℕ)). word.now) c.args.words.now in
    let files = c.args.files.now in
    let outs = c.args.outs.now in
    let f = c.in-Err.fault in
    let end : c.ended_before.result.end ≡ Before (unread_many f) = c.ended_before.ensures.end ∙ ap Before c.unread_many.ensures in
    let none = c.ended_before.ensures.none in
    let told = g.F.Files.told in
    let asked = g.U.Outs.asked in
    let written = g.U.Out.Sink.written in
    let made = g.U.Out.Sink.writes in
    subst (λ p. ComesTo told asked written made m files files outs outs c.ended_before.result.end p) (sym none)
    (subst (λ e. ComesTo told asked written made m files files outs outs e []) (sym end) (unread_comes told asked written made ws m files outs f (λ e. c.in-Err.ensures.usage (ap Err e)) is))

pub returns-in-Err-clause-holds : goal.returns-in-Err-clause-holds
returns-in-Err-clause-holds g c =
    let ws : List (List ℕ) = map (λ (word : Bor (List ℕ)). word.now) c.args.words.now in
    let files = c.args.files.now in
    let outs = c.args.outs.now in
    let f = c.in-Err.fault in
    let end : c.ended_before.result.end ≡ Before (unread_many f) = c.ended_before.ensures.end ∙ ap Before c.unread_many.ensures in
    let none = c.ended_before.ensures.none in
    let faults = g.F.Files.faults in
    let failed = g.U.Out.Sink.faults in
    subst (λ p. IsTrueOf faults failed files files c.ended_before.result.end p) (sym none) (subst (λ e. IsTrueOf faults failed files files e []) (sym end) (unread_true faults failed files f))

pub returns-in-Err-clause-kinds : goal.returns-in-Err-clause-kinds
returns-in-Err-clause-kinds g c = subst IsOfMany (sym c.ended_before.ensures.end) tt

pub returns-in-Err-clause-outs : goal.returns-in-Err-clause-outs
returns-in-Err-clause-outs g c k =
    let ws : List (List ℕ) = map (λ (word : Bor (List ℕ)). word.now) c.args.words.now in
    let files = c.args.files.now in
    let outs = c.args.outs.now in
    let f = c.in-Err.fault in
    let end : c.ended_before.result.end ≡ Before (unread_many f) = c.ended_before.ensures.end ∙ ap Before c.unread_many.ensures in
    let none = c.ended_before.ensures.none in
    absurd (unread_no_create f (subst (λ e. EndsBy e IsCreateEnd) end k))

pub returns-in-Err-clause-unread : goal.returns-in-Err-clause-unread
returns-in-Err-clause-unread g c is =
    let ws : List (List ℕ) = map (λ (word : Bor (List ℕ)). word.now) c.args.words.now in
    let files = c.args.files.now in
    let outs = c.args.outs.now in
    let f = c.in-Err.fault in
    let end : c.ended_before.result.end ≡ Before (unread_many f) = c.ended_before.ensures.end ∙ ap Before c.unread_many.ensures in
    let none = c.ended_before.ensures.none in
    subst (λ e. EndsUnreadMany e files files outs outs) (sym end) (unread_ends files outs f)

pub returns-in-Err-clause-usage : goal.returns-in-Err-clause-usage
returns-in-Err-clause-usage g c k =
    let ws : List (List ℕ) = map (λ (word : Bor (List ℕ)). word.now) c.args.words.now in
    let files = c.args.files.now in
    let outs = c.args.outs.now in
    let f = c.in-Err.fault in
    let end : c.ended_before.result.end ≡ Before (unread_many f) = c.ended_before.ensures.end ∙ ap Before c.unread_many.ensures in
    let none = c.ended_before.ensures.none in
    c.in-Err.ensures.usage (ap Err (unread_usage f (sym end ∙ k)))

-- ---- words that were

pub returns-in-Ok-clause-comes : goal.returns-in-Ok-clause-comes
returns-in-Ok-clause-comes g c m is =
    let both : Some m ≡ Some (asked_many c.in-Ok.many) = sym is ∙ c.in-Ok.ensures.taken in
    let same : m ≡ asked_many c.in-Ok.many = cc in
    subst (λ x. ComesTo g.F.Files.told g.U.Outs.asked g.U.Out.Sink.written g.U.Out.Sink.writes x c.args.files.now c.many_command.new.files c.args.outs.now c.many_command.new.outs c.many_command.result.end (parts_in c.many_command.result.parts)) (sym same) c.many_command.ensures.comes

pub returns-in-Ok-clause-usage : goal.returns-in-Ok-clause-usage
returns-in-Ok-clause-usage g c k = absurd (c.many_command.ensures.read k)
