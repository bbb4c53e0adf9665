use Rattle.std.proofs.Common.{◌≡◌, sym, ◌∙◌, ap, subst}
use Rattle.std.proofs.lemmas.Result.{on_ok_weaker}
use Rattle.saber_sliding.specs.Entries.{Entries, suffixes, CanFollow, Chained}
use Rattle.saber_sliding.specs.Waits.{waiting_entries}
use Rattle.saber_sliding.proofs.Stacked.{alike_behind}
use Rattle.saber_sliding.proofs.Waited.{more_seen, still_chained}
use Rattle.saber_sliding.proofs.front.Front.push_one.Goals as goal
use Rattle.saber_sliding.proofs.front.Front.push_one.Goals.{in-Groups, in-Ones}

pub push-requires-clause-alike : goal.push-requires-clause-alike
push-requires-clause-alike c =
    let es : Entries = c.in-Ones.stack in
    let here : waiting_entries c.self.inside.waiting ≡ es = ap waiting_entries c.in-Ones.is in
    alike_behind c.args.part.now es (subst Chained here c.self.invariant) (subst (CanFollow c.args.part.now) (sym c.self.view_is ∙ ap suffixes here) c.requires.room)

pub invariant_of-self : goal.invariant_of-self
invariant_of-self c = elim c.match-self.branch [
  | in-Groups w ↦
      let es : Entries = w.in-Groups.entries.items in
      let here : waiting_entries c.self.inside.waiting ≡ es = ap waiting_entries w.in-Groups.is in
      rw w.self-inside-is (still_chained w.push_row.result es w.push_row.new.entries.items c.args.number c.args.part.now (subst Chained here c.self.invariant)
      (subst (CanFollow c.args.part.now) (sym c.self.view_is ∙ ap suffixes here) c.requires.room) w.push_row.ensures.ok w.push_row.ensures.err)
  | in-Ones w ↦
      let es : Entries = w.in-Ones.stack in
      let here : waiting_entries c.self.inside.waiting ≡ es = ap waiting_entries w.in-Ones.is in
      rw w.self-inside-is (still_chained w.push.result es w.push.new.self c.args.number c.args.part.now (subst Chained here c.self.invariant)
      (subst (CanFollow c.args.part.now) (sym c.self.view_is ∙ ap suffixes here) c.requires.room) w.push.ensures.ok w.push.ensures.err)
]

pub returns : goal.returns
returns c = elim c.match-self.branch [
  | in-Groups w ↦
      let es : Entries = w.in-Groups.entries.items in
      let here : waiting_entries c.self.inside.waiting ≡ es = ap waiting_entries w.in-Groups.is in
      rw (w.self-inside-is, w.result-is)
      (on_ok_weaker w.push_row.result (more_seen es w.push_row.new.entries.items c.args.self.now c.args.number c.args.part.now (ap suffixes (sym here) ∙ c.self.view_is)) w.push_row.ensures.ok)
  | in-Ones w ↦
      let es : Entries = w.in-Ones.stack in
      let here : waiting_entries c.self.inside.waiting ≡ es = ap waiting_entries w.in-Ones.is in
      rw (w.self-inside-is, w.result-is)
      (on_ok_weaker w.push.result (more_seen es w.push.new.self c.args.self.now c.args.number c.args.part.now (ap suffixes (sym here) ∙ c.self.view_is)) w.push.ensures.ok)
]
