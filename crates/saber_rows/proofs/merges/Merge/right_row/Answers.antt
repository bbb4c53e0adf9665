use Rattle.std.proofs.Common.{Ok, Err, sym, subst, refl, ap, ◌∙◌}
use Rattle.saber_plan.specs.declared.rows.Side.TheVariants.{Left, Right}
use Rattle.saber_rows.specs.declared.ends.RowEnd.TheVariants.{ReadFault}
use Rattle.saber_rows.specs.declared.heads.Head.{Head}
use Rattle.saber_rows.specs.declared.heads.Look.TheVariants.{Found, Ended, Failed}
use Rattle.saber_rows.specs.Heads.{Headed, head_view, bare, front_of, Looks}
use Rattle.saber_rows.specs.Merging.{MergeTurn}
use Rattle.saber_rows.proofs.MergedTurns.{only_right, both_ended, right_fails_end, on_right, none_some, front_is, again_end, unsettled, found_not_ended, found_not_failed, ended_not_failed, same_failure, row_not_err, right_not_left, same_right}
use Rattle.saber_rows.proofs.merges.Merge.right_row.Goals as goal

pub returns-in-Found-clause-turn : goal.returns-in-Found-clause-turn
returns-in-Found-clause-turn g c m had p f =
    let left = head_view c.args.self.now.left in
    let a = head_view c.args.self.now.right in
    let b = head_view c.look.new.self in
    let h1 = g.S.Source.left c.args.right.now in
    let h2 = g.S.Source.left c.look.new.source in
    let k : Looks (Found c.in-Found.field-0) Right m.last m.right a b h1 h2 = subst (λ l. Looks l Right m.last m.right a b h1 h2) c.in-Found.is (c.look.ensures.looks Right m.last m.right p.right) in
    let t = only_right m (record { left = left; right = b }) had h2 (record { left = p.left; right = k.passed; held = λ h e n. none_some (front_of left) Ended h (front_is Ended left f) }) c.in-Found.field-0 f k.finds in
    on_right m _ (Found c.in-Found.field-0) a b left _ h1 h2 h2 had had k
    (subst (λ h. MergeTurn m (Ok c.take.result) (record { left = left; right = b }) (record { left = left; right = h }) had had h2 h2) (sym c.take.ensures.rest)
    (subst (λ r. MergeTurn m (Ok r) (record { left = left; right = b }) (record { left = left; right = bare b.reader }) had had h2 h2) (sym c.take.ensures.row) t))

pub returns-in-Ended-clause-turn : goal.returns-in-Ended-clause-turn
returns-in-Ended-clause-turn g c m had p f =
    let left = head_view c.args.self.now.left in
    let a = head_view c.args.self.now.right in
    let b = head_view c.look.new.self in
    let h1 = g.S.Source.left c.args.right.now in
    let h2 = g.S.Source.left c.look.new.source in
    let k : Looks Ended Right m.last m.right a b h1 h2 = subst (λ l. Looks l Right m.last m.right a b h1 h2) c.in-Ended.is (c.look.ensures.looks Right m.last m.right p.right) in
    on_right m _ Ended a b left _ h1 h2 h2 had had k (both_ended m (record { left = left; right = b }) had h2 (record { left = p.left; right = k.passed; held = λ h e n. none_some (front_of left) Ended h (front_is Ended left f) }) f k.finds)

pub returns-in-Failed-clause-turn : goal.returns-in-Failed-clause-turn
returns-in-Failed-clause-turn g c m had p f =
    let left = head_view c.args.self.now.left in
    let a = head_view c.args.self.now.right in
    let b = head_view c.look.new.self in
    let h1 = g.S.Source.left c.args.right.now in
    let h2 = g.S.Source.left c.look.new.source in
    let e = c.in-Failed.end in
    let k : Looks (Failed e) Right m.last m.right a b h1 h2 = subst (λ l. Looks l Right m.last m.right a b h1 h2) c.in-Failed.is (c.look.ensures.looks Right m.last m.right p.right) in
    on_right m _ (Failed e) a b left _ h1 h2 h2 had had k (right_fails_end m (record { left = left; right = b }) had h2 (record { left = p.left; right = k.passed; held = λ h e n. none_some (front_of left) Ended h (front_is Ended left f) }) e f k.finds)

-- ---- an answer that is given again

pub returns-in-Found-clause-again : goal.returns-in-Found-clause-again
returns-in-Found-clause-again g c =
    again_end c.look.result (front_of (head_view c.args.self.now.right)) _ _ _ _ c.look.ensures.again
    (λ h p. absurd (found_not_ended c.in-Found.field-0 (sym c.in-Found.is ∙ h)))
    (λ e h p. absurd (found_not_failed c.in-Found.field-0 e (sym c.in-Found.is ∙ h)))

pub returns-in-Ended-clause-again : goal.returns-in-Ended-clause-again
returns-in-Ended-clause-again g c =
    let left = c.args.self.now.left in
    again_end c.look.result (front_of (head_view c.args.self.now.right)) _ _ _ _ c.look.ensures.again
    (λ h p. (refl, ap (λ (x : Head). record { left = left; right = x }) p))
    (λ e h p. absurd (ended_not_failed e (sym c.in-Ended.is ∙ h)))

pub returns-in-Failed-clause-again : goal.returns-in-Failed-clause-again
returns-in-Failed-clause-again g c =
    let left = c.args.self.now.left in
    again_end c.look.result (front_of (head_view c.args.self.now.right)) _ _ _ _ c.look.ensures.again
    (λ h p. absurd (ended_not_failed c.in-Failed.end (sym h ∙ c.in-Failed.is)))
    (λ e h p. (ap (λ x. Err (Right, x)) (same_failure c.in-Failed.end e (sym c.in-Failed.is ∙ h)), ap (λ (x : Head). record { left = left; right = x }) p))

-- ---- faults

pub returns-in-Found-clause-left : goal.returns-in-Found-clause-left
returns-in-Found-clause-left g c e h = row_not_err _ Left e h

pub returns-in-Ended-clause-left : goal.returns-in-Ended-clause-left
returns-in-Ended-clause-left g c e h = row_not_err _ Left e h

pub returns-in-Failed-clause-left : goal.returns-in-Failed-clause-left
returns-in-Failed-clause-left g c e h = right_not_left c.in-Failed.end e h

pub returns-in-Found-clause-cause : goal.returns-in-Found-clause-cause
returns-in-Found-clause-cause g c f h = absurd (row_not_err _ Right ReadFault h)

pub returns-in-Ended-clause-cause : goal.returns-in-Ended-clause-cause
returns-in-Ended-clause-cause g c f h = absurd (row_not_err _ Right ReadFault h)

pub returns-in-Failed-clause-cause : goal.returns-in-Failed-clause-cause
returns-in-Failed-clause-cause g c f h =
    let o = front_of (head_view c.args.self.now.right) in
    let is = c.in-Failed.is ∙ ap (λ x. Failed x) (same_right c.in-Failed.end ReadFault h) in
    c.look.ensures.cause (unsettled o c.look.result c.in-Failed.end _ _ c.in-Failed.is c.look.ensures.again f) is

pub returns-in-Found-clause-good : goal.returns-in-Found-clause-good
returns-in-Found-clause-good g c h = c.look.ensures.good (λ e. found_not_failed c.in-Found.field-0 ReadFault (sym c.in-Found.is ∙ e))

pub returns-in-Ended-clause-good : goal.returns-in-Ended-clause-good
returns-in-Ended-clause-good g c h = c.look.ensures.good (λ e. ended_not_failed ReadFault (sym c.in-Ended.is ∙ e))

pub returns-in-Failed-clause-good : goal.returns-in-Failed-clause-good
returns-in-Failed-clause-good g c h = c.look.ensures.good (λ e. h (ap (λ x. Err (Right, x)) (same_failure c.in-Failed.end ReadFault (sym c.in-Failed.is ∙ e))))

-- ---- what the look tells

pub returns-in-Found-clause-once : goal.returns-in-Found-clause-once
returns-in-Found-clause-once g c = c.look.ensures.once

pub returns-in-Ended-clause-once : goal.returns-in-Ended-clause-once
returns-in-Ended-clause-once g c = c.look.ensures.once

pub returns-in-Failed-clause-once : goal.returns-in-Failed-clause-once
returns-in-Failed-clause-once g c = c.look.ensures.once

pub returns-in-Found-clause-count : goal.returns-in-Found-clause-count
returns-in-Found-clause-count g c = c.look.ensures.count

pub returns-in-Found-clause-reads : goal.returns-in-Found-clause-reads
returns-in-Found-clause-reads g c = c.look.ensures.reads

pub returns-in-Found-clause-left_rules : goal.returns-in-Found-clause-left_rules
returns-in-Found-clause-left_rules g c = refl

pub returns-in-Ended-clause-count : goal.returns-in-Ended-clause-count
returns-in-Ended-clause-count g c = c.look.ensures.count

pub returns-in-Ended-clause-reads : goal.returns-in-Ended-clause-reads
returns-in-Ended-clause-reads g c = c.look.ensures.reads

pub returns-in-Ended-clause-left_rules : goal.returns-in-Ended-clause-left_rules
returns-in-Ended-clause-left_rules g c = refl

pub returns-in-Failed-clause-count : goal.returns-in-Failed-clause-count
returns-in-Failed-clause-count g c = c.look.ensures.count

pub returns-in-Failed-clause-reads : goal.returns-in-Failed-clause-reads
returns-in-Failed-clause-reads g c = c.look.ensures.reads

pub returns-in-Failed-clause-left_rules : goal.returns-in-Failed-clause-left_rules
returns-in-Failed-clause-left_rules g c = refl

pub returns-in-Found-clause-right_rules : goal.returns-in-Found-clause-right_rules
returns-in-Found-clause-right_rules g c = ap (λ (h : Headed). h.reader.rules) c.take.ensures.rest ∙ c.look.ensures.rules

pub returns-in-Ended-clause-right_rules : goal.returns-in-Ended-clause-right_rules
returns-in-Ended-clause-right_rules g c = c.look.ensures.rules

pub returns-in-Failed-clause-right_rules : goal.returns-in-Failed-clause-right_rules
returns-in-Failed-clause-right_rules g c = c.look.ensures.rules
