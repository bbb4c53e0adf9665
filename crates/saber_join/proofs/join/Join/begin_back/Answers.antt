use Rattle.std.proofs.Common.{subst, refl}
use Rattle.saber_plan.specs.Trees.{tree_of}
use Rattle.saber_plan.specs.Answers.{frame}
use Rattle.saber_plan.specs.Windows.{placed_after}
use Rattle.std.proofs.Common.{take}
use Rattle.saber_join.specs.Keeping.{NoneLies}
use Rattle.saber_join.proofs.Passing.{block_fits, begun_seen}
use Rattle.saber_join.proofs.join.Join.begin_back.Goals as goal

pub passed_over-from-requires : goal.passed_over-from-requires
passed_over-from-requires c = let (s, seen, can) = c.requires.sight in record { fits = block_fits (tree_of c.args.self.now) c.args.draft.now s c.args.block.now seen can }

pub last_before-draft-requires-clause-fits : goal.last_before-draft-requires-clause-fits
last_before-draft-requires-clause-fits c = block_fits (tree_of c.args.self.now) c.args.draft.now c.requires.sight.0 c.args.block.now c.requires.sight.1 c.requires.sight.2

pub returns : goal.returns
returns c s seen can =
    let q = tree_of c.args.self.now in
    let b = c.args.block.now in
    let k = c.passed_over-from.result in
    let none = subst (λ n. NoneLies (frame q) n (placed_after b.before (take k b.rows))) c.closed_below-closed.ensures c.passed_over-from.ensures.none in
    begun_seen q c.args.draft.now s b seen can c.requires.none k none (record { last = c.last_before-draft.result; back = c.in_ok-draft.field-0; before = c.args.draft.now.before; rows = c.args.draft.now.rows; ended = c.args.draft.now.ended }) c.last_before-draft.ensures c.in_ok-draft.ensures refl refl refl
