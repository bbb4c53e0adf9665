use Rattle.std.proofs.Common.{sym, ap, ◌∙◌, subst}
use Rattle.saber_partial.specs.Sorted.{part_of, Rises}
use Rattle.saber_partial.proofs.Rising.{can_all}
use Rattle.saber_partial.proofs.Weaving.{joined_rises, joined_merge}
use Rattle.saber_partial.proofs.merges.take_in.Goals as goal

pub join_one-requires-clause-can : goal.join_one-requires-clause-can
join_one-requires-clause-can c = can_all c.args.groups.now.entries c.args.others.now.entries c.requires.mine c.requires.theirs c.requires.can

pub returns-then-have_one_key-clause-rises : goal.returns-then-have_one_key-clause-rises
returns-then-have_one_key-clause-rises c =
    subst Rises (sym c.join_one.ensures) (joined_rises c.args.groups.now.entries c.args.others.now.entries c.requires.mine)

pub returns-then-have_one_key-clause-ok : goal.returns-then-have_one_key-clause-ok
returns-then-have_one_key-clause-ok c =
    ap part_of c.join_one.ensures ∙ joined_merge c.args.groups.now.entries c.args.others.now.entries (c.have_one_key.ensures.same c.if-have_one_key.true)
