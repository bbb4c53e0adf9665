use Rattle.std.proofs.Common.{sym, ap, ◌∙◌, subst}
use Rattle.saber_partial.specs.Sorted.{part_of, Rises}
use Rattle.saber_partial.proofs.Rising.{can_all}
use Rattle.saber_partial.proofs.Weaving.{joined_rises, joined_merge}
use Rattle.saber_partial.proofs.merges.take_in_some.Goals as goal

pub join_each-requires-clause-can : goal.join_each-requires-clause-can
join_each-requires-clause-can c = can_all c.args.groups.now.entries c.args.others.now.entries c.requires.mine c.requires.theirs c.requires.can

pub returns-then-have_same_keys-clause-rises : goal.returns-then-have_same_keys-clause-rises
returns-then-have_same_keys-clause-rises c =
    subst Rises (sym c.join_each.ensures.all) (joined_rises c.args.groups.now.entries c.args.others.now.entries c.requires.mine)

pub returns-then-have_same_keys-clause-ok : goal.returns-then-have_same_keys-clause-ok
returns-then-have_same_keys-clause-ok c =
    ap part_of c.join_each.ensures.all ∙ joined_merge c.args.groups.now.entries c.args.others.now.entries (c.have_same_keys.ensures c.if-have_same_keys.true)
