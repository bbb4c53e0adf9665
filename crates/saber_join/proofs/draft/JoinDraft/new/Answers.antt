use Rattle.std.proofs.Common.{[], refl, sym}
use Rattle.saber_join.proofs.Passing.{none_at_first}
use Rattle.saber_join.proofs.draft.JoinDraft.new.Goals as goal

pub returns : goal.returns
returns c q = record {
  passed = [];
  back = sym c.new.ensures;
  last = refl;
  none = none_at_first q c.args.own.now.before c.args.own.now.before;
  before = refl;
  rows = c.in_ok-rows.ensures;
  ended = refl;
}
