use Rattle.std.proofs.Common.{None}
use Rattle.saber_rows.specs.Merging.{merger_of}
use Rattle.saber_dispatch.proofs.MergedTakings.{behind, takes_merged}
use Rattle.saber_dispatch.proofs.reader.take_of_two.Goals as goal

pub mark_from-requires-clause-within : goal.mark_from-requires-clause-within
mark_from-requires-clause-within c =
    let b = behind c.requires.reads.0 c.args.mark.now (merger_of c.args.merge.now) None None c.args.out.now.rows c.requires.reads.1
    c.take_quick-taken.result c.len-from.result (merger_of c.take_quick-taken.new.self) c.take_quick-taken.new.out.rows c.len-from.ensures c.take_quick-taken.ensures.rows in
    b.within

pub mark_from-requires-clause-left : goal.mark_from-requires-clause-left
mark_from-requires-clause-left c =
    let b = behind c.requires.reads.0 c.args.mark.now (merger_of c.args.merge.now) None None c.args.out.now.rows c.requires.reads.1
    c.take_quick-taken.result c.len-from.result (merger_of c.take_quick-taken.new.self) c.take_quick-taken.new.out.rows c.len-from.ensures c.take_quick-taken.ensures.rows in
    b.few

pub mark_from-requires-clause-right : goal.mark_from-requires-clause-right
mark_from-requires-clause-right c =
    let b = behind c.requires.reads.0 c.args.mark.now (merger_of c.args.merge.now) None None c.args.out.now.rows c.requires.reads.1
    c.take_quick-taken.result c.len-from.result (merger_of c.take_quick-taken.new.self) c.take_quick-taken.new.out.rows c.len-from.ensures c.take_quick-taken.ensures.rows in
    b.few_right

pub mark_from-requires-clause-times : goal.mark_from-requires-clause-times
mark_from-requires-clause-times c =
    let b = behind c.requires.reads.0 c.args.mark.now (merger_of c.args.merge.now) None None c.args.out.now.rows c.requires.reads.1
    c.take_quick-taken.result c.len-from.result (merger_of c.take_quick-taken.new.self) c.take_quick-taken.new.out.rows c.len-from.ensures c.take_quick-taken.ensures.rows in
    b.times

pub returns-clause-takes : goal.returns-clause-takes
returns-clause-takes c =
    takes_merged c.args.mark.now c.mark_from.result (merger_of c.args.merge.now) (merger_of c.take_quick-taken.new.self) c.args.out.now.rows c.take_quick-taken.new.out.rows
    c.take_quick-taken.result c.len-from.result c.len-from.ensures c.take_quick-taken.ensures.rows c.mark_from.ensures
