use Rattle.std.proofs.Common.{append_assoc}
use Rattle.saber_demo.specs.Summary.{summary}
use Rattle.saber_demo.proofs.summaries.summary.Goals as goal

pub returns : goal.returns
unfolding summary
returns c =
    rw (
      c.in_ok-push.ensures.items,
      c.in_ok-extend_from_slice-2.ensures.items,
      c.last_line.ensures,
      c.in_ok-extend_from_slice.ensures.items,
      c.in_ok-add_entry-3.ensures,
      c.in_ok-add_entry-2.ensures,
      c.in_ok-add_entry.ensures,
      c.new-out.ensures.items,
      c.feeds.ensures,
    ) (simp append_assoc)
