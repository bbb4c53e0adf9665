-- What was written, and how it ends (this project's rule).
use Rattle.std.specs.Prelude.{◌≡◌, ◌≢◌, ℕ, List, [], ◌++◌, Option, None, unwrap_or}
use Rattle.crossbeam_queue.specs.Passes.{view}
use Rattle.saber_io.specs.declared.feeds.EndMark.{EndMark}
use Rattle.saber_pipe.specs.declared.items.Item.{Item}
use Rattle.saber_pipe.specs.declared.receipt.Receipt.{Receipt}
use Rattle.saber_pipe.specs.Order.{bytes_of, mark_of}

module _ {P : Type 0} {p : _} where
  -- all that is ever sent
  abbrev pub promised : Receipt P p → List Item
  promised r = unwrap_or (view r.end).whole []

  -- all that was written
  abbrev pub written_by : Receipt P p → List ℕ
  written_by r = bytes_of (promised r)

  -- how it ends
  abbrev pub mark_by : Receipt P p → Option EndMark
  mark_by r = mark_of (promised r)

-- what was taken is a front of what was written; where a mark was taken it is the one that was sent, and all was taken
pub record Settled (written : List ℕ) (sent : Option EndMark) (taken : List ℕ) (mark : Option EndMark) : Type 0 where
  pub front : (more : List ℕ) × (written ≡ taken ++ more)
  pub whole : mark ≢ None → (taken ≡ written) × (mark ≡ sent)
