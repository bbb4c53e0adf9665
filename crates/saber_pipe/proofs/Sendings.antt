-- What is sent keeps to what was promised.
use Rattle.std.proofs.Common.{◌≡◌, ℕ, true, false, true≢false, List, [], ◌∷◌, ◌++◌, Option, Some, None, IsSome, unwrap_or, sym, ap, ◌∙◌, subst, append_assoc, append-nil}
use Rattle.crossbeam_queue.specs.Fifo.{Forks}
use Rattle.saber_io.specs.declared.feeds.EndMark.{EndMark}
use Rattle.saber_pipe.specs.declared.items.Item.{Item}
use Rattle.saber_pipe.specs.declared.rule.Log.{Log}
use Rattle.saber_pipe.specs.Order.{log, bytes_of, mark_of, Promised, KeepsTo, Relayed}
use Rattle.saber_pipe.specs.Receipts.{Settled}
use Rattle.saber_pipe.proofs.Marks.{one_more, both_unmarked, mark_after, all_taken}
use Rattle.saber_pipe.proofs.Moves.{bytes-append}
use Rattle.saber_pipe.proofs.Relays.{promises}

-- the first of what may be sent may be
pub first_of_kept : (whole : Option (List Item)) (sent kept rest : List Item) (x : Item) → kept ≡ x ∷ rest → KeepsTo whole sent kept → KeepsTo whole sent (x ∷ [])
first_of_kept None sent kept rest x e may = tt
first_of_kept (Some all) sent kept rest x e may = (rest ++ may.0, may.1 ∙ ap (λ l. sent ++ (l ++ may.0)) e)

-- what was moved from what is kept to what was sent changes nothing in both together
pub same_all : (sent sent' kept kept' moved : List Item) → sent' ≡ sent ++ moved → kept ≡ moved ++ kept' → sent' ++ kept' ≡ sent ++ kept
same_all sent sent' kept kept' moved s k = ap (λ l. l ++ kept') s ∙ append_assoc sent moved kept' ∙ ap (λ l. sent ++ l) (sym k)

-- what is then kept may still be sent
pub rest_of_kept : (whole whole' : Option (List Item)) (sent sent' kept kept' moved : List Item) → whole' ≡ whole → sent' ≡ sent ++ moved → kept ≡ moved ++ kept' → KeepsTo whole sent kept
    → KeepsTo whole' sent' kept'
rest_of_kept whole None sent sent' kept kept' moved w s k may = tt
rest_of_kept None (Some all') sent sent' kept kept' moved w s k may = cc
rest_of_kept (Some all) (Some all') sent sent' kept kept' moved w s k may =
    let same : all' ≡ all = cc in
    (may.0, same ∙ may.1 ∙ sym (append_assoc sent kept may.0) ∙ ap (λ l. l ++ may.0) (sym (same_all sent sent' kept kept' moved s k)) ∙ append_assoc sent' kept' may.0)

-- and then the mark
pub mark_to_send : (whole : Option (List Item)) (sent kept : List Item) (last : Item) → whole ≡ Some ((sent ++ kept) ++ last ∷ []) → kept ≡ [] → KeepsTo whole sent (last ∷ [])
mark_to_send None sent kept last e none = cc
mark_to_send (Some all) sent kept last e none =
    let is : all ≡ (sent ++ kept) ++ last ∷ [] = cc in ([], is ∙ ap (λ l. (sent ++ l) ++ last ∷ []) none ∙ ap (λ l. l ++ last ∷ []) (append-nil sent))

-- a promise of all that is kept, and of a mark
pub promises_all : (port : ℕ) (v : Log) (kept : List Item) (mark : EndMark) (whole : Option (List Item)) → v.sends ≡ true → v.whole ≡ None → mark_of v.sent ≡ None → mark_of kept ≡ None
    → whole ≡ Some ((v.sent ++ kept) ++ Item.Last mark ∷ []) → Forks Relayed port v (log true false v.sent [] whole) (log false false [] [] whole)
promises_all port v kept mark whole may free a b e =
    let all : List Item = (v.sent ++ kept) ++ Item.Last mark ∷ [] in
    subst (λ (w : Option (List Item)). Forks Relayed port v (log true false v.sent [] w) (log false false [] [] w)) (sym e)
    (promises port v all may free (one_more (v.sent ++ kept) (Item.Last mark) (both_unmarked v.sent kept a b)) (kept ++ Item.Last mark ∷ [], append_assoc v.sent kept (Item.Last mark ∷ [])))

pub mark_promised : (all sent kept : List Item) (mark : EndMark) → mark_of sent ≡ None → mark_of kept ≡ None → all ≡ (sent ++ kept) ++ Item.Last mark ∷ [] → mark_of all ≡ Some mark
mark_promised all sent kept mark a b e = ap mark_of e ∙ mark_after (sent ++ kept) (Item.Last mark) (both_unmarked sent kept a b)

-- what both ends come to
pub settles : (whole : Option (List Item)) (got : List Item) → IsSome whole → Promised whole got
    → Settled (bytes_of (unwrap_or whole [])) (mark_of (unwrap_or whole [])) (bytes_of got) (mark_of got)
settles None got told was = absurd (true≢false (sym told))
settles (Some all) got told was = record {
  front = (bytes_of was.1.0, ap bytes_of was.1.1 ∙ bytes-append got was.1.0);
  whole = λ m. let same : all ≡ got = all_taken all got was.1.0 was.1.1 was.0 m in (ap bytes_of (sym same), ap mark_of (sym same));
}
