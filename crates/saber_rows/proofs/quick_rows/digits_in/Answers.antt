use Rattle.std.proofs.lemmas.Option.{IfSome_then}
use Rattle.saber_rows.proofs.QuickNumbers.{digits_of_front}
use Rattle.saber_rows.proofs.quick_rows.digits_in.Goals as goal

pub returns-then-held-gt-MOST_DIGITS : goal.returns-then-held-gt-MOST_DIGITS
returns-then-held-gt-MOST_DIGITS c = IfSome_then c.digits_among.result c.digits_among.ensures (λ r d. digits_of_front 19 c.args.held.now r.0 r.1 r.2 d)
