-- Which form can keep a part.
use Rattle.std.proofs.Common.{◌≡◌, subst}
use Rattle.saber_plan.specs.Parts.{Part}
use Rattle.saber_partial.specs.Ones.{AreKeyless, IsOne}
use Rattle.saber_sliding.specs.Entries.{Entries, suffixes, CanFollow, Queue}
use Rattle.saber_sliding.specs.Forms.{queue_of, HasOne, Suits}
use Rattle.saber_sliding.specs.Waits.{waiting_entries, WaitsOne}
use Rattle.saber_sliding.specs.declared.form.Form.{Form}
use Rattle.saber_sliding.specs.declared.form.Form.TheVariants.{Groups, Ones}
use Rattle.saber_sliding.specs.declared.waiting.Waiting.{Waiting}
use Rattle.saber_sliding.specs.declared.waiting.Waiting.TheVariants as waiting
use Rattle.saber_sliding.proofs.Stacked.{keyless_follow}

pub suits_kept : (p : Part) (f : Form) → HasOne f → CanFollow p (queue_of f).entries → (AreKeyless p → IsOne p) → Suits p f
suits_kept p (Groups q) h g k = tt
suits_kept p (Ones q) h g k = k (keyless_follow q.entries p h g)

-- behind parts of one group comes none with a key
pub ones_keyless : (p : Part) (f : Form) (q : Queue) → f ≡ Ones q → HasOne f → CanFollow p (queue_of f).entries → AreKeyless p
ones_keyless p f q e h g = keyless_follow q.entries p (subst HasOne e h) (subst (λ (o : Form). CanFollow p (queue_of o).entries) e g)

pub waiting_keyless : (p : Part) (w : Waiting) (es : Entries) → w ≡ waiting.Ones es → WaitsOne w → CanFollow p (suffixes (waiting_entries w)) → AreKeyless p
waiting_keyless p w es e h g = keyless_follow (suffixes es) p (subst WaitsOne e h) (subst (λ (o : Waiting). CanFollow p (suffixes (waiting_entries o))) e g)
