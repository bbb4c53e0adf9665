-- The two forms of a queue, as they are seen.
use Rattle.saber_plan.specs.Parts.{Part}
use Rattle.saber_partial.specs.Ones.{IsOne}
use Rattle.saber_sliding.specs.Entries.{Queue, whole}
use Rattle.saber_sliding.specs.declared.form.Form.{Form}
use Rattle.saber_sliding.specs.declared.form.Form.TheVariants.{Groups, Ones}

abbrev pub queue_of : Form → Queue
queue_of (Groups q) = q
queue_of (Ones q) = q

-- that of one group each has an entry, without a key
abbrev pub HasOne : Form → Type 0
HasOne (Groups q) = Unit {0}
HasOne (Ones q) = IsOne (whole q.entries)

-- it can keep the part
abbrev pub Suits : Part → Form → Type 0
Suits p (Groups q) = Unit {0}
Suits p (Ones q) = IsOne p
