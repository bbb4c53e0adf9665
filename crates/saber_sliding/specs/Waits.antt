-- The two forms of parts that wait, as they are seen.
use Rattle.saber_partial.specs.Ones.{IsOne}
use Rattle.saber_sliding.specs.Entries.{Entries, suffixes, whole}
use Rattle.saber_sliding.specs.declared.waiting.Waiting.{Waiting}
use Rattle.saber_sliding.specs.declared.waiting.Waiting.TheVariants.{Groups, Ones}

abbrev pub waiting_entries : Waiting → Entries
waiting_entries (Groups es) = es.items
waiting_entries (Ones es) = es

-- those of one group each are some, without a key
abbrev pub WaitsOne : Waiting → Type 0
WaitsOne (Groups es) = Unit {0}
WaitsOne (Ones es) = IsOne (whole (suffixes es))
