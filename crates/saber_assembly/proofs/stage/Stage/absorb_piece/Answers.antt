use Rattle.std.proofs.Common.{◌≢◌, rules, ap, ◌∙◌, Err}
use Rattle.saber_io.specs.declared.outside.WriteFault.TheVariants.{NoMemory}
use Rattle.saber_assembly.proofs.Prefixes.{all_added, prefix_as, some_text}
use Rattle.saber_assembly.proofs.stage.Stage.absorb_piece.Goals as goal

pub returns-in-Err-Failed-clause-failed : goal.returns-in-Err-Failed-clause-failed
returns-in-Err-Failed-clause-failed g c e r x y next =
    prefix_as _ _ _ _ _ _ c.deref.ensures.value (c.in-Ok.ensures.text r x y next) c.new-text.ensures.items (c.in-Err-Failed.ensures.failed (ap Err c.in-Err-Failed.field-0-is))

pub returns-in-Ok-write_text-clause-one : goal.returns-in-Ok-write_text-clause-one
returns-in-Ok-write_text-clause-one g c e r x y next some =
    let whole : c.write_text.result ≢ Err NoMemory = search rules in
    c.write_text.ensures.one whole (some_text _ _ _ _ c.deref.ensures.value (c.in-Ok.ensures.text r x y next) c.new-text.ensures.items some)

pub returns-in-Ok-write_text-clause-no_text : goal.returns-in-Ok-write_text-clause-no_text
returns-in-Ok-write_text-clause-no_text g c e r x y next none =
    c.write_text.ensures.no_text (all_added _ _ _ _ c.deref.ensures.value (c.in-Ok.ensures.text r x y next) c.new-text.ensures.items ∙ none)
