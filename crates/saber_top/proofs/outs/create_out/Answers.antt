use Rattle.std.proofs.Common.{◌∙◌, Err, inl, inr, refl, ap}
use Rattle.saber_io.specs.Outs.{after_naming}
use Rattle.saber_top.proofs.MadeLemmas.{not_both}
use Rattle.saber_top.proofs.outs.create_out.Goals as goal

-- the name was asked for, of a file that was created
pub returns-in-Ok-clause-asked : goal.returns-in-Ok-clause-asked
returns-in-Ok-clause-asked g c = c.in-Ok.ensures.asked (λ e. cc) ∙ ap (after_naming (g.U.Outs.asked c.args.outs.now)) (c.deref.ensures ∙ c.in_ok-name.ensures)

pub returns-in-Err-Failed-clause-refused : goal.returns-in-Err-Failed-clause-refused
returns-in-Err-Failed-clause-refused g c =
    inl (refl, c.create_file.ensures.asked (not_both c.create_file.result (c.in-Err-Failed.is ∙ ap Err c.in-Err-Failed.field-0-is)) ∙ ap (after_naming (g.U.Outs.asked c.args.outs.now)) (c.deref.ensures ∙ c.in_ok-name.ensures))

pub returns-clause-refused : goal.returns-clause-refused
returns-clause-refused g c = inr (refl, c.create_file.ensures.unasked (c.in-Err-NoMemory.is ∙ ap Err c.in-Err-NoMemory.field-0-is))
