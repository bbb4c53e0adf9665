use Rattle.std.proofs.Common.{sym, subst}
use Rattle.saber_sliding.specs.Entries.{CanFollow}
use Rattle.saber_sliding.proofs.Suited.{suits_kept}
use Rattle.saber_sliding.proofs.form.Form.suit.Goals as goal

pub returns-then-not-has_no_key-clause-suits : goal.returns-then-not-has_no_key-clause-suits
returns-then-not-has_no_key-clause-suits c =
    suits_kept c.args.part.now c.be_of_groups.new.self c.be_of_groups.ensures.kept (subst (CanFollow c.args.part.now) (sym c.be_of_groups.ensures.entries) c.requires) c.has_no_key.ensures.keyless
