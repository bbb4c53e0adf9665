use Rattle.saber_engine.specs.Jobs.{tree_in}
use Rattle.saber_engine.proofs.Serves.{all_checked}
use Rattle.saber_engine.proofs.dealt.Dealt.new.Goals as goal

pub keepers_for-requires : goal.keepers_for-requires
keepers_for-requires g c = let (columns, may) = c.requires.share in record { checked = all_checked tree_in columns c.args.jobs.now may }
