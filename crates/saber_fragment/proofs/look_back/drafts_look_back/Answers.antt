use Rattle.saber_fragment.proofs.LookingBack.{drafts_look_back}
use Rattle.saber_fragment.proofs.look_back.drafts_look_back.Goals as goal

pub returns : goal.returns
returns c q n r t size windows fits = drafts_look_back q n r t size windows fits
