-- The answers of windows, and what changes between them.
use Rattle.saber_laws.specs.Words.{AnswersAreOfParts, LastAnswersStay}
use Rattle.saber_laws.proofs.EndLaws.{answers_upto}
use Rattle.saber_laws.proofs.AssemblyLaws.{last_stays}

pub answers_are_of_parts : AnswersAreOfParts
answers_are_of_parts q i xs y = answers_upto q i xs y

pub last_answers_stay : LastAnswersStay
last_answers_stay q w r x y o a = last_stays q w r x y o a
