use Rattle.saber_assembly.proofs.Joining.{gives_make_text, given_tasks_make_text}
use Rattle.saber_assembly.proofs.gives.gives_make_text.Goals as goal

pub returns-clause-alike : goal.returns-clause-alike
returns-clause-alike c = gives_make_text

pub returns-clause-each_way : goal.returns-clause-each_way
returns-clause-each_way c = given_tasks_make_text
