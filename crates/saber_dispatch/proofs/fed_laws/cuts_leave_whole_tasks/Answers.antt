use Rattle.saber_dispatch.proofs.FedTasks.{cuts_leave_whole_tasks}
use Rattle.saber_dispatch.proofs.fed_laws.cuts_leave_whole_tasks.Goals as goal

pub returns : goal.returns
returns c = cuts_leave_whole_tasks
