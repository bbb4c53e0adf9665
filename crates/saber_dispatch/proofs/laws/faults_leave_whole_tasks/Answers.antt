use Rattle.saber_dispatch.proofs.Leavings.{faults_leave_whole_tasks}
use Rattle.saber_dispatch.proofs.laws.faults_leave_whole_tasks.Goals as goal

pub returns : goal.returns
returns c = faults_leave_whole_tasks
