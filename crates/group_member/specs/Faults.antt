-- Why the event of a member wasn't made, by the fault of what it runs.
use Rattle.member_intents.specs.declared.test.StepFault.{StepFault}
use Rattle.member_intents.specs.declared.test.StepFault.TheVariants as stepping
use Rattle.rebuild_resources.specs.declared.intent.RebuildFault.{RebuildFault}
use Rattle.rebuild_resources.specs.declared.intent.RebuildFault.TheVariants as rebuilding
use Rattle.restart_marks.specs.declared.intent.RestartFault.{RestartFault}
use Rattle.restart_marks.specs.declared.intent.RestartFault.TheVariants as restarting
use Rattle.group_member.specs.declared.fault.EventFault.{EventFault}
use Rattle.group_member.specs.declared.fault.EventFault.TheVariants as faults

abbrev pub step_fault : StepFault → EventFault
step_fault (stepping.Unlawful test) = faults.Unlawful
step_fault stepping.NotExecutable = faults.Unlawful
step_fault stepping.NoMemory = faults.NoMemory

abbrev pub rebuild_fault : RebuildFault → EventFault
rebuild_fault (rebuilding.Unlawful test) = faults.Unlawful
rebuild_fault rebuilding.NotExecutable = faults.Unlawful
rebuild_fault rebuilding.NoMemory = faults.NoMemory

abbrev pub restart_fault : RestartFault → EventFault
restart_fault (restarting.Unlawful test) = faults.Unlawful
restart_fault restarting.NotExecutable = faults.Unlawful
restart_fault restarting.NoMemory = faults.NoMemory
