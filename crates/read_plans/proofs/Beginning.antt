-- A restart that goes by the plan of what was read appends what fits the logs whole.
use Rattle.std.proofs.Common.{List, sym, subst, ◌∙◌}
use Rattle.restart_plan.specs.declared.opened.Closing.{Closing}
use Rattle.restart_plan.specs.declared.opened.Undo.{Undo}
use Rattle.restart_plan.specs.Plans.{plan_of}
use Rattle.group_restart.specs.Course.{plan_read}
use Rattle.sound_plans.specs.Courses.{UndoBegins}
use Rattle.sound_plans.specs.Ends.{EndAll}
use Rattle.sound_plans.specs.Queues.{ClosingsFit, QueueFits}
use Rattle.sound_reads.specs.Laws.{HaveGreatest}
use Rattle.sound_restarts.proofs.Numbers.{greatest_is}
use Rattle.read_plans.specs.Fits.{ClosingsReadFit, QueueReadFits, NumberIsRead, UndoOfReadBegins}

pub number_is_read : HaveGreatest → NumberIsRead
unfolding plan_of
number_is_read same c logs reads h are = greatest_is reads ∙ same c logs reads h are

pub undo_of_read_begins : ClosingsReadFit → QueueReadFits → NumberIsRead → UndoBegins → UndoOfReadBegins
undo_of_read_begins closings queue number begins ts c logs reads h sound are by ends =
    begins ts h logs (subst (ClosingsFit logs) (sym by.closings) (closings c logs reads sound are)) (subst (QueueFits logs) (sym by.undo) (queue c logs reads sound are)) (by.number ∙ number c logs reads sound are)
    (subst (λ (us : List Undo). EndAll ts h.plan.closings us logs) (sym by.undo) (subst (λ (cs : List Closing). EndAll ts cs (plan_read reads).undo logs) (sym by.closings) ends))
