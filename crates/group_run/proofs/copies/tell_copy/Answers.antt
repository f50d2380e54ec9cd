use Rattle.std.proofs.Common.{sym, ◌∙◌}
use Rattle.group_run.proofs.Copying.{sink_status}
use Rattle.group_run.proofs.copies.tell_copy.Goals as goal

pub tell_line-requires : goal.tell_line-requires
tell_line-requires g c = λ e. c.requires c.in-Unopened.why c.in-Unopened.is (sink_status c.in-Unopened.why (sym c.copy_status-in-Unopened.ensures ∙ e))
