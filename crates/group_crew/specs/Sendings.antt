-- The command that an event of a member has sent.
use Rattle.std.specs.Prelude.{Option, Some, None}
use Rattle.facility.specs.declared.command.Command.{Command}
use Rattle.member_intents.specs.declared.outcome.Sent.{Sent}
use Rattle.member_intents.specs.declared.outcome.Sent.TheVariants as own
use Rattle.group_member.specs.declared.stepped.Stepped.{Stepped}
use Rattle.group_member.specs.declared.stepped.Stepped.TheVariants as steps
use Rattle.group_member.specs.Happening.{RebuildSent, RestartSent}
use Rattle.group_member.specs.Happening.rebuild_sent as rebuild
use Rattle.group_member.specs.Happening.restart_sent as restart

abbrev pub of_own : Sent → Option Command
of_own own.None = None
of_own (own.Command command) = Some command
of_own own.AppendLog = None
of_own (own.ReadPage page) = None
of_own (own.WritePage page) = None

abbrev pub of_restart : RestartSent → Option Command
of_restart restart.None = None
of_restart (restart.Command command) = Some command
of_restart restart.LogLength = None
of_restart (restart.ReadLog at count) = None
of_restart (restart.CutLog length) = None
of_restart restart.AppendLog = None
of_restart (restart.ReadPage page) = None

abbrev pub of_rebuild : RebuildSent → Option Command
of_rebuild rebuild.None = None
of_rebuild (rebuild.Command command) = Some command
of_rebuild (rebuild.LogLength member) = None
of_rebuild (rebuild.ReadLog member at count) = None
of_rebuild (rebuild.ReadPage page) = None
of_rebuild (rebuild.WritePage page) = None

abbrev pub command_of : Stepped → Option Command
command_of (steps.Sent sent answered) = of_own sent
command_of (steps.Restart sent answered) = of_restart sent
command_of (steps.Rebuild sent answered) = of_rebuild sent
command_of steps.Failed = None
