use Rattle.std.proofs.Common.{◌≡◌, take}
use Rattle.report_check.specs.Records.{records_of}
use Rattle.report_check.specs.Commits.{new_commits}
use Rattle.report_check.proofs.Noting.{queues}
use Rattle.report_check.proofs.commits.new_commits.Given as goal

abbrev pub invariant-loop-i : goal.invariant-loop-i
invariant-loop-i l = queues l.commits.items ≡ new_commits l.had (records_of (take l.i l.logs))
