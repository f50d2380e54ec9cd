use Rattle.std.proofs.Common.{◌≡◌, ◌++◌, drop}
use Rattle.report_check.specs.Commits.{commits_of}
use Rattle.report_check.proofs.commits.put_commits.Given as goal

abbrev pub invariant-loop-item : goal.invariant-loop-item
invariant-loop-item l = l.out.items ++ commits_of (drop l.item-index l.records) ≡ l.fn.out.items ++ commits_of l.records
