use Rattle.std.proofs.Common.{◌≡◌, drop}
use Rattle.log_reader.specs.Begin.{behind_all}
use Rattle.log_reader.proofs.begin.behind_all.Given as goal

abbrev pub invariant-loop-it : goal.invariant-loop-it
invariant-loop-it l = behind_all l.at (drop l.it-index l.records) ≡ behind_all 0 l.records
