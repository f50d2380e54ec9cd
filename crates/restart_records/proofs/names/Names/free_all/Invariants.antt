use Rattle.std.proofs.Common.{◌≡◌, drop}
use Rattle.restart_records.specs.Names.{all_freed}
use Rattle.restart_records.proofs.names.Names.free_all.Given as goal

abbrev pub invariant-loop-it : goal.invariant-loop-it
invariant-loop-it l = all_freed l.self (drop l.it-index l.records) ≡ all_freed l.fn.self l.records
