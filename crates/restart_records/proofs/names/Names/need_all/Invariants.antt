use Rattle.std.proofs.Common.{◌≡◌, drop}
use Rattle.restart_records.specs.Names.{all_needed}
use Rattle.restart_records.proofs.names.Names.need_all.Given as goal

abbrev pub invariant-loop-it : goal.invariant-loop-it
invariant-loop-it l = all_needed l.self (drop l.it-index l.records) ≡ all_needed l.fn.self l.records
