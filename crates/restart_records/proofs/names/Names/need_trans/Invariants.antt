use Rattle.std.proofs.Common.{◌≡◌, drop}
use Rattle.restart_records.specs.Names.{trans_needed}
use Rattle.restart_records.proofs.names.Names.need_trans.Given as goal

abbrev pub invariant-loop-it : goal.invariant-loop-it
invariant-loop-it l = trans_needed l.self (drop l.it-index l.opened) ≡ trans_needed l.fn.self l.opened
