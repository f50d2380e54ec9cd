use Rattle.std.proofs.Common.{take}
use Rattle.report_check.specs.Records.{records_of}
use Rattle.report_check.specs.Ledgers.{HasRecords}
use Rattle.report_check.proofs.ledger.ledger_of.Given as goal

abbrev pub invariant-loop-i : goal.invariant-loop-i
invariant-loop-i l = HasRecords (records_of (take l.i l.logs)) l.ledger
