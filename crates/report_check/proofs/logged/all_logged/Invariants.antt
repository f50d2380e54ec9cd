use Rattle.std.proofs.Common.{◌≡◌, List, drop}
use Rattle.ds_model.specs.declared.log.LogRecord.{LogRecord}
use Rattle.report_check.specs.Ledgers.{HasRecords}
use Rattle.report_check.proofs.Noting.{queues}
use Rattle.report_check.proofs.Walking.{Walks}
use Rattle.report_check.proofs.logged.all_logged.Given as goal

abbrev pub invariant-loop-entry : goal.invariant-loop-entry
invariant-loop-entry l = record {
  equal : l.logged ≡ l.rows;
  walks : (logs : List (List LogRecord)) → HasRecords logs l.ledger → Walks logs (queues l.fn.commits) (queues l.commits) l.fn.rows l.rows l.entries (drop l.entry-index l.entries);
}
