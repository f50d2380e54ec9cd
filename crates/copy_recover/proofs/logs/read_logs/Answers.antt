use Rattle.std.proofs.Common.{ℕ, List, Result, arith}
use Rattle.ds_base.specs.declared.names.Volume.{Volume}
use Rattle.ds_disk.specs.Contents.{Contents}
use Rattle.log_record.specs.declared.log.Log.{Log}
use Rattle.table_copy.specs.Looking.{Looks}
use Rattle.table_copy.specs.declared.fault.CopyFault.{CopyFault}
use Rattle.table_copy.specs.declared.fault.CopyFault.TheVariants as fault
use Rattle.table_copy.proofs.Told.{same_self, same_on, handed_on}
use Rattle.copy_recover.specs.Recovering.{AreLogsOf}
use Rattle.copy_recover.specs.Reading.{IsUnread}
use Rattle.copy_recover.proofs.Log_steps.{none_read, one_read, all_read, not_read_on, wanting_logs}
use Rattle.copy_recover.proofs.logs.read_logs.Goals as goal

pub loop-n-init : goal.loop-n-init
loop-n-init g c = record {
  told = none_read (g.D.Disk.contents c.args.disk.now) c.new-logs.result c.new-logs.ensures;
  same = same_self (g.D.Disk.contents c.args.disk.now);
  later = omega arith;
}

pub loop-n-preserved : goal.loop-n-preserved
loop-n-preserved g c =
    let held = c.loop-n.invariant in
    let read = c.in_ok-log.ensures.reads in
    record {
      told =
          one_read (g.D.Disk.contents c.args.disk.now) (g.D.Disk.contents c.loop-n.disk) c.loop-n.n c.member_behind.result c.loop-n.logs _ c.in_ok-log.log (g.D.Disk.has_logs c.args.disk.now) c.loop-n-test.true
          c.member_behind.ensures held.same held.told read.ok c.in_ok-add.ensures.ok;
      same = same_on (g.D.Disk.contents c.args.disk.now) (g.D.Disk.contents c.loop-n.disk) _ held.same read.same;
      later = omega (arith, held.later, read.later);
    }

pub returns-in_err-log : goal.returns-in_err-log
returns-in_err-log g c =
    let held = c.loop-n.invariant in
    handed_on
    (λ (r : Result (List Log) CopyFault).
    Looks {T = List Log} (g.D.Disk.contents c.args.disk.now) (g.D.Disk.contents c.read_log.new.disk) (g.D.Disk.faults c.args.disk.now) (g.D.Disk.faults c.read_log.new.disk)
    (λ (logs : List Log) (x : Contents). AreLogsOf 1 x.logs logs) (λ (v : Volume) (at : ℕ) (x : Contents). (member : ℕ) × IsUnread x member v at) r)
    c.in_err-log.field-0.0 c.from_residual.result c.from_residual.ensures.1
    (not_read_on (g.D.Disk.contents c.args.disk.now) (g.D.Disk.contents c.loop-n.disk) (g.D.Disk.contents c.read_log.new.disk) (g.D.Disk.faults c.args.disk.now) (g.D.Disk.faults c.loop-n.disk)
    (g.D.Disk.faults c.read_log.new.disk) c.member_behind.result c.in_err-log.field-0.0 held.same held.later c.in_err-log.ensures.reads)

pub returns-in_err-add : goal.returns-in_err-add
returns-in_err-add g c =
    let held = c.loop-n.invariant in
    let read = c.in_ok-log.ensures.reads in
    handed_on
    (λ (r : Result (List Log) CopyFault).
    Looks {T = List Log} (g.D.Disk.contents c.args.disk.now) (g.D.Disk.contents c.read_log.new.disk) (g.D.Disk.faults c.args.disk.now) (g.D.Disk.faults c.read_log.new.disk)
    (λ (logs : List Log) (x : Contents). AreLogsOf 1 x.logs logs) (λ (v : Volume) (at : ℕ) (x : Contents). (member : ℕ) × IsUnread x member v at) r)
    fault.NoMemory c.from_residual-in_err-add.result c.from_residual-in_err-add.ensures.1
    (wanting_logs (g.D.Disk.contents c.args.disk.now) (g.D.Disk.contents c.read_log.new.disk) (g.D.Disk.faults c.args.disk.now) (g.D.Disk.faults c.read_log.new.disk)
    (same_on (g.D.Disk.contents c.args.disk.now) (g.D.Disk.contents c.loop-n.disk) (g.D.Disk.contents c.read_log.new.disk) held.same read.same) (omega (arith, held.later, read.later)))

pub returns : goal.returns
returns g c =
    let held = c.loop-n.invariant in
    all_read (g.D.Disk.contents c.args.disk.now) (g.D.Disk.contents c.loop-n.disk) _ _ c.loop-n.n c.loop-n.logs (g.D.Disk.has_logs c.args.disk.now) (omega arith) held.same held.later held.told
