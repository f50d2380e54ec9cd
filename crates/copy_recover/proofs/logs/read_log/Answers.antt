use Rattle.std.proofs.Common.{Err, ap}
use Rattle.copy_recover.proofs.Log_steps.{log_read, log_damaged}
use Rattle.copy_recover.proofs.logs.read_log.Goals as goal

pub returns-in-Ok-clause-reads : goal.returns-in-Ok-clause-reads
returns-in-Ok-clause-reads g c =
    log_read (g.D.Disk.contents c.args.disk.now) (g.D.Disk.contents c.open_log.new.disk) (g.D.Disk.faults c.args.disk.now) (g.D.Disk.faults c.open_log.new.disk) c.args.member c.in-Ok.log c.in-Ok.ensures.member
    c.in-Ok.ensures.answers.ok.2 c.in-Ok.ensures.cause.later

pub returns-in-Err-Damaged-clause-reads : goal.returns-in-Err-Damaged-clause-reads
returns-in-Err-Damaged-clause-reads g c =
    let found = c.in-Err-Damaged.ensures.answers.damaged c.in-Err-Damaged.at (ap Err c.in-Err-Damaged.field-0-is) in
    log_damaged (g.D.Disk.contents c.args.disk.now) (g.D.Disk.contents c.open_log.new.disk) (g.D.Disk.faults c.args.disk.now) (g.D.Disk.faults c.open_log.new.disk) c.args.member c.in-Err-Damaged.at c.damaged.result
    found.2 c.in-Err-Damaged.ensures.cause.later c.damaged.ensures
