use Rattle.std.proofs.Common.{Err, ap}
use Rattle.disk_logs.proofs.Ending.{step_some, step_bad}
use Rattle.disk_logs.proofs.ends.pass_one.Goals as goal

pub returns-in-Ok-Some-clause-passed : goal.returns-in-Ok-Some-clause-passed
returns-in-Ok-Some-clause-passed g c =
    let p = c.in-Ok-Some.ensures.next in
    record {
      ok =
          step_some c.reading_laws.ensures.again c.reading_laws.ensures.cut (g.D.Disk.contents c.args.disk.now) c.args.member c.args.passing.now.head c.next_record.new.head c.args.passing.now.low c.count.new.low c.at-at.result
          c.in-Ok-Some.field-0 c.in-Ok-Some.it c.count.result c.in-Ok-Some.field-0-is c.count.ensures c.at-at.ensures c.in-Ok-Some.ensures.past p.ok;
      failed = λ e. absurd cc;
      same = p.same;
      later = p.later;
    }

pub returns-in-Err-Damaged-clause-passed : goal.returns-in-Err-Damaged-clause-passed
returns-in-Err-Damaged-clause-passed g c =
    let p = c.in-Err-Damaged.ensures.next in
    record {
      ok =
          step_bad c.reading_laws.ensures.again c.reading_laws.ensures.cut (g.D.Disk.contents c.args.disk.now) c.args.member c.args.passing.now.head c.next_record.new.head c.args.passing.now.low c.args.passing.now.low c.at-at.result
          c.in-Err-Damaged.field-0-0 c.at-at.ensures (p.damaged c.in-Err-Damaged.field-0-0 (ap Err c.in-Err-Damaged.field-0-is));
      failed = λ e. absurd cc;
      same = p.same;
      later = p.later;
    }
