use Rattle.std.proofs.Common.{◌≤◌, arith}
use Rattle.disk_logs.proofs.Members.{same_on}
use Rattle.disk_logs.proofs.Ending.{end_told, end_made, end_broken}
use Rattle.disk_logs.proofs.ends.end_of_log.Goals as goal

pub returns-in-Broken : goal.returns-in-Broken
returns-in-Broken g c =
    let p = c.in_ok-at.ensures in
    record {
      ok = end_broken (g.D.Disk.contents c.args.disk.now) c.args.member c.in-Broken.at c.in_ok-at.field-0 c.in-Broken.is p.ok;
      failed = λ e. absurd cc;
      same = p.same;
      later = p.later;
    }

pub returns-in_ok-torn-in-Whole : goal.returns-in_ok-torn-in-Whole
returns-in_ok-torn-in-Whole g c =
    let p = c.in_ok-at.ensures in
    let q = c.in_ok-torn-in-Whole.ensures in
    let first = p.later in
    let second = q.later in
    record {
      ok =
          end_made (g.D.Disk.contents c.args.disk.now) c.args.member c.in-Whole.at c.with_tail.result c.in_ok-torn-in-Whole.torn c.with_tail.ensures
          (end_told c.reading_laws.ensures.again (g.D.Disk.contents c.args.disk.now) (g.D.Disk.contents c.pass_all.new.disk) c.args.member c.in-Whole.at c.in_ok-at.field-0 c.in_ok-torn-in-Whole.torn c.in-Whole.is p.ok p.same q.ok);
      failed = λ e. absurd cc;
      same = same_on _ _ _ p.same q.same;
      later = omega (arith, first, second);
    }
