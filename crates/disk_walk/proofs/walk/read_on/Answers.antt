use Rattle.std.proofs.Common.{arith}
use Rattle.disk_walk.proofs.Walking.{kept_on}
use Rattle.disk_walk.proofs.walk.read_on.Goals as goal

pub returns-clause-kept : goal.returns-clause-kept
returns-clause-kept g c =
    let p = c.in_ok-read_at.ensures in
    record {
      ok = kept_on c.heads_laws.ensures.next (g.D.Disk.contents c.args.disk.now) c.args.member c.args.at _ c.args.heads.now c.fill.new.self c.read_at.new.into (omega arith) c.requires p.ok c.in_ok-fill.ensures.ok c.in_ok-fill.ensures.goes;
      failed = λ e. absurd cc;
      same = p.same;
      later = p.later;
    }
