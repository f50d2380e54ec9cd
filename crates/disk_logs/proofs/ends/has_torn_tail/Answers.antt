use Rattle.std.proofs.Common.{◌≡◌, ℕ, ◌+◌, ◌≤◌, List, length, drop, sym, subst, arith}
use Rattle.ds_disk.specs.Contents.{Contents, log_of, WhenTold}
use Rattle.disk_logs.proofs.Members.{same_on}
use Rattle.disk_logs.proofs.Ending.{untorn_told, torn_told}
use Rattle.disk_logs.proofs.ends.has_torn_tail.Goals as goal

pub returns-then-long : goal.returns-then-long
returns-then-long g c =
    let p = c.in_ok-length.ensures in
    record {
      ok =
          untorn_told c.reading_laws.ensures.again c.whole_laws.ensures.framed (g.D.Disk.contents c.args.disk.now) c.args.member c.args.at c.in_ok-length.length c.saturating_sub-tail.result c.is_long-long.result c.saturating_sub-tail.ensures
          c.is_long-long.ensures c.if-long.true p.ok;
      failed = λ e. absurd cc;
      same = p.same;
      later = p.later;
    }

pub returns : goal.returns
returns g c =
    let p = c.in_ok-length.ensures in
    let q = c.in_ok-bytes.ensures in
    let first = p.later in
    let second = q.later in
    record {
      ok =
          torn_told (g.D.Disk.contents c.args.disk.now) (g.D.Disk.contents c.length_of.new.disk) c.args.member c.args.at c.in_ok-length.length c.saturating_sub-tail.result c.deref.result.now c.in_ok-torn.torn c.saturating_sub-tail.ensures
          c.in_ok-torn.ensures p.ok p.same (subst (λ (l : List ℕ). WhenTold (g.D.Disk.contents c.length_of.new.disk) (λ (d : Contents). length (log_of d.logs c.args.member) ≤ c.args.at + c.saturating_sub-tail.result → l ≡ drop c.args.at (log_of d.logs c.args.member))) (sym c.deref.ensures.value) q.ok);
      failed = λ e. absurd cc;
      same = same_on _ _ _ p.same q.same;
      later = omega (arith, first, second);
    }
