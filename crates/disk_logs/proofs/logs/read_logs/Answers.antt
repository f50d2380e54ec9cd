use Rattle.std.proofs.Common.{◌+◌, arith}
use Rattle.disk_logs.proofs.Members.{all_told, member_is, found_broken, found_more, more_some, count_more}
use Rattle.disk_logs.proofs.logs.read_logs.Goals as goal

pub returns-in-Broken : goal.returns-in-Broken
returns-in-Broken g c =
    let held = c.loop-index.invariant in
    let start = c.args.disk.now in
    record {
      reads =
          found_broken (g.D.Disk.contents start) (g.D.Disk.contents c.loop-index.disk) _ _ _ _ c.loop-index.index c.in-Some.member c.in-Broken.at c.loop-index.logs c.look.result
          (g.D.Disk.has_logs start) (omega arith) (member_is c.new.result (c.loop-index.index + 1) c.in-Some.member c.new.ensures (cc)) held.told held.same held.later c.look.ensures.reads (cc);
      some = tt;
    }

pub loop-index-preserved : goal.loop-index-preserved
loop-index-preserved g c =
    let held = c.loop-index.invariant in
    let start = c.args.disk.now in
    let member = member_is c.new.result (c.loop-index.index + 1) c.in-Some.member c.new.ensures (cc) in
    let more =
    found_more (g.D.Disk.contents start) (g.D.Disk.contents c.loop-index.disk) _ _ _ _ c.loop-index.index c.in-Some.member c.loop-index.logs _ c.in-Whole.log c.look.result
    (g.D.Disk.has_logs start) (omega arith) member held.told held.same held.later c.look.ensures.reads (cc) c.in_ok-push-in-Whole.ensures.ok
    in
    record {
      told = more.0;
      some = more_some c.loop-index.index c.in-Some.member c.loop-index.logs _ c.in-Whole.log c.look.result held.some held.count member c.look.ensures.some (cc) c.in_ok-push-in-Whole.ensures.ok;
      count = count_more c.loop-index.index c.loop-index.logs _ c.in-Whole.log held.count c.in_ok-push-in-Whole.ensures.ok;
      same = more.1;
      later = more.2;
    }

pub returns : goal.returns
returns g c =
    let held = c.loop-index.invariant in
    let start = c.args.disk.now in
    record {
      reads = record {
        ok = all_told (g.D.Disk.contents start) c.loop-index.index c.loop-index.logs (g.D.Disk.has_logs start) (omega arith) held.told;
        failed = λ e. absurd cc;
        same = held.same;
        later = held.later;
      };
      some = held.some;
    }
