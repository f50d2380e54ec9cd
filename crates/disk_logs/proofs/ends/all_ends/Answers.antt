use Rattle.std.proofs.Common.{◌≡◌, ◌+◌, ◌∙◌, ap, length, length-append, arith}
use Rattle.disk_logs.proofs.Members.{same_on, member_is}
use Rattle.disk_logs.proofs.Ending.{found_ended, found_broken}
use Rattle.disk_logs.proofs.ends.all_ends.Goals as goal

pub returns-in-Broken : goal.returns-in-Broken
returns-in-Broken g c =
    let held = c.loop-index.invariant in
    let start = c.args.disk.now in
    let read = c.in_ok-at.ensures in
    let member = member_is c.new.result (c.loop-index.index + 1) c.in-Some.member c.new.ensures (cc) in
    let first = held.later in
    let second = read.later in
    record {
      ends = record {
        ok =
            found_broken (g.D.Disk.contents start) (g.D.Disk.contents c.loop-index.disk) c.loop-index.index c.in-Some.member c.in-Broken.at c.in_ok-at.field-0 c.loop-index.ends.items
            (g.D.Disk.has_logs start) (omega arith) member c.in-Broken.is held.told held.same read.ok;
        failed = λ e. absurd cc;
        same = same_on _ _ _ held.same read.same;
        later = omega (arith, first, second);
      };
      count = tt;
    }

pub loop-index-preserved : goal.loop-index-preserved
loop-index-preserved g c =
    let held = c.loop-index.invariant in
    let start = c.args.disk.now in
    let read = c.in_ok-at.ensures in
    let member = member_is c.new.result (c.loop-index.index + 1) c.in-Some.member c.new.ensures (cc) in
    let put = c.in_ok-put-in-Whole.ensures in
    let count = held.count in
    let first = held.later in
    let second = read.later in
    record {
      told =
          found_ended (g.D.Disk.contents start) (g.D.Disk.contents c.loop-index.disk) c.loop-index.index c.in-Some.member c.in-Whole.at c.in_ok-at.field-0 c.loop-index.ends.items c.put.new.ends.items
          (g.D.Disk.has_logs start) (omega arith) member c.in-Whole.is put held.told held.same read.ok;
      count = ap length put ∙ length-append c.loop-index.ends.items _ ∙ omega (arith, count);
      same = same_on _ _ _ held.same read.same;
      later = omega (arith, first, second);
    }
