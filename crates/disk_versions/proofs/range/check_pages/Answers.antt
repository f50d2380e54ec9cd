use Rattle.std.proofs.Common.{◌≡◌, ◌<◌, ◌≤◌, true, false, arith, rules}
use Rattle.disk_versions.proofs.Reading.{same_self, same_on}
use Rattle.disk_versions.proofs.Pages.{count_up, not_false}
use Rattle.disk_versions.proofs.Marks.{off_of}
use Rattle.disk_versions.proofs.Ranging.{pages_start, page_added, page_wrong_in}
use Rattle.disk_versions.proofs.range.check_pages.Goals as goal

pub loop-number-init : goal.loop-number-init
loop-number-init g c = record {
  told = pages_start (g.D.Disk.contents c.args.disk.now) c.args.met.now c.args.renews c.args.set;
  same = same_self (g.D.Disk.contents c.args.disk.now);
  later = omega arith;
  count = omega arith;
}

pub loop-number-preserved : goal.loop-number-preserved
loop-number-preserved g c =
    let held = c.loop-number.invariant in
    let read = c.in_ok-judged.ensures in
    let placed : c.in_ok-judged.judged.is_placed ≡ true = not_false c.in_ok-judged.judged.is_placed c.if-not-judged.false in
    record {
      told =
          page_added (g.D.Disk.contents c.args.disk.now) (g.D.Disk.contents c.loop-number.disk) c.args.met.now c.args.renews c.args.set c.loop-number.number c.loop-number.pages c.count_with-pages.result
          c.in_ok-judged.judged held.same placed c.count_with-pages.ensures held.told read.ok;
      same = same_on _ _ _ held.same read.same;
      later = (let a = held.later in let b = read.later in omega (arith, a, b));
      count = count_up c.loop-number.number c.loop-number.pages c.count_with-pages.result c.in_ok-judged.judged.is_written c.count_with-pages.ensures held.count;
    }

pub returns-then-not-judged-clause-told : goal.returns-then-not-judged-clause-told
returns-then-not-judged-clause-told g c =
    let held = c.loop-number.invariant in
    let read = c.in_ok-judged.ensures in
    let wrong : c.in_ok-judged.judged.is_placed ≡ false = search (rules, off_of) in
    record {
      ok =
          page_wrong_in (g.D.Disk.contents c.args.disk.now) (g.D.Disk.contents c.loop-number.disk) c.args.met.now c.args.renews c.args.set c.loop-number.number c.args.end c.loop-number.pages c.in_ok-judged.judged held.same (omega arith) wrong held.told read.ok;
      failed = λ e. absurd cc;
      same = same_on _ _ _ held.same read.same;
      later = (let a = held.later in let b = read.later in omega (arith, a, b));
    }
