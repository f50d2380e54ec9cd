use Rattle.std.proofs.Common.{◌≡◌, ◌≤◌, refl, arith}
use Rattle.disk_walk.proofs.Reading.{same_self, same_on}
use Rattle.space_check.proofs.Adding.{start_told, more_told, wrong_told, all_told}
use Rattle.space_check.proofs.ranges.tell_tables.Goals as goal

pub loop-tables-init : goal.loop-tables-init
loop-tables-init g c = record {
  told = start_told (g.D.Disk.contents c.args.disk.now) c.args.is_early c.args.ends.now c.args.renews c.args.behind c.new-told.result c.new-told.ensures;
  few = omega arith;
  same = same_self (g.D.Disk.contents c.args.disk.now);
  later = omega arith;
}

pub returns-in-Unplaced : goal.returns-in-Unplaced
returns-in-Unplaced g c =
    let held = c.loop-tables.invariant in
    let read = c.in_ok-found.ensures in
    record {
      ok =
          wrong_told (g.D.Disk.contents c.args.disk.now) (g.D.Disk.contents c.loop-tables.disk) c.args.is_early c.args.ends.now c.args.renews c.args.behind c.loop-tables.tables c.range_behind-range.result c.loop-tables.told c.in-Unplaced.id c.in_ok-found.found
          c.range_behind-range.ensures.first c.in-Unplaced.is held.told held.same read.ok;
      failed = λ e. absurd cc;
      same = same_on _ _ _ held.same read.same;
      later = (let a = held.later in let b = read.later in omega (arith, a, b));
    }

pub loop-tables-preserved : goal.loop-tables-preserved
loop-tables-preserved g c =
    let held = c.loop-tables.invariant in
    let read = c.in_ok-found.ensures in
    record {
      told =
          more_told (g.D.Disk.contents c.args.disk.now) (g.D.Disk.contents c.loop-tables.disk) c.args.is_early c.args.ends.now c.args.renews c.args.behind c.loop-tables.tables c.number-last.result c.range_behind-range.result c.loop-tables.told c.in-Told.more c.in_ok-found.found
          c.range_behind-range.ensures.first c.number-last.ensures.value c.in-Told.is held.told held.same read.ok;
      few = (let is = c.number-last.ensures.value in let few = c.range_behind-range.ensures.few in omega (arith, is, few));
      same = same_on _ _ _ held.same read.same;
      later = (let a = held.later in let b = read.later in omega (arith, a, b));
    }

pub returns : goal.returns
returns g c =
    let held = c.loop-tables.invariant in
    let few = held.few in
    record {
      ok = all_told (g.D.Disk.contents c.args.disk.now) c.args.is_early c.args.ends.now c.args.renews c.args.behind c.loop-tables.tables c.loop-tables.told (omega (arith, few)) held.told;
      failed = λ e. absurd cc;
      same = held.same;
      later = held.later;
    }
