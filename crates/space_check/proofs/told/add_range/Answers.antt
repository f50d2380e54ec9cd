use Rattle.std.proofs.Common.{◌≤◌, sym, subst, arith}
use Rattle.redone_pages.specs.declared.range.TableRange.{TableRange}
use Rattle.disk_walk.proofs.Reading.{same_on}
use Rattle.space_check.proofs.Adding.{scan_itself, adds_early, range_told, range_wrong}
use Rattle.space_check.proofs.told.add_range.Goals as goal

pub add_scan-requires-clause-range : goal.add_scan-requires-clause-range
add_scan-requires-clause-range g c = subst (λ (r : TableRange). r.first ≤ r.last) (sym c.in_ok-scan.ensures.scan.range_is) c.requires.range

pub check_range-requires : goal.check_range-requires
check_range-requires g c = subst (λ (r : TableRange). r.first ≤ r.last) (sym c.in_ok-scan.ensures.scan.range_is) c.requires.range

pub add_scan-requires-clause-scan : goal.add_scan-requires-clause-scan
add_scan-requires-clause-scan g c = scan_itself c.args.range c.args.is_early c.in_ok-scan.scan c.in_ok-scan.ensures.scan

pub returns-in-Unplaced : goal.returns-in-Unplaced
returns-in-Unplaced g c =
    let first = c.in_ok-scan.ensures.scanned in
    let read = c.in_ok-placed.ensures in
    record {
      ok =
          range_wrong (g.D.Disk.contents c.args.disk.now) (g.D.Disk.contents c.scan_tables.new.disk) c.args.is_early c.args.ends.now c.args.renews c.args.behind c.args.range c.in_ok-scan.scan c.in_ok-placed.placed c.in-Unplaced.id c.args.told.now
          c.in-Unplaced.is c.in_ok-scan.ensures.scan.range_is first.ok first.same read.ok;
      failed = λ e. absurd cc;
      same = same_on _ _ _ first.same read.same;
      later = (let a = first.later in let b = read.later in omega (arith, a, b));
    }

pub returns : goal.returns
returns g c =
    let first = c.in_ok-scan.ensures.scanned in
    let read = c.in_ok-placed.ensures in
    record {
      ok =
          range_told (g.D.Disk.contents c.args.disk.now) (g.D.Disk.contents c.scan_tables.new.disk) c.args.is_early c.args.ends.now c.args.renews c.args.behind c.args.range c.in_ok-scan.scan c.in_ok-placed.placed c.in-All.pages c.args.told.now c.in_ok-told-in-All.told
          c.in-All.is c.in_ok-scan.ensures.scan.range_is (adds_early c.args.range c.args.is_early c.in_ok-scan.scan c.in-All.pages c.args.told.now c.in_ok-told-in-All.told c.in_ok-scan.ensures.scan c.in_ok-told-in-All.ensures) first.ok first.same read.ok;
      failed = λ e. absurd cc;
      same = same_on _ _ _ first.same read.same;
      later = (let a = first.later in let b = read.later in omega (arith, a, b));
    }
