use Rattle.std.proofs.Common.{◌≡◌, ◌≤◌, ◌∙◌, refl, arith}
use Rattle.disk_walk.proofs.Reading.{same_self, same_on}
use Rattle.space_check.proofs.Scanning.{none_scanned, more_scanned, all_scanned}
use Rattle.space_check.proofs.walk.scan_left.Goals as goal

pub loop-init : goal.loop-init
loop-init g c = record {
  scan = λ range early is. is;
  range = c.requires.range;
  scanned = none_scanned (g.D.Disk.contents c.args.disk.now) c.args.heads.now.heads c.args.scan.now;
  block = refl;
  same = same_self (g.D.Disk.contents c.args.disk.now);
  later = omega arith;
}

pub returns-in-End-clause-scanned : goal.returns-in-End-clause-scanned
returns-in-End-clause-scanned g c =
    let held = c.loop.invariant in
    let read = c.in_ok-it.ensures.next in
    let first = held.later in
    let second = read.later in
    record {
      ok =
          all_scanned (g.D.Disk.contents c.args.disk.now) (g.D.Disk.contents c.loop.disk) c.args.heads.now.heads c.loop.heads.heads c.next_of_all.new.heads.heads c.args.scan.now c.loop.scan c.in_ok-it.field-0
          held.scanned held.same read.ok c.in-End.is;
      failed = λ e. absurd cc;
      same = same_on _ _ _ held.same read.same;
      later = omega (arith, first, second);
    }

pub loop-preserved : goal.loop-preserved
loop-preserved g c =
    let held = c.loop.invariant in
    let read = c.in_ok-it.ensures.next in
    let then = c.in_ok-take_any-in-Record.ensures.scanned in
    let first = held.later in
    let second = read.later in
    let third = then.later in
    record {
      scan = λ range early is. c.in_ok-take_any-in-Record.ensures.scan range early (held.scan range early is);
      range = c.in_ok-take_any-in-Record.ensures.range;
      scanned =
          more_scanned (g.D.Disk.contents c.args.disk.now) (g.D.Disk.contents c.loop.disk) (g.D.Disk.contents c.next_of_all.new.disk) c.args.heads.now.heads c.loop.heads.heads c.next_of_all.new.heads.heads c.args.scan.now c.loop.scan
          c.take_any.new.self c.in_ok-it.field-0 _ c.in-Record.it held.scanned held.same read.ok c.in-Record.is (same_on _ _ _ held.same read.same) then.ok;
      block = c.in_ok-it.ensures.block ∙ held.block;
      same = same_on _ _ _ (same_on _ _ _ held.same read.same) then.same;
      later = omega (arith, first, second, third);
    }
