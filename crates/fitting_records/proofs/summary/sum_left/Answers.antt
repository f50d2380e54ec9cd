use Rattle.std.proofs.Common.{◌∙◌, refl, arith}
use Rattle.disk_walk.proofs.Reading.{same_self, same_on}
use Rattle.fitting_records.proofs.Summing.{sum_starts, sum_goes, sum_ends}
use Rattle.fitting_records.proofs.summary.sum_left.Goals as goal

pub loop-init : goal.loop-init
loop-init g c = record {
  told = sum_starts c.passing_laws.ensures.none (g.D.Disk.contents c.args.disk.now) c.args.heads.now.heads c.in_ok-sums.sums c.in_ok-sums.ensures.nothing;
  olds = c.in_ok-sums.ensures.nothing.olds_count;
  ends = c.in_ok-sums.ensures.nothing.ends_count;
  count = c.in_ok-sums.ensures.count;
  block = refl;
  same = same_self (g.D.Disk.contents c.args.disk.now);
  later = omega arith;
}

pub returns-in-End-clause-sums : goal.returns-in-End-clause-sums
returns-in-End-clause-sums g c =
    let held = c.loop.invariant in
    let read = c.in_ok-member.ensures.next in
    let first = held.later in
    let second = read.later in
    record {
      ok =
          sum_ends (g.D.Disk.contents c.args.disk.now) (g.D.Disk.contents c.loop.disk) c.args.heads.now.heads c.loop.heads.heads c.next_of_all.new.heads.heads c.loop.sums c.in_ok-member.field-0 held.told held.same read.ok
          c.in-End.is;
      failed = λ e. absurd cc;
      same = same_on _ _ _ held.same read.same;
      later = omega (arith, first, second);
    }

pub loop-preserved : goal.loop-preserved
loop-preserved g c =
    let held = c.loop.invariant in
    let read = c.in_ok-member.ensures.next in
    let first = held.later in
    let second = read.later in
    record {
      told =
          sum_goes c.passing_laws.ensures.one (g.D.Disk.contents c.args.disk.now) (g.D.Disk.contents c.loop.disk) c.args.heads.now.heads c.loop.heads.heads c.next_of_all.new.heads.heads c.loop.sums c.take.new.self c.in_ok-member.field-0
          c.in-Record.member c.in-Record.it held.told held.same read.ok c.in-Record.is c.in_ok-take-in-Record.ensures.added;
      olds = c.in_ok-take-in-Record.ensures.olds;
      ends = c.in_ok-take-in-Record.ensures.ends;
      count = c.in_ok-take-in-Record.ensures.count ∙ held.count;
      block = c.in_ok-member.ensures.block ∙ held.block;
      same = same_on _ _ _ held.same read.same;
      later = omega (arith, first, second);
    }
