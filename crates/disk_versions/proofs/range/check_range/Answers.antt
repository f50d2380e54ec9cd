use Rattle.std.proofs.Common.{◌≡◌, ℕ, ◌+◌, ◌-◌, ◌*◌, ◌<◌, ◌≤◌, ap, ◌∙◌, arith}
use Rattle.redone_pages.specs.declared.range.TableRange.{TableRange}
use Rattle.disk_versions.specs.Told.{page_sets}
use Rattle.disk_versions.specs.Ranged.{sets_before, sets_up_to}
use Rattle.disk_versions.proofs.Reading.{same_self, same_on}
use Rattle.disk_versions.proofs.Set_steps.{count_on}
use Rattle.disk_versions.proofs.Ranging.{sets_start, set_added, set_wrong_in, sets_end}
use Rattle.disk_versions.proofs.range.check_range.Goals as goal

pub loop-before-init : goal.loop-before-init
loop-before-init g c =
    let is = c.range-range.ensures in
    let from = c.heap_set-from.ensures in
    record {
      told = sets_start (g.D.Disk.contents c.args.disk.now) c.args.met.now c.args.renews c.args.behind _ (ap (λ (n : ℕ). n - 1) from ∙ ap sets_before is);
      same = same_self (g.D.Disk.contents c.args.disk.now);
      later = omega arith;
      count = omega arith;
    }

pub returns-in-Unplaced : goal.returns-in-Unplaced
returns-in-Unplaced g c =
    let held = c.loop-before.invariant in
    let read = c.in_ok-found.ensures.told in
    let value = c.number.ensures.value in
    let few = c.number.ensures.range in
    record {
      ok =
          set_wrong_in (g.D.Disk.contents c.args.disk.now) (g.D.Disk.contents c.loop-before.disk) c.args.met.now c.args.renews c.args.behind c.loop-before.before c.loop-before.pages c.in-Unplaced.id c.in_ok-found.found
          c.in-Unplaced.is (omega (arith, value, few)) held.same held.told read.ok;
      failed = λ e. absurd cc;
      same = same_on _ _ _ held.same read.same;
      later = (let a = held.later in let b = read.later in omega (arith, a, b));
    }

pub loop-before-preserved : goal.loop-before-preserved
loop-before-preserved g c =
    let held = c.loop-before.invariant in
    let read = c.in_ok-found.ensures.told in
    record {
      told =
          set_added (g.D.Disk.contents c.args.disk.now) (g.D.Disk.contents c.loop-before.disk) c.args.met.now c.args.renews c.args.behind c.loop-before.before c.loop-before.pages c.in-All.more c.in_ok-found.found
          c.in-All.is held.same held.told read.ok;
      same = same_on _ _ _ held.same read.same;
      later = (let a = held.later in let b = read.later in omega (arith, a, b));
      count = count_on c.loop-before.before c.loop-before.pages c.in-All.more c.in_ok-found.found c.in-All.is c.in_ok-found.ensures.bound held.count;
    }

pub returns : goal.returns
returns g c =
    let held = c.loop-before.invariant in
    let is = c.range-range.ensures in
    let value = c.number.ensures.value in
    let last : c.range-range.result.last ≡ c.args.met.now.made.range.last = ap (λ (r : TableRange). r.last) is in
    let first : c.range-range.result.first ≡ c.args.met.now.made.range.first = ap (λ (r : TableRange). r.first) is in
    let from = c.heap_set-from.ensures in
    let some = c.requires in
    let up_to = c.loop-before.auto.before-end in
    let end : c.loop-before.before ≡ 2 * c.args.met.now.made.range.last = omega (arith, value, last, first, from, some, up_to) in
    record {
      ok = sets_end (g.D.Disk.contents c.args.disk.now) c.args.met.now c.args.renews c.args.behind c.loop-before.before c.loop-before.pages end held.told;
      failed = λ e. absurd cc;
      same = held.same;
      later = held.later;
    }
