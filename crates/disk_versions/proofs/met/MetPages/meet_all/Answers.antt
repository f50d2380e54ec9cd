use Rattle.std.proofs.Common.{◌<◌, ◌≤◌, ◌∙◌, length, arith}
use Rattle.disk_versions.proofs.Reading.{same_on}
use Rattle.disk_versions.proofs.Marks.{meets_next, meets_whole}
use Rattle.disk_versions.proofs.met.MetPages.meet_all.Goals as goal

pub loop-id-preserved : goal.loop-id-preserved
loop-id-preserved g c =
    let held = c.loop-id.invariant in
    let read = c.in_ok-meet.ensures.met in
    let within : c.loop-id.id-index < length c.args.pages.now = omega arith in
    record {
      made = c.meet.ensures.made ∙ held.made;
      met = meets_next (g.D.Disk.contents c.args.disk.now) (g.D.Disk.contents c.loop-id.disk) c.args.pages.now c.loop-id.id-index _ c.args.self.now c.loop-id.self c.meet.new.self within held.made held.met held.same read.ok;
      same = same_on _ _ _ held.same read.same;
      later = (let a = held.later in let b = read.later in omega (arith, a, b));
    }

pub returns-clause-met : goal.returns-clause-met
returns-clause-met g c =
    let held = c.loop-id.invariant in
    record {
      ok = meets_whole (g.D.Disk.contents c.args.disk.now) c.args.pages.now c.loop-id.id-index c.args.self.now c.loop-id.self (omega arith) held.met;
      failed = λ e. absurd cc;
      same = held.same;
      later = held.later;
    }
