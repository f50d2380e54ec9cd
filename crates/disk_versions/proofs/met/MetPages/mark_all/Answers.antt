use Rattle.std.proofs.Common.{◌<◌, ◌≤◌, ◌∙◌, length, arith}
use Rattle.disk_versions.proofs.Reading.{same_on}
use Rattle.disk_versions.proofs.Marks.{marks_next, met_next}
use Rattle.disk_versions.proofs.met.MetPages.mark_all.Goals as goal

pub loop-id-preserved : goal.loop-id-preserved
loop-id-preserved g c =
    let held = c.loop-id.invariant in
    let read = c.in_ok-mark.ensures.met in
    let within : c.loop-id.id-index < length c.args.pages.now = omega arith in
    record {
      made = c.mark.ensures.made ∙ held.made;
      there = marks_next c.args.pages.now c.loop-id.id-index _ c.args.self.now c.loop-id.self c.mark.new.self within held.made held.there c.in_ok-mark.ensures.there;
      met = met_next (g.D.Disk.contents c.args.disk.now) (g.D.Disk.contents c.loop-id.disk) c.args.self.now c.loop-id.self c.mark.new.self held.met held.same read.ok;
      same = same_on _ _ _ held.same read.same;
      later = (let a = held.later in let b = read.later in omega (arith, a, b));
    }
