use Rattle.std.proofs.Common.{Bool}
use Rattle.ds_disk.specs.Contents.{Contents}
use Rattle.ds_disk.specs.Pages.{page_at}
use Rattle.sound_disk.specs.Versions.{current}
use Rattle.disk_versions.specs.Met.{IsSameNow}
use Rattle.disk_versions.proofs.Reading.{no_read}
use Rattle.disk_versions.proofs.Marks.{unlike}
use Rattle.disk_versions.proofs.met.is_same_now.Goals as goal

pub returns-then-not-is_its : goal.returns-then-not-is_its
returns-then-not-is_its g c =
    no_read _ _ (λ (same : Bool) (d : Contents). IsSameNow c.args.image.now (page_at d.pages c.args.id) c.args.lrsn same) _
    (λ (d : Contents) is. unlike c.args.image.now (current (page_at d.pages c.args.id)) c.args.lrsn c.bears-is_its.result c.bears-is_its.ensures c.if-not-is_its.true is)
