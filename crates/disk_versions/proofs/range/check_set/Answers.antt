use Rattle.std.proofs.Common.{◌≡◌, ℕ, subst}
use Rattle.ds_disk.specs.Contents.{Contents}
use Rattle.ds_disk.specs.Pages.{page_at}
use Rattle.disk_versions.specs.Ends.{pages_read}
use Rattle.disk_versions.specs.Met.{AreMet}
use Rattle.disk_versions.specs.Placing.{IsSetTold}
use Rattle.disk_versions.specs.declared.set.Placing.{Placing}
use Rattle.disk_versions.proofs.Reading.{then_read}
use Rattle.disk_versions.proofs.range.check_set.Goals as goal

pub returns-clause-told : goal.returns-clause-told
returns-clause-told g c =
    let read = c.in_ok-end.ensures.told in
    then_read _ _ _ _ _ _ (λ (d : Contents). c.in_ok-end.end ≡ pages_read (page_at d.pages) c.args.met.now.made.records c.args.behind c.args.set)
    (λ (found : Placing) (d : Contents). AreMet (page_at d.pages) c.args.met.now → IsSetTold (page_at d.pages) c.args.met.now.made.records c.args.renews c.args.set c.in_ok-end.end found)
    (λ (found : Placing) (d : Contents). AreMet (page_at d.pages) c.args.met.now → IsSetTold (page_at d.pages) c.args.met.now.made.records c.args.renews c.args.set (pages_read (page_at d.pages) c.args.met.now.made.records c.args.behind c.args.set) found)
    c.check_pages.result read.ok read.same read.later c.check_pages.ensures.told
    (λ (d : Contents) (found : Placing) is told known. subst (λ (n : ℕ). IsSetTold (page_at d.pages) c.args.met.now.made.records c.args.renews c.args.set n found) is (told known))
