use Rattle.std.proofs.Common.{◌≡◌}
use Rattle.ds_disk.specs.Contents.{Contents}
use Rattle.ds_disk.specs.Pages.{page_at}
use Rattle.disk_versions.specs.Met.{AreMet, IsFresh}
use Rattle.disk_versions.proofs.Reading.{one_read}
use Rattle.disk_versions.proofs.Marks.{fresh_met}
use Rattle.disk_versions.proofs.met.MetPages.mark_fresh.Goals as goal

pub returns-clause-met : goal.returns-clause-met
returns-clause-met g c =
    let read = c.in_ok-mark.ensures in
    one_read _ _ _ _ (λ (d : Contents). IsFresh (page_at d.pages c.args.id) c.in_ok-mark.mark) (λ _ (d : Contents). AreMet (page_at d.pages) c.args.self.now → AreMet (page_at d.pages) c.put.new.self) _ read.ok read.same read.later
    (λ (d : Contents) fresh met. fresh_met c.chain_laws.ensures.others (page_at d.pages) c.args.self.now c.put.new.self c.args.id c.in_ok-mark.mark c.put.ensures.made c.in_ok-put.ensures.put c.requires fresh met)
