use Rattle.ds_disk.specs.Contents.{Contents}
use Rattle.ds_disk.specs.Pages.{page_at}
use Rattle.page_chain.specs.Chains.{images_of}
use Rattle.std.proofs.Common.{[], ◌∷◌}
use Rattle.disk_versions.specs.Met.{IsNextMark, MeetsAlso}
use Rattle.disk_versions.proofs.Reading.{one_read}
use Rattle.disk_versions.proofs.Marks.{marked_meets}
use Rattle.disk_versions.proofs.met.MetPages.meet_marked.Goals as goal

pub returns-clause-met : goal.returns-clause-met
returns-clause-met g c =
    let read = c.in_ok-next.ensures in
    one_read _ _ _ _ (λ (d : Contents). IsNextMark (images_of c.args.self.now.made.records c.args.id) (page_at d.pages c.args.id) c.args.mark.now c.in_ok-next.next) (λ _ (d : Contents). MeetsAlso (page_at d.pages) (c.args.id ∷ []) c.args.self.now c.put.new.self) _
    read.ok read.same read.later
    (λ (d : Contents) now. marked_meets (page_at d.pages) c.args.self.now c.put.new.self c.args.id c.args.mark.now c.in_ok-next.next c.put.ensures.made c.requires.mark c.in_ok-put.ensures.put now)
