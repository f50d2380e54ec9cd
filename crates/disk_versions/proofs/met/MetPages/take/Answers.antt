use Rattle.std.proofs.Common.{◌∙◌, refl}
use Rattle.ds_disk.specs.Contents.{Contents}
use Rattle.ds_disk.specs.Pages.{page_at}
use Rattle.disk_versions.specs.Met.{AreMet, MeetsAlso}
use Rattle.disk_versions.specs.declared.met.MetPages.{MetPages}
use Rattle.disk_versions.proofs.Reading.{then_read}
use Rattle.disk_versions.proofs.Marks.{took}
use Rattle.disk_versions.proofs.met.MetPages.take.Goals as goal

pub returns-clause-met : goal.returns-clause-met
returns-clause-met g c =
    let read = c.in_ok-mark_all.ensures.met in
    let redone : MetPages = record { made = c.take.new.self; marks = c.mark_all.new.self.marks } in
    then_read _ _ _ _ _ _ (λ (d : Contents). AreMet (page_at d.pages) c.args.self.now → AreMet (page_at d.pages) c.mark_all.new.self) (λ _ (d : Contents). MeetsAlso (page_at d.pages) c.as_slice-2.result.now redone c.meet_all.new.self)
    (λ _ (d : Contents). AreMet (page_at d.pages) c.args.self.now → AreMet (page_at d.pages) c.meet_all.new.self) c.meet_all.result read.ok read.same read.later c.meet_all.ensures.met
    (λ (d : Contents) _ keeps meets known.
    took c.chain_laws.ensures.others (page_at d.pages) c.args.self.now c.mark_all.new.self redone c.meet_all.new.self c.args.it.now (c.as_slice.ensures ∙ c.in_ok-pages.ensures) (c.as_slice-2.ensures ∙ c.in_ok-pages.ensures)
    c.mark_all.ensures.made c.in_ok-mark_all.ensures.there keeps c.in_ok-take.ensures.ok c.take.ensures.range c.meet_all.ensures.made meets refl known)
