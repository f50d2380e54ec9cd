use Rattle.std.proofs.Common.{◌≡◌, false, [], ◌∷◌, sym, ◌∙◌, rules}
use Rattle.ds_disk.specs.Contents.{Contents}
use Rattle.ds_disk.specs.Pages.{page_at}
use Rattle.disk_versions.specs.Met.{MeetsAlso}
use Rattle.disk_versions.proofs.Reading.{no_read}
use Rattle.disk_versions.proofs.Marks.{other_meets, unmarked_meets, off_of}
use Rattle.disk_versions.proofs.met.MetPages.meet.Goals as goal

pub returns-then-not-has_page-clause-met : goal.returns-then-not-has_page-clause-met
returns-then-not-has_page-clause-met g c =
    let off : c.has_page.result ≡ false = search (rules, off_of) in
    no_read _ _ (λ _ (d : Contents). MeetsAlso (page_at d.pages) (c.args.id ∷ []) c.args.self.now c.args.self.now) _
    (λ (d : Contents). other_meets (page_at d.pages) c.args.self.now c.args.id c.range.result c.has_page.result c.range.ensures c.has_page.ensures.fact off)

pub returns-in-None-clause-met : goal.returns-in-None-clause-met
returns-in-None-clause-met g c =
    no_read _ _ (λ _ (d : Contents). MeetsAlso (page_at d.pages) (c.args.id ∷ []) c.args.self.now c.args.self.now) _
    (λ (d : Contents). unmarked_meets (page_at d.pages) c.args.self.now c.args.id (sym c.mark_of-old.ensures ∙ c.in-None.is))
