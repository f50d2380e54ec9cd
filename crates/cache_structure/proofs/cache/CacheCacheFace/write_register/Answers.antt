use Rattle.std.proofs.Common.{ap, ◌∙◌}
use Rattle.cache_structure.specs.Slots.{Table, page_in}
use Rattle.cache_structure.specs.State.{CacheState}
use Rattle.cache_structure.proofs.cache.CacheCacheFace.write_register.Goals as goal

pub invalidate-requires-clause-page : goal.invalidate-requires-clause-page
invalidate-requires-clause-page c =
    ap (λ pages. pages c.in-Some.at) c.write.ensures.pages
    ∙ ap (λ (w : CacheState). page_in w.table.slots c.in-Some.at) c.self-2.view_is
    ∙ c.in-Some.ensures.page

pub register-requires-clause-page : goal.register-requires-clause-page
register-requires-clause-page c =
    ap (λ (t : Table). page_in t.slots c.in-Some.at) c.invalidate.ensures.table
    ∙ ap (λ pages. pages c.in-Some.at) c.write.ensures.pages
    ∙ ap (λ (w : CacheState). page_in w.table.slots c.in-Some.at) c.self-2.view_is
    ∙ c.in-Some.ensures.page
