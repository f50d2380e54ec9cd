use Rattle.std.proofs.Common.{◌≡◌, ℕ, Some, nat_eq, subst}
use Rattle.ds_base.specs.declared.names.PageId.{PageId}
use Rattle.cache_structure.specs.Frames.{is_page}
use Rattle.cache_structure.specs.Slots.{Table, page_in}
use Rattle.cache_structure.proofs.Tables.{pages_apart}
use Rattle.cache_structure.proofs.table.EntryTable.pages_are_apart.Goals as goal

pub returns-clause-apart : goal.returns-clause-apart
returns-clause-apart c =
    subst (λ (t : Table). (f s : ℕ) (id : PageId) → page_in t.slots f ≡ Some id → is_page id (page_in t.slots s) ≡ nat_eq s f) c.self.view_is
    (pages_apart _ _ _ c.self.invariant.0)
