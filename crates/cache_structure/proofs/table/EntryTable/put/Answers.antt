use Rattle.std.proofs.Common.{◌≡◌, ◌<◌, sym, ap, ◌∙◌, subst, true, length, slice_get}
use Rattle.std.specs.Option.{option_map}
use Rattle.cache_structure.specs.Slots.{Table, holds_at, slot_at, entry_at, entry_in, entries_in, changed_page}
use Rattle.cache_structure.specs.Listed.{changed_at}
use Rattle.cache_structure.specs.Entries.{at_entry}
use Rattle.cache_structure.proofs.Tables.{kept_put, put_entries, slot_read}
use Rattle.cache_structure.proofs.Listing.{same_changed, page_kept, set_has, set_lacks, has_room, relisted_by}
use Rattle.cache_structure.proofs.table.EntryTable.put.Goals as goal

pub relist-requires-clause-same : goal.relist-requires-clause-same
relist-requires-clause-same c =
    let t : Table = record { slots = c.self.inside.slots.items; pages = c.self.inside.pages.items; order = c.self.inside.order } in
    let l : c.args.at < length t.slots = subst (λ (t : Table). c.args.at < length t.slots) (sym c.self.view_is) c.requires.there in
    let page : c.args.slot.page ≡ (slot_at t.slots c.args.at).page = subst (λ (t : Table). c.args.slot.page ≡ (slot_at t.slots c.args.at).page) (sym c.self.view_is) c.requires.page in
    let before : c.changed_page-before.result ≡ changed_at t.slots c.args.at = c.changed_page-before.ensures ∙ ap changed_page (slot_read t.slots c.args.at c.index.result.now l c.index.ensures) in
    λ p q e f. same_changed (slot_at t.slots c.args.at) c.args.slot page p q (sym before ∙ e) (sym c.changed_page.ensures ∙ f)

pub relist-requires-clause-there : goal.relist-requires-clause-there
relist-requires-clause-there c =
    let t : Table = record { slots = c.self.inside.slots.items; pages = c.self.inside.pages.items; order = c.self.inside.order } in
    let l : c.args.at < length t.slots = subst (λ (t : Table). c.args.at < length t.slots) (sym c.self.view_is) c.requires.there in
    let page : c.args.slot.page ≡ (slot_at t.slots c.args.at).page = subst (λ (t : Table). c.args.slot.page ≡ (slot_at t.slots c.args.at).page) (sym c.self.view_is) c.requires.page in
    let before : c.changed_page-before.result ≡ changed_at t.slots c.args.at = c.changed_page-before.ensures ∙ ap changed_page (slot_read t.slots c.args.at c.index.result.now l c.index.ensures) in
    λ p e. set_has t _ _ c.self.invariant.0 _ c.self.invariant.1 c.args.at l p (sym before ∙ e)

pub relist-requires-clause-absent : goal.relist-requires-clause-absent
relist-requires-clause-absent c =
    let t : Table = record { slots = c.self.inside.slots.items; pages = c.self.inside.pages.items; order = c.self.inside.order } in
    let l : c.args.at < length t.slots = subst (λ (t : Table). c.args.at < length t.slots) (sym c.self.view_is) c.requires.there in
    let page : c.args.slot.page ≡ (slot_at t.slots c.args.at).page = subst (λ (t : Table). c.args.slot.page ≡ (slot_at t.slots c.args.at).page) (sym c.self.view_is) c.requires.page in
    let before : c.changed_page-before.result ≡ changed_at t.slots c.args.at = c.changed_page-before.ensures ∙ ap changed_page (slot_read t.slots c.args.at c.index.result.now l c.index.ensures) in
    λ q e f. set_lacks t _ _ c.self.invariant.0 _ c.self.invariant.1 c.args.at l q (sym before ∙ e) (page_kept (slot_at t.slots c.args.at) c.args.slot page q (sym c.changed_page.ensures ∙ f))

pub relist-requires-clause-room : goal.relist-requires-clause-room
relist-requires-clause-room c =
    let t : Table = record { slots = c.self.inside.slots.items; pages = c.self.inside.pages.items; order = c.self.inside.order } in
    let l : c.args.at < length t.slots = subst (λ (t : Table). c.args.at < length t.slots) (sym c.self.view_is) c.requires.there in
    let page : c.args.slot.page ≡ (slot_at t.slots c.args.at).page = subst (λ (t : Table). c.args.slot.page ≡ (slot_at t.slots c.args.at).page) (sym c.self.view_is) c.requires.page in
    let before : c.changed_page-before.result ≡ changed_at t.slots c.args.at = c.changed_page-before.ensures ∙ ap changed_page (slot_read t.slots c.args.at c.index.result.now l c.index.ensures) in
    λ q e f. has_room t _ _ c.self.invariant.0 _ c.self.invariant.1 c.args.at l q c.numbers_are_apart.ensures (sym before ∙ e) (page_kept (slot_at t.slots c.args.at) c.args.slot page q (sym c.changed_page.ensures ∙ f))

pub invariant_of-self : goal.invariant_of-self
invariant_of-self c =
    let t : Table = record { slots = c.self.inside.slots.items; pages = c.self.inside.pages.items; order = c.self.inside.order } in
    let l : c.args.at < length t.slots = subst (λ (t : Table). c.args.at < length t.slots) (sym c.self.view_is) c.requires.there in
    let page : c.args.slot.page ≡ (slot_at t.slots c.args.at).page = subst (λ (t : Table). c.args.slot.page ≡ (slot_at t.slots c.args.at).page) (sym c.self.view_is) c.requires.page in
    let before : c.changed_page-before.result ≡ changed_at t.slots c.args.at = c.changed_page-before.ensures ∙ ap changed_page (slot_read t.slots c.args.at c.index.result.now l c.index.ensures) in (
      kept_put t _ _ c.self.invariant.0 c.args.at c.args.slot l page,
      relisted_by t _ _ c.self.invariant.0 _ c.self.invariant.1 c.args.at l c.args.slot c.relist.new.changed c.changed_page-before.result c.changed_page.result before c.changed_page.ensures c.numbers_are_apart.ensures
          c.relist.ensures.pages c.relist.ensures.len c.relist.ensures.room,
    )

pub returns-clause-entries : goal.returns-clause-entries
returns-clause-entries c = λ id change h is.
    let l : c.args.at < length c.self.inside.slots.items = subst (λ (t : Table). c.args.at < length t.slots) (sym c.self.view_is) c.requires.there in
    put_entries _ _ _ c.self.invariant.0 c.args.at id c.args.slot change l
    (subst (λ (t : Table). holds_at t.slots c.args.at id ≡ true) (sym c.self.view_is) h)
    (subst (λ (t : Table). entry_in c.args.slot (slice_get t.pages c.args.at) ≡ option_map change (entry_at t c.args.at)) (sym c.self.view_is) is)
    ∙ ap (λ (t : Table). at_entry id change (entries_in t)) c.self.view_is
