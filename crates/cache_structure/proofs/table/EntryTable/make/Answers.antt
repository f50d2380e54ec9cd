use Rattle.std.proofs.Common.{◌≡◌, inl, inr, ◌+◌, arith, ◌<◌, sym, ap, ◌∙◌, subst, length, None, slice_set}
use Rattle.std.specs.Option.{option_map_or}
use Rattle.std.proofs.lemmas.Option.{none-some}
use Rattle.page_index.specs.Places.{IsIndexOf}
use Rattle.page_index.proofs.CallerLemmas.{own}
use Rattle.cache_structure.specs.Slots.{Table, page_of, slot_at, find_slot, entry_at, entries_in, holds, changed_page}
use Rattle.cache_structure.specs.Entries.{fresh, newest, without}
use Rattle.cache_structure.specs.Kept.{IsKept}
use Rattle.cache_structure.proofs.Tables.{kept_made, made, in_free, in_taken, no_bytes, slot_read, slot_here}
use Rattle.cache_structure.proofs.Listing.{set_has, relisted_by, listed_last}
use Rattle.cache_structure.proofs.table.EntryTable.make.Goals as goal

pub enter-requires-clause-index : goal.enter-requires-clause-index
enter-requires-clause-index c = subst (λ fs. IsIndexOf page_of fs c.self.inside.index) (sym c.as_slice.ensures.value) c.self.invariant.0.index

pub enter-requires-clause-alone : goal.enter-requires-clause-alone
enter-requires-clause-alone c = λ f is.
    let none : find_slot c.self.inside.slots.items c.args.id ≡ None = subst (λ (t : Table). find_slot t.slots c.args.id ≡ None) (sym c.self.view_is) c.requires.alone in
    absurd (none-some f (sym none ∙ ap (λ fs. find_slot fs c.args.id) (sym c.as_slice.ensures.value) ∙ is))

pub overflow_add-self : goal.overflow_add-self
overflow_add-self c =
    let p = c.self.inside in
    let l : c.args.at < length p.slots.items = subst (λ (t : Table). c.args.at < length t.slots) (sym c.self.view_is) c.requires.there in
    let read = slot_read p.slots.items c.args.at c.index.result.now l c.index.ensures in
    let next : (slot_at p.slots.items c.args.at).page ≡ None → c.args.at ≡ length (entries_in (record { slots = c.self.inside.slots.items; pages = c.self.inside.pages.items; order = c.self.inside.order })) =
    subst (λ (t : Table). (slot_at t.slots c.args.at).page ≡ None → c.args.at ≡ length (entries_in t)) (sym c.self.view_is) c.requires.next in
    let free = in_free (record { slots = c.self.inside.slots.items; pages = c.self.inside.pages.items; order = c.self.inside.order }) _ _ c.self.invariant.0 c.args.at c.index.result.now read (sym c.is_free-was_free.ensures ∙ c.if-was_free.true) next in
    let small = c.self.invariant.0.small in
    let is = free.2 in
    omega (arith, small, is, l)

pub relist-requires-clause-there : goal.relist-requires-clause-there
relist-requires-clause-there c =
    let p = c.self.inside in
    let l : c.args.at < length p.slots.items = subst (λ (t : Table). c.args.at < length t.slots) (sym c.self.view_is) c.requires.there in
    let before : c.changed_page-before.result ≡ changed_page (slot_at p.slots.items c.args.at) = c.changed_page-before.ensures ∙ ap changed_page (slot_read p.slots.items c.args.at c.index-2.result.now l c.index-2.ensures) in
    λ q e. set_has (record { slots = c.self.inside.slots.items; pages = c.self.inside.pages.items; order = c.self.inside.order }) _ _ c.self.invariant.0 _ c.self.invariant.1 c.args.at l q (sym before ∙ e)

pub invariant_of-self : goal.invariant_of-self
invariant_of-self c =
    let p = c.self.inside in
    let l : c.args.at < length p.slots.items = subst (λ (t : Table). c.args.at < length t.slots) (sym c.self.view_is) c.requires.there in
    let read = slot_read p.slots.items c.args.at c.index.result.now l c.index.ensures in
    let next : (slot_at p.slots.items c.args.at).page ≡ None → c.args.at ≡ length (entries_in (record { slots = c.self.inside.slots.items; pages = c.self.inside.pages.items; order = c.self.inside.order })) =
    subst (λ (t : Table). (slot_at t.slots c.args.at).page ≡ None → c.args.at ≡ length (entries_in t)) (sym c.self.view_is) c.requires.next in
    let free = in_free (record { slots = c.self.inside.slots.items; pages = c.self.inside.pages.items; order = c.self.inside.order }) _ _ c.self.invariant.0 c.args.at c.index.result.now read (sym c.is_free-was_free.ensures ∙ c.if-was_free.true) next in (
      subst (λ slot. IsKept (record { slots = slice_set p.slots.items c.args.at slot; pages = p.pages.items; order = c.make_newest.new.self }) c.enter.new.self (p.used + 1)) (sym c.holding.ensures)
          (kept_made (record { slots = c.self.inside.slots.items; pages = c.self.inside.pages.items; order = c.self.inside.order }) _ _ c.self.invariant.0 c.args.at c.args.id c.make_newest.new.self c.enter.new.self (p.used + 1) l c.make_newest.ensures.distinct c.make_newest.ensures.order
          (c.make_newest.ensures.whole (length p.slots.items) l c.self.invariant.0.whole)
          (subst (λ fs. IsIndexOf page_of fs c.enter.new.self) (ap (λ fs. slice_set fs c.args.at c.holding.result) c.as_slice.ensures.value ∙ ap (slice_set p.slots.items c.args.at) c.holding.ensures)
          (c.enter.ensures.index c.holding.result (ap page_of c.holding.ensures)))
          (inl free)),
      listed_last (slice_set p.slots.items c.args.at c.holding.result) p.order c.make_newest.new.self c.relist.new.changed c.args.at
          (relisted_by (record { slots = c.self.inside.slots.items; pages = c.self.inside.pages.items; order = c.self.inside.order }) _ _ c.self.invariant.0 _ c.self.invariant.1 c.args.at l c.holding.result c.relist.new.changed
          c.changed_page-before.result None (c.changed_page-before.ensures ∙ ap changed_page (slot_read p.slots.items c.args.at c.index-2.result.now l c.index-2.ensures)) (sym (ap changed_page c.holding.ensures)) c.make_newest.ensures.distinct
          c.relist.ensures.pages c.relist.ensures.len c.relist.ensures.room)
          c.make_newest.ensures.distinct (c.self.invariant.0.whole.covers c.args.at l) c.make_newest.ensures.order,
    )

pub invariant_of-self-else-was_free : goal.invariant_of-self-else-was_free
invariant_of-self-else-was_free c =
    let p = c.self.inside in
    let l : c.args.at < length p.slots.items = subst (λ (t : Table). c.args.at < length t.slots) (sym c.self.view_is) c.requires.there in
    let read = slot_read p.slots.items c.args.at c.index.result.now l c.index.ensures in
    let taken = in_taken (record { slots = c.self.inside.slots.items; pages = c.self.inside.pages.items; order = c.self.inside.order }) _ _ c.self.invariant.0 c.args.at c.index.result.now read (sym c.is_free-was_free.ensures ∙ c.if-was_free.false) in (
      subst (λ slot. IsKept (record { slots = slice_set p.slots.items c.args.at slot; pages = p.pages.items; order = c.make_newest.new.self }) c.enter.new.self p.used) (sym c.holding.ensures)
          (kept_made (record { slots = c.self.inside.slots.items; pages = c.self.inside.pages.items; order = c.self.inside.order }) _ _ c.self.invariant.0 c.args.at c.args.id c.make_newest.new.self c.enter.new.self p.used l c.make_newest.ensures.distinct c.make_newest.ensures.order
          (c.make_newest.ensures.whole (length p.slots.items) l c.self.invariant.0.whole)
          (subst (λ fs. IsIndexOf page_of fs c.enter.new.self) (ap (λ fs. slice_set fs c.args.at c.holding.result) c.as_slice.ensures.value ∙ ap (slice_set p.slots.items c.args.at) c.holding.ensures)
          (c.enter.ensures.index c.holding.result (ap page_of c.holding.ensures)))
          (inr taken)),
      listed_last (slice_set p.slots.items c.args.at c.holding.result) p.order c.make_newest.new.self c.relist.new.changed c.args.at
          (relisted_by (record { slots = c.self.inside.slots.items; pages = c.self.inside.pages.items; order = c.self.inside.order }) _ _ c.self.invariant.0 _ c.self.invariant.1 c.args.at l c.holding.result c.relist.new.changed
          c.changed_page-before.result None (c.changed_page-before.ensures ∙ ap changed_page (slot_read p.slots.items c.args.at c.index-2.result.now l c.index-2.ensures)) (sym (ap changed_page c.holding.ensures)) c.make_newest.ensures.distinct
          c.relist.ensures.pages c.relist.ensures.len c.relist.ensures.room)
          c.make_newest.ensures.distinct (c.self.invariant.0.whole.covers c.args.at l) c.make_newest.ensures.order,
    )

pub returns-then-was_free-clause-here : goal.returns-then-was_free-clause-here
returns-then-was_free-clause-here c =
    let p = c.self.inside in
    let l : c.args.at < length p.slots.items = subst (λ (t : Table). c.args.at < length t.slots) (sym c.self.view_is) c.requires.there in
    ap (holds c.args.id) (slot_here p.slots.items c.args.at c.holding.result l ∙ c.holding.ensures) ∙ own c.args.id

pub returns-then-was_free-clause-bytes : goal.returns-then-was_free-clause-bytes
returns-then-was_free-clause-bytes c =
    let p = c.self.inside in
    let l : c.args.at < length p.slots.items = subst (λ (t : Table). c.args.at < length t.slots) (sym c.self.view_is) c.requires.there in
    no_bytes (record { slots = slice_set p.slots.items c.args.at c.holding.result; pages = p.pages.items; order = c.make_newest.new.self }) c.args.at c.args.id
    (slot_here p.slots.items c.args.at c.holding.result l ∙ c.holding.ensures)

pub returns-then-was_free-clause-entries : goal.returns-then-was_free-clause-entries
returns-then-was_free-clause-entries c =
    let p = c.self.inside in
    let l : c.args.at < length p.slots.items = subst (λ (t : Table). c.args.at < length t.slots) (sym c.self.view_is) c.requires.there in
    ap (λ slot. entries_in (record { slots = slice_set p.slots.items c.args.at slot; pages = p.pages.items; order = c.make_newest.new.self })) c.holding.ensures
    ∙ made (record { slots = c.self.inside.slots.items; pages = c.self.inside.pages.items; order = c.self.inside.order }) _ _ c.self.invariant.0 c.args.at c.args.id c.make_newest.new.self l (subst (λ (t : Table). find_slot t.slots c.args.id ≡ None) (sym c.self.view_is) c.requires.alone) c.make_newest.ensures.order
    ∙ ap (λ (t : Table). newest (fresh c.args.id) (option_map_or (λ e. without e.page (entries_in t)) (entry_at t c.args.at) (entries_in t))) c.self.view_is

pub returns-else-was_free-clause-here : goal.returns-else-was_free-clause-here
returns-else-was_free-clause-here c =
    let p = c.self.inside in
    let l : c.args.at < length p.slots.items = subst (λ (t : Table). c.args.at < length t.slots) (sym c.self.view_is) c.requires.there in
    ap (holds c.args.id) (slot_here p.slots.items c.args.at c.holding.result l ∙ c.holding.ensures) ∙ own c.args.id

pub returns-else-was_free-clause-bytes : goal.returns-else-was_free-clause-bytes
returns-else-was_free-clause-bytes c =
    let p = c.self.inside in
    let l : c.args.at < length p.slots.items = subst (λ (t : Table). c.args.at < length t.slots) (sym c.self.view_is) c.requires.there in
    no_bytes (record { slots = slice_set p.slots.items c.args.at c.holding.result; pages = p.pages.items; order = c.make_newest.new.self }) c.args.at c.args.id
    (slot_here p.slots.items c.args.at c.holding.result l ∙ c.holding.ensures)

pub returns-else-was_free-clause-entries : goal.returns-else-was_free-clause-entries
returns-else-was_free-clause-entries c =
    let p = c.self.inside in
    let l : c.args.at < length p.slots.items = subst (λ (t : Table). c.args.at < length t.slots) (sym c.self.view_is) c.requires.there in
    ap (λ slot. entries_in (record { slots = slice_set p.slots.items c.args.at slot; pages = p.pages.items; order = c.make_newest.new.self })) c.holding.ensures
    ∙ made (record { slots = c.self.inside.slots.items; pages = c.self.inside.pages.items; order = c.self.inside.order }) _ _ c.self.invariant.0 c.args.at c.args.id c.make_newest.new.self l (subst (λ (t : Table). find_slot t.slots c.args.id ≡ None) (sym c.self.view_is) c.requires.alone) c.make_newest.ensures.order
    ∙ ap (λ (t : Table). newest (fresh c.args.id) (option_map_or (λ e. without e.page (entries_in t)) (entry_at t c.args.at) (entries_in t))) c.self.view_is
