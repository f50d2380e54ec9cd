-- The changed pages of a table, and the search for the next.
use Rattle.std.proofs.Common.{◌≡◌, ℕ, ◌+◌, ◌<◌, ◌≤◌, Bool, true, false, cond, List, length, Option, Some, None, refl, sym, ap, subst, ◌∙◌, true≢false, arith, nat_eq, slice_get}
use Rattle.std.specs.Prelude.{is_some, count_by}
use Rattle.std.specs.Option.{option_map_or}
use Rattle.std.proofs.lemmas.Bool.{eqb-true}
use Rattle.std.proofs.lemmas.Option.{none-some}
use Rattle.page_index.specs.Places.{Index}
use Rattle.page_index.proofs.CallerLemmas.{same_name, found_at, apart_by}
use Rattle.ds_base.specs.declared.names.PageId.{PageId}
use Rattle.cache_structure.specs.declared.slot.Slot.{Slot}
use Rattle.ds_base.specs.Pages.{same_page}
use Rattle.cache_structure.specs.Entries.{Entry}
use Rattle.cache_structure.specs.Slots.{Table, page_of as page_of_slot, holds, slot_at, find_slot, entry_in, entry_at, entries_in, changed_page}
use Rattle.cache_structure.specs.Order.{changed_in}
use Rattle.cache_structure.specs.Kept.{IsKept}
use Rattle.cache_structure.proofs.Views.{counted_by}
use Rattle.cache_structure.proofs.Tables.{holds_found, page_at_is, found, in_order}

entry_changed : (slot : Slot) (b : Option (List ℕ)) (id : PageId) → slot.page ≡ Some id → option_map_or (λ (e : Entry). e.changed) (entry_in slot b) false ≡ slot.changed
entry_changed slot b id e = grind arith

is_changed_slot : (slot : Slot) (b : Option (List ℕ)) → is_some (changed_page slot) ≡ option_map_or (λ (e : Entry). e.changed) (entry_in slot b) false
is_changed_slot slot b = by slot.page slot.changed refl refl
  where
    by : (o : Option PageId) (c : Bool) → slot.page ≡ o → slot.changed ≡ c → is_some (changed_page slot) ≡ option_map_or (λ (e : Entry). e.changed) (entry_in slot b) false
    by None true e f = grind arith
    by None false e f = grind arith
    by (Some p) true e f = grind arith
    by (Some p) false e f = grind arith

pub count_is : (t : Table) → count_by (λ f. is_some (changed_page (slot_at t.slots f))) t.order ≡ count_by (λ (e : Entry). e.changed) (entries_in t)
count_is t = sym (counted_by (entry_at t) (λ e. e.changed) (λ f. is_some (changed_page (slot_at t.slots f))) t.order (λ x. is_changed_slot (slot_at t.slots x) (slice_get t.pages x)))

module _ (t : Table) (places : Index) (used : ℕ) (kept : IsKept t places used) where
  page_of : (slot : Slot) (id : PageId) → changed_page slot ≡ Some id → (slot.changed ≡ true) × (slot.page ≡ Some id)
  page_of slot id e = by slot.changed refl
    where
      by : (b : Bool) → slot.changed ≡ b → (slot.changed ≡ true) × (slot.page ≡ Some id)
      by true c = (c, sym (ap (λ b. cond b slot.page None) c) ∙ e)
      by false c = absurd (none-some id (sym (ap (λ b. cond b slot.page None) c) ∙ e))

  pub slot_changed : (s : ℕ) (id : PageId) → changed_page (slot_at t.slots s) ≡ Some id → changed_in t id ≡ true
  slot_changed s id e =
      let is = page_of (slot_at t.slots s) id e in
      ap (λ o. option_map_or (λ (e : Entry). e.changed) o false) (found t places used kept id ∙ ap (λ r. option_map_or (entry_at t) r None) (found_at page_of_slot t.slots (apart_by page_of_slot t.slots places kept.index) s id (page_at_is t.slots s ∙ is.1)))
      ∙ entry_changed (slot_at t.slots s) (slice_get t.pages s) id is.1
      ∙ is.0

  pub changed_slot : (id : PageId) → changed_in t id ≡ true → (s : ℕ) × (s < length t.slots) × (changed_page (slot_at t.slots s) ≡ Some id)
  changed_slot id h = by (find_slot t.slots id) refl
    where
      named : (s : ℕ) (o : Option PageId) → (slot_at t.slots s).page ≡ o → holds id (slot_at t.slots s) ≡ true → option_map_or (λ (e : Entry). e.changed) (entry_at t s) false ≡ true → changed_page (slot_at t.slots s) ≡ Some id
      named s None page held changed = absurd (true≢false (sym held ∙ ap (λ o. option_map_or (same_page id) o false) page))
      named s (Some p) page held changed =
          ap (λ b. cond b (slot_at t.slots s).page None) (sym (entry_changed (slot_at t.slots s) (slice_get t.pages s) p page) ∙ changed)
          ∙ page
          ∙ ap (λ q. Some q) (sym (same_name id p (sym (ap (λ o. option_map_or (same_page id) o false) page) ∙ held)))

      by : (o : Option ℕ) → find_slot t.slots id ≡ o → (s : ℕ) × (s < length t.slots) × (changed_page (slot_at t.slots s) ≡ Some id)
      by None e =
          absurd (true≢false (sym h ∙ ap (λ o. option_map_or (λ (e : Entry). e.changed) o false) (found t places used kept id ∙ ap (λ r. option_map_or (entry_at t) r None) e)))
      by (Some s) e =
          let at = holds_found t.slots id s e in (
            s,
            in_order t places used kept s id at,
            named s (slot_at t.slots s).page refl at
                (sym (ap (λ o. option_map_or (λ (e : Entry). e.changed) o false) (found t places used kept id ∙ ap (λ r. option_map_or (entry_at t) r None) e)) ∙ h),
          )
