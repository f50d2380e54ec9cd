-- The records of changes of rows have room, and rows lie in their pages.
use Rattle.std.proofs.Common.{◌≡◌, ◌≢◌, ℕ, ◌+◌, ◌-◌, ◌<◌, ◌≤◌, lit≤, refl, sym, arith, Bool, true, false, List, ◌++◌, length, replicate, length-append, Option, None, Some, Result, Ok, Err}
use Rattle.std.specs.Prelude.{nat_lt}
use Rattle.std.proofs.lemmas.Bool.{ltb-true}
use Rattle.std.proofs.lemmas.List.{length-replicate}
use Rattle.std.proofs.lemmas.Option.{none-some}
use Rattle.ds_base.specs.declared.names.PageId.{PageId}
use Rattle.ds_model.specs.declared.log.RowChange.{RowChange}
use Rattle.ds_model.specs.declared.log.Body.TheVariants as body
use Rattle.ds_model.specs.declared.log.Version.TheVariants as version
use Rattle.ds_model.specs.RecordBytes.{change_bytes, length_of, lrsn_bytes, state_bytes}
use Rattle.log_record.proofs.Sizes.{number_length}
use Rattle.log_record.specs.Changes.{inverse}
use Rattle.page_format.specs.Header.{header_of}
use Rattle.page_format.specs.declared.header.Header.{Header}
use Rattle.page_format.specs.declared.header.NotAPage.{NotAPage}
use Rattle.heap_space.specs.Slots.{Content, content, fault_in, head, image, slot_in}
use Rattle.page_redo.specs.Rows.{headed_fault, kind_fault, or_fault, row_fault, slot_fault}
use Rattle.page_redo.proofs.Slots.{slots_of}
use Rattle.page_plans.specs.Rows.{row_in, row_of}
use Rattle.page_plans.proofs.Slots.{row_page, value_at}
use Rattle.page_numbers.specs.Numbers.{HasSlot}
use Rattle.page_numbers.specs.Recorded.{IsShort}

-- ---- how many bytes records have
state_length : (o : Option (List ℕ)) → IsShort o → length (state_bytes o) ≤ 102
state_length None short = lit≤ tt
state_length (Some value) short = omega (arith, short)

change_length : (c : RowChange) → IsShort c.before → IsShort c.after → length (change_bytes c) ≤ 219
change_length c before after = omega (arith, state_length c.before before, state_length c.after after, length-append (state_bytes c.before) (state_bytes c.after))

pub row_length : (c : RowChange) → IsShort c.before → IsShort c.after → length_of (body.RowChange c) ≤ 249
row_length c before after = omega (arith, change_length c before after)

-- a compensation, and the Ended record behind it
pub back_length : (c : RowChange) (undone : ℕ) → IsShort c.before → IsShort c.after → length_of (body.Compensation (inverse c) undone) + length_of body.Ended ≤ 289
back_length c undone before after =
    omega (arith, change_length (inverse c) after before, length-append (change_bytes (inverse c)) (lrsn_bytes version.Two undone), number_length version.Two undone)

-- ---- a row lies in its page
image_length : (key : ℕ) (value : Option (List ℕ)) → IsShort value → length (image key value) ≡ 128
image_length key None short = refl
image_length key (Some value) short =
    let zero : ℕ = 0 in
    let rest : List ℕ = replicate (112 - length value) zero in
    let long : length rest ≡ 112 - length value = length-replicate (112 - length value) zero in
    let both : length (value ++ rest) ≡ length value + length rest = length-append value rest in
    let all : length (image key (Some value)) ≡ 16 + length (value ++ rest) = length-append (head 2 (length value) key) (value ++ rest) in
    omega (arith, short, long, both, all)

pub has_slot : (c : RowChange) → c.place.slot < 31 → IsShort c.after → HasSlot c
has_slot c below short = let long = image_length c.key c.after short in record { slot = below; lies = omega (arith, below, long) }

-- ---- where a page shows that it has the row of a key in a slot
pub record IsRowAt (id : PageId) (slot : ℕ) (page : List ℕ) : Type 0 where
  pub behind : id.number ≢ 0
  pub below : slot < 31
  pub sound : fault_in page slot ≡ None

both_none : (o other : Option ℕ) → or_fault o other ≡ None → (o ≡ None) × (other ≡ None)
both_none None other e = (refl, e)
both_none (Some at) other e = absurd (none-some at (sym e))

pub row_at : (id : PageId) (slot key : ℕ) (page : List ℕ) → row_fault id slot key page ≡ None → IsRowAt id slot page
row_at id slot key page none = by (header_of page id) refl none
  where
    counted : (h : Header) → header_of page id ≡ Ok h → kind_fault h.kind ≡ None → (b : Bool) → nat_lt slot h.count ≡ b → slot_fault slot key page h ≡ None → IsRowAt id slot page
    counted h is kind true l e =
        let few = slots_of page id h is kind in
        let below = ltb-true slot h.count l in
        record { behind = row_page page id slot key none; below = omega (arith, few, below); sound = (both_none (fault_in page slot) _ (rw l at e)).0 }
    counted h is kind false l e = absurd (none-some _ (sym (rw l at e)))

    by : (r : Result Header NotAPage) → header_of page id ≡ r → headed_fault slot key page r ≡ None → IsRowAt id slot page
    by (Err e) is x = absurd (none-some e.at (sym x))
    by (Ok h) is x =
        let both = both_none (kind_fault h.kind) (slot_fault slot key page h) x in
        counted h is both.0 (nat_lt slot h.count) refl both.1

-- ---- the row that lies there
short_in : (page : List ℕ) (slot : ℕ) (c : Content) → fault_in page slot ≡ None → c ≡ content (slot_in page slot) → IsShort (row_in c)
short_in page slot None sound e = tt
short_in page slot (Some (key, None)) sound e = tt
short_in page slot (Some (key, Some value)) sound e = (value_at page slot key value sound e).0

pub row_short : (page : List ℕ) (slot : ℕ) → fault_in page slot ≡ None → IsShort (row_of slot page)
row_short page slot sound = short_in page slot (content (slot_in page slot)) sound refl
