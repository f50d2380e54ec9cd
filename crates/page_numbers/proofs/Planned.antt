-- What an intent has planned.
use Rattle.std.proofs.Common.{◌≡◌, ℕ, refl, sym, ap, subst, ◌∙◌, Bool, true, false, List, [], ◌∷◌, length, Option, None, Some, Result, Ok, Err}
use Rattle.std.specs.Prelude.{◌<◌, if◌then◌else◌, nat_le, slice_get}
use Rattle.std.proofs.lemmas.Option.{slice_get-get_or}
use Rattle.ds_base.specs.declared.names.PageId.{PageId}
use Rattle.ds_base.specs.declared.names.Place.{Place}
use Rattle.ds_base.specs.Pages.{heap_page}
use Rattle.ds_model.specs.RecordBytes.{length_of}
use Rattle.ds_model.specs.declared.log.Body.TheVariants as body
use Rattle.ds_model.specs.declared.log.RowChange.{RowChange}
use Rattle.log_record.specs.Changes.{inverse}
use Rattle.page_format.specs.declared.patch.Patch.{Patch}
use Rattle.page_redo.specs.Rows.{change_fault, row_fault}
use Rattle.page_plans.specs.Rows.{row_of, row_plan, unless_fault}
use Rattle.member_intents.specs.declared.outcome.Sent.{Sent}
use Rattle.member_intents.specs.declared.test.Test.{Test}
use Rattle.member_intents.specs.declared.test.Test.TheVariants.{NoRoom}
use Rattle.member_log.specs.Buffers.{room_of}
use Rattle.member_trans.specs.declared.fate.Change.{Change}
use Rattle.member_marks.specs.State.{MarksState}
use Rattle.member_needs.specs.declared.plans.Plan.{Plan}
use Rattle.member_needs.specs.declared.plans.Plan.TheVariants as plan
use Rattle.member_needs.specs.Plans.{back_or_fault, back_over, back_plan, row_or_fault, row_with, system_with}
use Rattle.member_needs.specs.Records.{change_page, row_change_bytes}
use Rattle.member_resources.specs.declared.prepared.Prepared.{Prepared}
use Rattle.member_resources.specs.Prepared.{needed}
use Rattle.page_numbers.specs.Recorded.{IsUndamaged, MayPut}

-- ---- what is sent passed its tests
abbrev sent_in : Result Prepared Test → Result Sent Test
sent_in (Ok x) = Ok x.sent
sent_in (Err test) = Err test

pub needs_sent : (x : Result Sent Test) (y : Result Plan Test) (s : Sent) (p : Plan) → needed x y ≡ Ok (record { sent = s; plan = p }) → x ≡ Ok s
needs_sent (Err test) y s p e = absurd cc
needs_sent (Ok t) (Err test) s p e = absurd cc
needs_sent (Ok t) (Ok q) s p e = ap sent_in e

abbrev plan_in : Result Prepared Test → Result Plan Test
plan_in (Ok x) = Ok x.plan
plan_in (Err test) = Err test

pub needs_plan : (x : Result Sent Test) (y : Result Plan Test) (s : Sent) (p : Plan) → needed x y ≡ Ok (record { sent = s; plan = p }) → y ≡ Ok p
needs_plan (Err test) y s p e = absurd cc
needs_plan (Ok t) (Err test) s p e = absurd cc
needs_plan (Ok t) (Ok q) s p e = ap plan_in e

abbrev the_plan : Result Plan Test → Plan
the_plan (Ok p) = p
the_plan (Err test) = plan.None

-- ---- a change of the system
pub record IsSystem (s : MarksState) (o : Option (List Patch)) (p : Plan) : Type 0 where
  pub patches : List Patch
  pub some : o ≡ Some patches
  pub room : nat_le (length_of (body.System patches)) (room_of s.log) ≡ true
  pub is : plan.System patches ≡ p

pub system_made : (s : MarksState) (o : Option (List Patch)) (p : Plan) → system_with s o ≡ Ok p → IsSystem s o p
system_made s None p e = absurd cc
system_made s (Some patches) p e = by (nat_le (length_of (body.System patches)) (room_of s.log)) refl e
  where
    by : (b : Bool) → nat_le (length_of (body.System patches)) (room_of s.log) ≡ b → (if b then Ok (plan.System patches) else Err NoRoom) ≡ Ok p → IsSystem s (Some patches) p
    by true room x = record { patches = patches; some = refl; room = room; is = ap the_plan x }
    by false room x = absurd cc

-- ---- a change of a row
abbrev pub row_change : ℕ → ℕ → Place → Option (List ℕ) → List ℕ → RowChange
row_change table key place after page = record { table = table; key = key; place = place; before = row_of place.slot page; after = after }

pub record IsRow (s : MarksState) (table key : ℕ) (place : Place) (after : Option (List ℕ)) (p : Plan) : Type 0 where
  pub page : List ℕ
  pub sound : row_fault (heap_page table place.page) place.slot key page ≡ None
  pub room : nat_le row_change_bytes (room_of s.log) ≡ true
  pub is : plan.Row (row_change table key place after page) ≡ p

pub row_made : (s : MarksState) (table key : ℕ) (place : Place) (after x : Option (List ℕ)) (p : Plan) → row_with s table key place after x ≡ Ok p → MayPut p → IsRow s table key place after p
row_made s table key place after None p e may = absurd cc
row_made s table key place after (Some page) p e may = by (nat_le row_change_bytes (room_of s.log)) refl e
  where
    id : PageId
    id = heap_page table place.page

    sound : (o : Option ℕ) → row_fault id place.slot key page ≡ o → nat_le row_change_bytes (room_of s.log) ≡ true → row_or_fault id (unless_fault o (row_change table key place after page)) ≡ p → IsRow s table key place after p
    sound None is room x = record { page = page; sound = is; room = room; is = x }
    sound (Some at) is room x = absurd (subst MayPut (sym x) may)

    by : (b : Bool) → nat_le row_change_bytes (room_of s.log) ≡ b → (if b then Ok (row_or_fault id (row_plan table key place after page)) else Err NoRoom) ≡ Ok p → IsRow s table key place after p
    by true room x = sound (row_fault id place.slot key page) refl room (ap the_plan x)
    by false room x = absurd cc

-- ---- a change that is taken back
pub record IsBack (c : RowChange) (p : Plan) : Type 0 where
  pub page : List ℕ
  pub sound : row_fault (heap_page c.table c.place.page) c.place.slot c.key page ≡ None
  pub is : plan.Back (inverse c) ≡ p

back_on : (c : RowChange) (page : List ℕ) (p : Plan) (o : Option ℕ) → change_fault (heap_page c.table c.place.page) c page ≡ o → back_or_fault (change_page c) (unless_fault o (inverse c)) ≡ p → IsUndamaged p → IsBack c p
back_on c page p None is x sound = record { page = page; sound = is; is = x }
back_on c page p (Some at) is x sound = absurd (subst IsUndamaged (sym x) sound)

abbrev pub just : Plan → Result Plan Test
just p = Ok p

pub back_made : (pages : List (List ℕ)) (at : ℕ) (o : Option Change) (it : Change) (p : Plan) → o ≡ Some it → at < length pages → just (back_plan (slice_get pages at) o) ≡ just p → IsUndamaged p → IsBack it.change p
back_made pages at o it p e l x sound =
    let page = slice_get pages at in
    let there = slice_get-get_or pages at (it.change.key ∷ []) l in
    let is : back_over it.change page ≡ p = sym (ap (back_plan page) e) ∙ ap the_plan x in
    back_on it.change _ p (change_fault (heap_page it.change.table it.change.place.page) it.change _) refl (sym (ap (back_over it.change) there) ∙ is) sound
