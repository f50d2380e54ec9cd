-- The numbers that are drawn, and the records that they stand in.
use Rattle.std.proofs.Common.{◌≡◌, ◌≢◌, ℕ, zero, suc, ◌+◌, ◌^◌, ◌<◌, refl, sym, ap, subst, arith, Bool, true, false, List, [], ◌∷◌, Option, None, Some, slice_set}
use Rattle.std.specs.Prelude.{◌==◌, ◌&&◌, if◌then◌else◌, nat_le, nat_lt, not, slice_index_or}
use Rattle.std.specs.List.{AllByRecursion}
use Rattle.std.proofs.lemmas.Bool.{and_from, le-leb, leb-true, lt-ltb, ltb-true, ne_eqb}
use Rattle.ds_model.specs.RecordBytes.{IsAllowed, PatchIsAllowed, length_of}
use Rattle.ds_model.specs.declared.log.Body.TheVariants as body
use Rattle.ds_model.specs.declared.log.RowChange.{RowChange}
use Rattle.log_record.proofs.Records.{whole_length}
use Rattle.page_format.specs.declared.patch.Patch.{Patch}
use Rattle.facility.specs.Counting.{draw_reply, drawn, limit}
use Rattle.facility.specs.declared.command.Reply.{Reply}
use Rattle.facility.specs.declared.command.Reply.TheVariants as reply
use Rattle.member_log.specs.Buffers.{LogBuffer, room_of}
use Rattle.member_trans.specs.declared.fate.Change.{Change}
use Rattle.member_trans.specs.declared.fate.Owner.{Owner}
use Rattle.member_trans.specs.declared.fate.Owner.TheVariants as owner
use Rattle.member_trans.specs.Trans.{TranState, free_tran, is_forward, with_room}
use Rattle.member_marks.specs.Records.{back_record, both_fit, ended_record, fits_in, is_at_row, may_back, may_change, row_record}
use Rattle.member_marks.specs.State.{MarksState, slot_tran, tran_of}
use Rattle.member_effects.specs.Changes.{system_record}
use Rattle.member_effects.specs.Puts.{one_if}
use Rattle.member_resources.specs.Held.{Held, begun}
use Rattle.member_resources.specs.Prepared.{with_change_room}
use Rattle.page_numbers.specs.Numbers.{LieWithin}
use Rattle.page_numbers.specs.Recorded.{IsShort}
use Rattle.page_numbers.proofs.Sizes.{back_length, row_length}

-- ---- numbers
abbrev number_in : Reply → ℕ
number_in (reply.Drawn n) = n
number_in _ = 0

pub record IsNext (number : ℕ) : Type 0 where
  pub some : number ≢ 0
  pub small : number < 2 ^ 80

pub drawn_next : (o : Option ℕ) (counter number : ℕ) → draw_reply o counter ≡ reply.Drawn number → IsNext number
drawn_next (Some at) counter number e = absurd cc
drawn_next None counter number e = by (nat_lt counter limit) refl e
  where
    by : (b : Bool) → nat_lt counter limit ≡ b → (if b then reply.Drawn (counter + 1) else reply.LrsnEnd counter) ≡ reply.Drawn number → IsNext number
    by true l x =
        let is : counter + 1 ≡ number = ap number_in x in
        let below = ltb-true counter limit l in
        record { some = λ z. omega (arith, is, z); small = omega (arith, is, below) }
    by false l x = absurd cc

pub undo_next : (o : Option ℕ) (counter number : ℕ) → counter + 1 < 2 ^ 80 → drawn o counter ≡ reply.Drawn number → IsNext number
undo_next (Some at) counter number l e = absurd cc
undo_next None counter number l e = let is : counter + 1 ≡ number = ap number_in e in record { some = λ z. omega (arith, is, z); small = omega (arith, is, l) }

-- ---- the record of a change of the system: it is put, so it may be put
pub patches_lie : (ps : List Patch) → AllByRecursion PatchIsAllowed ps → LieWithin ps
patches_lie [] allowed = tt
patches_lie (p ∷ ps) allowed = (allowed.0.within, patches_lie ps allowed.1)

pub system_lies : (b : LogBuffer) (patches : List Patch) (number : ℕ) → nat_le (length_of (body.System patches)) (room_of b) ≡ true
    → AllByRecursion IsAllowed (one_if (fits_in b (system_record patches number)) (system_record patches number)) → LieWithin patches
system_lies b patches number room allowed =
    let r = system_record patches number in
    let fits : fits_in b r ≡ true = subst (λ n. nat_le n (room_of b) ≡ true) (sym (whole_length r)) room in
    let put = subst (λ z. AllByRecursion IsAllowed (one_if z r)) fits allowed in
    patches_lie patches put.0.body_is.each

-- ---- the record of a change of a row
at_row : (c : RowChange) → c.place.page ≢ 0 → c.place.slot < 31 → is_at_row c ≡ true
at_row c behind below = and_from (not (c.place.page == 0)) (nat_lt c.place.slot 31) (ap not (ne_eqb c.place.page 0 behind)) (lt-ltb c.place.slot 31 below)

-- the slot whose transaction goes forward is there
room_taken : (xs : List TranState) (slot : ℕ) → is_forward (slice_index_or xs slot free_tran).stage ≡ true → (slice_index_or (slice_set xs slot (with_room (slice_index_or xs slot free_tran))) slot free_tran).has_room ≡ true
room_taken [] slot e = absurd cc
room_taken (x ∷ xs) zero e = refl
room_taken (x ∷ xs) (suc slot) e = room_taken xs slot e

pub has_room : (h : Held) (slot place : ℕ) → is_forward (slot_tran h.marks slot).stage ≡ true → (slot_tran (begun (with_change_room h slot) place).marks slot).has_room ≡ true
has_room h slot place e = room_taken h.marks.trans.slots slot e

pub row_put : (s : MarksState) (slot number : ℕ) (c : RowChange) → number ≢ 0 → c.place.page ≢ 0 → c.place.slot < 31 → IsShort c.before → IsShort c.after → (slot_tran s slot).has_room ≡ true → nat_le 249 (room_of s.log) ≡ true
    → may_change s slot number c ≡ true
row_put s slot number c some behind below before after room enough =
    let r = row_record (slot_tran s slot) number c in
    let long = row_length c before after in
    let free = leb-true 249 (room_of s.log) enough in
    let whole = whole_length r in
    let fits : fits_in s.log r ≡ true = le-leb _ _ (omega (arith, long, free, whole)) in
    and_from (not (number == 0)) (is_at_row c && ((slot_tran s slot).has_room && fits_in s.log r)) (ap not (ne_eqb number 0 some))
    (and_from (is_at_row c) ((slot_tran s slot).has_room && fits_in s.log r) (at_row c behind below) (and_from (slot_tran s slot).has_room (fits_in s.log r) room fits))

-- ---- the record of a change that is taken back
pub back_put : (b : LogBuffer) (t : TranState) (number : ℕ) (it : Change) → t.first ≢ 0 → it.change.place.page ≢ 0 → it.change.place.slot < 31 → IsShort it.change.before → IsShort it.change.after → nat_le 289 (room_of b) ≡ true
    → (may_back t it && both_fit b (back_record t number it) (ended_record t number)) ≡ true
back_put b t number it named behind below before after enough =
    let r = back_record t number it in
    let q = ended_record t number in
    let long = back_length it.change it.lrsn before after in
    let free = leb-true 289 (room_of b) enough in
    let first = whole_length r in
    let second = whole_length q in
    let fits : both_fit b r q ≡ true = le-leb _ _ (omega (arith, long, free, first, second)) in
    and_from (may_back t it) (both_fit b r q) (and_from (not (t.first == 0)) (is_at_row it.change) (ap not (ne_eqb t.first 0 named)) (at_row it.change behind below)) fits

-- a new event leaves the transactions
pub same_tran : (h : Held) (place : ℕ) (o : Owner) → tran_of (begun h place).marks o ≡ tran_of h.marks o
same_tran h place (owner.Slot slot) = refl
same_tran h place (owner.Rollback id) = refl
