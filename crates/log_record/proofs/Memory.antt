-- No field by itself is told as want of memory, and the kind that has patches is 3.
use Rattle.std.proofs.Common.{◌≡◌, ℕ, ◌+◌, Bool, true, false, cond, List, length, take, drop, get_or, Option, Some, None, Result, Ok, Err, ap}
use Rattle.std.specs.Prelude.{◌≢◌, ◌==◌, nat_lt}
use Rattle.std.proofs.lemmas.List.{get_or-drop}
use Rattle.ds_model.specs.declared.log.Version.{Version}
use Rattle.log_record.specs.declared.fault.RecordFault.{RecordFault}
use Rattle.log_record.specs.declared.fault.RecordFault.TheVariants as fault
use Rattle.log_record.specs.declared.kind.Kind.TheVariants as kind
use Rattle.log_record.specs.Fields.{◌>>=◌, bytes_at, allowed_at, field_at, kind_at, lrsn_at, table_at, key_at, page_at, slot_at, place_at, presence_at, count_at, value_at, absent_at, present_at, state_at, change_at, compensation_at}
use Rattle.log_record.proofs.Numbers.{IsBytes}
use Rattle.log_record.proofs.Records.{kind_takes}

bind_free : {A B : Type 0} (r : Result A RecordFault) (f : A → Result B RecordFault) → r ≢ Err fault.NoMemory → ((x : A) → f x ≢ Err fault.NoMemory) → (r >>= f) ≢ Err fault.NoMemory
bind_free (Ok x) f p q = q x
bind_free (Err d) f p q = λ e. let same : d ≡ fault.NoMemory = cc in p (ap (λ (z : RecordFault). Err z) same)

allowed_free : {X : Type 0} (at next : ℕ) (o : Option X) → allowed_at at next o ≢ Err fault.NoMemory
allowed_free at next None = λ e. cc
allowed_free at next (Some x) = λ e. cc

bytes_free : (b : Bool) (at : ℕ) (bytes : List ℕ) → cond b (Err (fault.Bad at)) (Ok bytes) ≢ Err fault.NoMemory
bytes_free true at bytes = λ e. cc
bytes_free false at bytes = λ e. cc

pub field_free : {X : Type 0} (width : ℕ) (meaning : List ℕ → Option X) (fields : List ℕ) (at : ℕ) → field_at width meaning fields at ≢ Err fault.NoMemory
unfolding field_at
field_free width meaning fields at =
    bind_free (bytes_at width fields at) (λ bytes. allowed_at at (at + width) (meaning bytes)) (bytes_free (nat_lt (length fields) (at + width)) at (take width (drop at fields))) (λ bytes. allowed_free at (at + width) (meaning bytes))

place_free : (fields : List ℕ) (at : ℕ) → place_at fields at ≢ Err fault.NoMemory
unfolding place_at
place_free fields at =
    bind_free (page_at fields at) _ (field_free _ _ fields at)
    (λ page. bind_free (slot_at fields page.1) _ (field_free _ _ fields page.1)
    (λ slot. λ e. cc))

absent_free : (fields : List ℕ) (at : ℕ) → absent_at fields at ≢ Err fault.NoMemory
unfolding absent_at
absent_free fields at = bind_free (count_at 0 fields at) _ (field_free _ _ fields at) (λ count. λ e. cc)

present_free : (fields : List ℕ) (at : ℕ) → present_at fields at ≢ Err fault.NoMemory
unfolding present_at
present_free fields at =
    bind_free (count_at 100 fields at) _ (field_free _ _ fields at)
    (λ count. bind_free (value_at count.0 fields count.1) _ (field_free _ _ fields count.1)
    (λ value. λ e. cc))

either_free : {X : Type 0} (b : Bool) (x y : Result X RecordFault) → x ≢ Err fault.NoMemory → y ≢ Err fault.NoMemory → cond b x y ≢ Err fault.NoMemory
either_free true x y p q = p
either_free false x y p q = q

state_free : (fields : List ℕ) (at : ℕ) → state_at fields at ≢ Err fault.NoMemory
unfolding state_at
state_free fields at =
    bind_free (presence_at fields at) _ (field_free _ _ fields at)
    (λ presence. either_free (presence.0 == 1) (absent_at fields presence.1) (present_at fields presence.1) (absent_free fields presence.1) (present_free fields presence.1))

pub change_free : (fields : List ℕ) (at : ℕ) → change_at fields at ≢ Err fault.NoMemory
unfolding change_at
change_free fields at =
    bind_free (table_at fields at) _ (field_free _ _ fields at)
    (λ table. bind_free (key_at fields table.1) _ (field_free _ _ fields table.1)
    (λ key. bind_free (place_at fields key.1) _ (place_free fields key.1)
    (λ place. bind_free (state_at fields place.1) _ (state_free fields place.1)
    (λ before. bind_free (state_at fields before.1) _ (state_free fields before.1)
    (λ after. λ e. cc)))))

pub compensation_free : (v : Version) (fields : List ℕ) (at : ℕ) → compensation_at v fields at ≢ Err fault.NoMemory
unfolding compensation_at
compensation_free v fields at =
    bind_free (change_at fields at) _ (change_free fields at)
    (λ change. bind_free (lrsn_at v fields change.1) _ (field_free _ _ fields change.1)
    (λ undone. λ e. cc))

-- the byte of the kind that has patches
pub kind_byte : (fields : List ℕ) (next : ℕ) → IsBytes fields → kind_at fields 4 ≡ Ok (kind.System, next) → get_or fields 4 0 ≡ 3
kind_byte fields next fits e =
    let t = kind_takes fields 4 kind.System next fits e in
    let first : get_or (drop 4 fields) 0 0 ≡ 3 = ap (λ (bytes : List ℕ). get_or bytes 0 0) t.parts in
    rw get_or-drop at first
