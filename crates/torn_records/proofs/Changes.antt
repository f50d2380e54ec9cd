-- Row changes of which the first bytes are given.
use Rattle.std.proofs.Common.{◌≡◌, ◌≢◌, ℕ, zero, suc, ◌-◌, ◌^◌, ◌<◌, List, [], ◌∷◌, ◌++◌, length, replicate, Option, Some, None, get_or, refl, sym, ap, ◌∙◌, arith}
use Rattle.std.specs.Int.{w16, w32, w64, to_be_bytes}
use Rattle.std.specs.List.{All}
use Rattle.std.proofs.lemmas.List.{length-replicate, length-append, get_or-replicate}
use Rattle.ds_base.specs.Ids.{IsTable}
use Rattle.ds_base.specs.Values.{IsValue, IsValueByte}
use Rattle.ds_model.specs.declared.log.RowChange.{RowChange}
use Rattle.ds_model.specs.RecordBytes.{state_bytes, row_bytes, change_bytes, StateIsAllowed, ChangeIsAllowed}
use Rattle.torn_records.specs.Mixes.{mix}
use Rattle.torn_records.specs.Templates.{shape_of, state_text, row_text, change_text}
use Rattle.torn_records.proofs.Mixing.{mix_same, mix_length, mix_each, join}
use Rattle.torn_records.proofs.Numbers.{number_mixed, some_mixed, low_mixed}

-- ---- a row's state

value_mixed : (n : ℕ) (v : List ℕ) → IsValue v → IsValue (mix n v (replicate (length v) 0x21)) × (length (mix n v (replicate (length v) 0x21)) ≡ length v)
value_mixed n v h =
    let least : List ℕ = replicate (length v) 0x21 in
    let same : length v ≡ length least = sym (length-replicate (length v) 0x21) in
    let long : length (mix n v least) ≡ length v = mix_length n v least same ∙ sym same in
    let each : All IsValueByte least = λ k d lt.
    let is : get_or least k d ≡ 0x21 = get_or-replicate (length v) k 0x21 d (omega (arith, same, lt)) in
    (omega (arith, is), omega (arith, is)) in
    ((omega (arith, long, h.0), mix_each IsValueByte n v least h.1 each), long)

-- these are the bytes of a state
pub record State (bytes : List ℕ) : Type 0 where
  pub state : Option (List ℕ)
  pub allowed : StateIsAllowed state
  pub is : state_bytes state ≡ bytes

some_mixed_at : (n : ℕ) (v : List ℕ) → IsValue v → State (2 ∷ length v ∷ mix n v (replicate (length v) 0x21))
some_mixed_at n v h =
    let m = value_mixed n v h in
    let u : List ℕ = mix n v (replicate (length v) 0x21) in
    record { state = Some u; allowed = m.0; is = ap (λ (k : ℕ). 2 ∷ k ∷ u) m.1 }

state_mixed : (n : ℕ) (o : Option (List ℕ)) → StateIsAllowed o → State (mix n (state_bytes o) (state_text (shape_of o)))
state_mixed n None h = record { state = None; allowed = tt; is = sym (mix_same n (1 ∷ 0 ∷ [])) }
state_mixed zero (Some v) h = some_mixed_at 0 v h
state_mixed (suc zero) (Some v) h = some_mixed_at 0 v h
state_mixed (suc (suc n)) (Some v) h = some_mixed_at n v h

state_long : (o : Option (List ℕ)) → length (state_bytes o) ≡ length (state_text (shape_of o))
state_long None = refl
state_long (Some v) = omega (arith, length-replicate {A = ℕ} (length v) 0x21)

-- ---- the row

table_mixed : (n t : ℕ) → IsTable t → (z : ℕ) × IsTable z × (z ∷ [] ≡ mix n (t ∷ []) (1 ∷ []))
table_mixed zero t h = (1, (omega arith, omega arith), refl)
table_mixed (suc n) t h = (t, h, ap (λ (l : List ℕ). t ∷ l) (sym (mix_same n [])))

-- these are the bytes of a row's change with these states
pub record Row (bytes : List ℕ) : Type 0 where
  pub change : RowChange
  pub table_in : IsTable change.table
  pub key_in : change.key < 2 ^ 64
  pub page_some : change.place.page ≢ 0
  pub page_in : change.place.page < 2 ^ 32
  pub slot_in : change.place.slot < 31
  pub is : row_bytes change ≡ bytes

row_mixed : (n : ℕ) (c : RowChange) → ChangeIsAllowed c → Row (mix n (row_bytes c) row_text)
row_mixed n c h =
    let T : List ℕ = c.table ∷ [] in
    let K : List ℕ = to_be_bytes w64 c.key in
    let P : List ℕ = to_be_bytes w32 c.place.page in
    let S : List ℕ = to_be_bytes w16 c.place.slot in
    let T0 : List ℕ = 1 ∷ [] in
    let K0 : List ℕ = to_be_bytes w64 0 in
    let P0 : List ℕ = to_be_bytes w32 1 in
    let S0 : List ℕ = to_be_bytes w16 0 in
    let t = table_mixed n c.table h.table_in in
    let k = number_mixed 8 c.key 0 (n - 1) in
    let p = number_mixed 4 c.place.page 1 (n - 9) in
    let s = low_mixed (n - 13) c.place.slot (omega (arith, h.slot_in)) in
    let some = some_mixed 3 c.place.page (n - 9) h.page_in h.page_some p in
    let front = join n T T0 K K0 (t.0 ∷ []) (to_be_bytes w64 k.value) refl t.2 k.is in
    let paged = join n (T ++ K) (T0 ++ K0) P P0 (t.0 ∷ to_be_bytes w64 k.value) (to_be_bytes w32 p.value) refl front p.is in
    let whole = join n (T ++ K ++ P) (T0 ++ K0 ++ P0) S S0 (t.0 ∷ to_be_bytes w64 k.value ++ to_be_bytes w32 p.value) (to_be_bytes w16 s.0) refl paged s.2 in
    record {
      change = record { table = t.0; key = k.value; place = record { page = p.value; slot = s.0 }; before = None; after = None };
      table_in = t.1;
      key_in = k.below;
      page_some = some;
      page_in = p.below;
      slot_in = omega (arith, s.1, h.slot_in);
      is = whole;
    }

-- ---- the change

-- these are the bytes of a change that may stand in a log
pub record Change (bytes : List ℕ) : Type 0 where
  pub change : RowChange
  pub allowed : ChangeIsAllowed change
  pub is : change_bytes change ≡ bytes

pub change_mixed : (n : ℕ) (c : RowChange) → ChangeIsAllowed c → Change (mix n (change_bytes c) (change_text (shape_of c.before) (shape_of c.after)))
change_mixed n c h =
    let B : List ℕ = state_bytes c.before in
    let A : List ℕ = state_bytes c.after in
    let B0 : List ℕ = state_text (shape_of c.before) in
    let A0 : List ℕ = state_text (shape_of c.after) in
    let r = row_mixed n c h in
    let b = state_mixed (n - 15) c.before h.before_is in
    let a = state_mixed (n - length (row_bytes c ++ B)) c.after h.after_is in
    let front = join n (row_bytes c) row_text B B0 (row_bytes r.change) (state_bytes b.state) refl r.is b.is in
    let long : length (row_bytes c ++ B) ≡ length (row_text ++ B0) = omega (arith, state_long c.before) in
    let whole = join n (row_bytes c ++ B) (row_text ++ B0) A A0 (row_bytes r.change ++ state_bytes b.state) (state_bytes a.state) long front a.is in
    record {
      change = record { table = r.change.table; key = r.change.key; place = r.change.place; before = b.state; after = a.state };
      allowed = record { table_in = r.table_in; key_in = r.key_in; page_some = r.page_some; page_in = r.page_in; slot_in = r.slot_in; before_is = b.allowed; after_is = a.allowed };
      is = whole;
    }

pub change_long : (c : RowChange) → length (change_text (shape_of c.before) (shape_of c.after)) ≡ length (change_bytes c)
change_long c =
    omega (arith, state_long c.before, state_long c.after, length-append (state_bytes c.before) (state_bytes c.after), length-append (state_text (shape_of c.before)) (state_text (shape_of c.after)))
