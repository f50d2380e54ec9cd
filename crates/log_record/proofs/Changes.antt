-- The fields of a changed row: what is read is their spelling, and their spelling is read again.
use Rattle.std.proofs.Common.{lit<, ◌≡◌, ℕ, ◌^◌, ◌<◌, ◌≤◌, true, not, cond, List, [], ◌∷◌, ◌++◌, length, Option, Some, None, Ok, refl, sym, ap, subst, ◌∙◌, append_assoc, arith, inl, inr}
use Rattle.std.specs.Prelude.{◌≢◌, ◌==◌, nat_le, nat_lt, ◌&&◌, ◌||◌}
use Rattle.std.specs.Int.{w16, w32, to_be_bytes, bytes_high_first}
use Rattle.std.proofs.lemmas.Bool.{eqb-true, eqb-false, ne_eqb, leb-true, le-leb, ltb-true, lt-ltb, not-true, not_from_false, and_parts, and_from, or_cases, cases_Bool}
use Rattle.ds_base.specs.declared.names.Place.{Place}
use Rattle.ds_base.specs.Ids.{IsTable}
use Rattle.ds_base.specs.Values.{IsValue}
use Rattle.ds_model.specs.declared.log.RowChange.{RowChange}
use Rattle.ds_model.specs.RecordBytes.{state_bytes, row_bytes, change_bytes, StateIsAllowed, ChangeIsAllowed}
use Rattle.log_record.specs.Fields.{◌>>=◌, only_if, table_at, key_at, page_at, slot_at, place_at, presence_at, count_at, is_value, value_at, absent_at, present_at, state_at, change_at}
use Rattle.log_record.proofs.Values.{value_decides}
use Rattle.log_record.proofs.Numbers.{IsBytes, one_byte}
use Rattle.log_record.proofs.Steps.{bind_ok, ok_is, only_ok, Takes, Takes-then, field_takes, number_takes, Left, Left-as, Reads, field_again, number_again}

-- ---- whether a row is there, and its value

absent_takes : (fields : List ℕ) (at : ℕ) (o : Option (List ℕ)) (next : ℕ) → IsBytes fields → absent_at fields at ≡ Ok (o, next) → (o ≡ None) × Takes fields at (0 ∷ []) next
unfolding absent_at
absent_takes fields at o next fits e =
    let a = bind_ok (count_at 0 fields at) (λ count. Ok (None, count.1)) (o, next) e in
    let t = number_takes 1 (λ n. nat_le n 0) fields at a.0.0 a.0.1 fits a.1 in
    let le : a.0.0 ≤ 0 = leb-true _ _ t.2 in
    let zero-is : a.0.0 ≡ 0 = omega (arith, le) in
    let text : Takes fields at (0 ∷ []) a.0.1 = subst (λ (n : ℕ). Takes fields at (bytes_high_first 1 n) a.0.1) zero-is t.0 in
    subst (λ (z : Option (List ℕ) × ℕ). (z.0 ≡ None) × Takes fields at (0 ∷ []) z.1) (ok_is (None, a.0.1) (o, next) a.2) (refl, text)

record Present (fields : List ℕ) (at : ℕ) (o : Option (List ℕ)) (next : ℕ) : Type 0 where
  value : List ℕ
  is : o ≡ Some value
  takes : Takes fields at (length value ∷ value) next
  allowed : IsValue value

present_takes : (fields : List ℕ) (at : ℕ) (o : Option (List ℕ)) (next : ℕ) → IsBytes fields → present_at fields at ≡ Ok (o, next) → Present fields at o next
unfolding present_at
present_takes fields at o next fits e =
    let a = bind_ok (count_at 100 fields at) (λ count. value_at count.0 fields count.1 >>= λ value. Ok (Some value.0, value.1)) (o, next) e in
    let b = bind_ok (value_at a.0.0 fields a.0.1) (λ value. Ok (Some value.0, value.1)) (o, next) a.2 in
    let s = number_takes 1 (λ n. nat_le n 100) fields at a.0.0 a.0.1 fits a.1 in
    let t = field_takes a.0.0 (λ bytes. only_if (is_value bytes) bytes) fields a.0.1 b.0.0 b.0.1 fits b.1 in
    let v = only_ok (is_value t.text) t.text b.0.0 t.means in
    let value-is : IsValue b.0.0 = subst IsValue v.1 ((value_decides t.text).0 v.0) in
    let wide : a.0.0 ≡ length b.0.0 = sym t.wide ∙ ap length v.1 in
    let count : Takes fields at (length b.0.0 ∷ []) a.0.1 = subst (λ (text : List ℕ). Takes fields at text a.0.1) (one_byte a.0.0 (omega (arith, s.1)) ∙ ap (λ (n : ℕ). n ∷ []) wide) s.0 in
    let value : Takes fields a.0.1 b.0.0 b.0.1 = subst (λ (text : List ℕ). Takes fields a.0.1 text b.0.1) v.1 t.takes in
    subst (λ (z : Option (List ℕ) × ℕ). Present fields at z.0 z.1) (ok_is (Some b.0.0, b.0.1) (o, next) b.2)
    (record { value = b.0.0; is = refl; takes = Takes-then fields at (length b.0.0 ∷ []) a.0.1 b.0.0 b.0.1 count value; allowed = value-is })

pub state_takes : (fields : List ℕ) (at : ℕ) (o : Option (List ℕ)) (next : ℕ) → IsBytes fields → state_at fields at ≡ Ok (o, next) → Takes fields at (state_bytes o) next × StateIsAllowed o
unfolding state_at
state_takes fields at o next fits e =
    let a = bind_ok (presence_at fields at) (λ presence. cond (presence.0 == 1) (absent_at fields presence.1) (present_at fields presence.1)) (o, next) e in
    let t = number_takes 1 (λ n. n == 1 || n == 2) fields at a.0.0 a.0.1 fits a.1 in
    elim (cases_Bool (a.0.0 == 1)) [
      | inl is-one ↦
          let mark : Takes fields at (1 ∷ []) a.0.1 = subst (λ (n : ℕ). Takes fields at (bytes_high_first 1 n) a.0.1) (eqb-true _ _ is-one) t.0 in
          let rest = absent_takes fields a.0.1 o next fits (rw is-one at a.2) in
          let both = Takes-then fields at (1 ∷ []) a.0.1 (0 ∷ []) next mark rest.1 in
          subst (λ (z : Option (List ℕ)). Takes fields at (state_bytes z) next × StateIsAllowed z) (sym rest.0) (both, tt)
      | inr is-not ↦
          let two : a.0.0 ≡ 2 = elim (or_cases (a.0.0 == 1) (a.0.0 == 2) t.2) [ inl is ↦ absurd cc | inr is ↦ eqb-true _ _ is ] in
          let mark : Takes fields at (2 ∷ []) a.0.1 = subst (λ (n : ℕ). Takes fields at (bytes_high_first 1 n) a.0.1) two t.0 in
          let p = present_takes fields a.0.1 o next fits (rw is-not at a.2) in
          let both = Takes-then fields at (2 ∷ []) a.0.1 (length p.value ∷ p.value) next mark p.takes in
          subst (λ (z : Option (List ℕ)). Takes fields at (state_bytes z) next × StateIsAllowed z) (sym p.is) (both, p.allowed)
    ]

pub state_again : (fields : List ℕ) (at : ℕ) (o : Option (List ℕ)) (rest : List ℕ) → StateIsAllowed o → Left fields at (state_bytes o ++ rest) → Reads (state_at fields at) o fields rest
unfolding state_at absent_at present_at
state_again fields at None rest h l =
    let a = number_again 1 (λ n. n == 1 || n == 2) fields at 1 (0 ∷ rest) (lit< tt) refl l in
    let b = number_again 1 (λ n. nat_le n 0) fields a.next 0 rest (lit< tt) refl a.left in
    record { next = b.next; is = rw (a.is, b.is) refl; left = b.left }
state_again fields at (Some v) rest h l =
    let a = number_again 1 (λ n. n == 1 || n == 2) fields at 2 (length v ∷ v ++ rest) (lit< tt) refl l in
    let count : Left fields a.next (bytes_high_first 1 (length v) ++ (v ++ rest)) = Left-as fields a.next _ _ (ap (λ (t : List ℕ). t ++ (v ++ rest)) (sym (one_byte (length v) (omega (arith, h.0))))) a.left in
    let b = number_again 1 (λ n. nat_le n 100) fields a.next (length v) (v ++ rest) (omega (arith, h.0)) (le-leb _ _ h.0) count in
    let ok : only_if (is_value v) v ≡ Some v = rw ((value_decides v).1 h) refl in
    let c = field_again (length v) (λ bytes. only_if (is_value bytes) bytes) fields b.next v rest v refl ok b.left in
    record { next = c.next; is = rw (a.is, b.is, c.is) refl; left = c.left }

-- ---- the row's place

pub not-zero : (n : ℕ) → not (n == 0) ≡ true → n ≢ 0
not-zero n e = eqb-false n 0 (not-true (n == 0) e)

pub zero-not : (n : ℕ) → n ≢ 0 → not (n == 0) ≡ true
zero-not n h = not_from_false (n == 0) (ne_eqb n 0 h)

record PlaceIsAllowed (p : Place) : Type 0 where
  page_some : p.page ≢ 0
  page_in : p.page < 2 ^ 32
  slot_in : p.slot < 31

abbrev place_bytes : Place → List ℕ
place_bytes p = to_be_bytes w32 p.page ++ to_be_bytes w16 p.slot

place_takes : (fields : List ℕ) (at : ℕ) (p : Place) (next : ℕ) → IsBytes fields → place_at fields at ≡ Ok (p, next) → Takes fields at (place_bytes p) next × PlaceIsAllowed p
unfolding place_at
place_takes fields at p next fits e =
    let a = bind_ok (page_at fields at) (λ page. slot_at fields page.1 >>= λ slot. Ok (record { page = page.0; slot = slot.0 }, slot.1)) (p, next) e in
    let b = bind_ok (slot_at fields a.0.1) (λ slot. Ok (record { page = a.0.0; slot = slot.0 }, slot.1)) (p, next) a.2 in
    let s = number_takes 4 (λ n. not (n == 0)) fields at a.0.0 a.0.1 fits a.1 in
    let t = number_takes 2 (λ n. nat_lt n 31) fields a.0.1 b.0.0 b.0.1 fits b.1 in
    let made : Place = record { page = a.0.0; slot = b.0.0 } in
    let both : Takes fields at (place_bytes made) b.0.1 = Takes-then fields at (bytes_high_first 4 a.0.0) a.0.1 (bytes_high_first 2 b.0.0) b.0.1 s.0 t.0 in
    subst (λ (z : Place × ℕ). Takes fields at (place_bytes z.0) z.1 × PlaceIsAllowed z.0) (ok_is (made, b.0.1) (p, next) b.2)
    (both, record { page_some = not-zero a.0.0 s.2; page_in = s.1; slot_in = ltb-true _ _ t.2 })

place_again : (fields : List ℕ) (at : ℕ) (p : Place) (rest : List ℕ) → PlaceIsAllowed p → Left fields at (bytes_high_first 4 p.page ++ (bytes_high_first 2 p.slot ++ rest)) → Reads (place_at fields at) p fields rest
unfolding place_at
place_again fields at p rest h l =
    let a = number_again 4 (λ n. not (n == 0)) fields at p.page (bytes_high_first 2 p.slot ++ rest) h.page_in (zero-not p.page h.page_some) l in
    let slot_in : p.slot < 256 ^ 2 = omega (arith, h.slot_in) in
    let b = number_again 2 (λ n. nat_lt n 31) fields a.next p.slot rest slot_in (lt-ltb _ _ h.slot_in) a.left in
    record { next = b.next; is = rw (a.is, b.is) refl; left = b.left }

-- ---- the whole change

table_allowed : (n : ℕ) → (nat_le 1 n && nat_le n 64) ≡ true → IsTable n
table_allowed n e = let p = and_parts (nat_le 1 n) (nat_le n 64) e in (leb-true _ _ p.0, leb-true _ _ p.1)

pub change_takes : (fields : List ℕ) (at : ℕ) (c : RowChange) (next : ℕ) → IsBytes fields → change_at fields at ≡ Ok (c, next) → Takes fields at (change_bytes c) next × ChangeIsAllowed c
unfolding change_at
change_takes fields at c next fits e =
    let t = bind_ok (table_at fields at) (λ table. key_at fields table.1 >>= λ key. place_at fields key.1 >>= λ place. state_at fields place.1 >>= λ before. state_at fields before.1 >>= λ after. Ok (record { table = table.0; key = key.0; place = place.0; before = before.0; after = after.0 }, after.1)) (c, next) e in
    let k = bind_ok (key_at fields t.0.1) (λ key. place_at fields key.1 >>= λ place. state_at fields place.1 >>= λ before. state_at fields before.1 >>= λ after. Ok (record { table = t.0.0; key = key.0; place = place.0; before = before.0; after = after.0 }, after.1)) (c, next) t.2 in
    let p = bind_ok (place_at fields k.0.1) (λ place. state_at fields place.1 >>= λ before. state_at fields before.1 >>= λ after. Ok (record { table = t.0.0; key = k.0.0; place = place.0; before = before.0; after = after.0 }, after.1)) (c, next) k.2 in
    let b = bind_ok (state_at fields p.0.1) (λ before. state_at fields before.1 >>= λ after. Ok (record { table = t.0.0; key = k.0.0; place = p.0.0; before = before.0; after = after.0 }, after.1)) (c, next) p.2 in
    let a = bind_ok (state_at fields b.0.1) (λ after. Ok (record { table = t.0.0; key = k.0.0; place = p.0.0; before = b.0.0; after = after.0 }, after.1)) (c, next) b.2 in
    let table = number_takes 1 (λ n. nat_le 1 n && nat_le n 64) fields at t.0.0 t.0.1 fits t.1 in
    let key = number_takes 8 (λ n. true) fields t.0.1 k.0.0 k.0.1 fits k.1 in
    let place = place_takes fields k.0.1 p.0.0 p.0.1 fits p.1 in
    let before = state_takes fields p.0.1 b.0.0 b.0.1 fits b.1 in
    let after = state_takes fields b.0.1 a.0.0 a.0.1 fits a.1 in
    let is_table = table_allowed t.0.0 table.2 in
    let made : RowChange = record { table = t.0.0; key = k.0.0; place = p.0.0; before = b.0.0; after = a.0.0 } in
    let byte : Takes fields at (t.0.0 ∷ []) t.0.1 = subst (λ (text : List ℕ). Takes fields at text t.0.1) (one_byte t.0.0 (omega (arith, is_table))) table.0 in
    let with_key = Takes-then fields at (t.0.0 ∷ []) t.0.1 (bytes_high_first 8 k.0.0) k.0.1 byte key.0 in
    let row : Takes fields at (row_bytes made) p.0.1 = Takes-then fields at (t.0.0 ∷ bytes_high_first 8 k.0.0) k.0.1 (place_bytes p.0.0) p.0.1 with_key place.0 in
    let to_before = Takes-then fields at (row_bytes made) p.0.1 (state_bytes b.0.0) b.0.1 row before.0 in
    let whole : Takes fields at (change_bytes made) a.0.1 = Takes-then fields at (row_bytes made ++ state_bytes b.0.0) b.0.1 (state_bytes a.0.0) a.0.1 to_before after.0 in
    let allowed : ChangeIsAllowed made = record { table_in = is_table; key_in = key.1; page_some = place.1.page_some; page_in = place.1.page_in; slot_in = place.1.slot_in; before_is = before.1; after_is = after.1 } in
    subst (λ (z : RowChange × ℕ). Takes fields at (change_bytes z.0) z.1 × ChangeIsAllowed z.0) (ok_is (made, a.0.1) (c, next) a.2) (whole, allowed)

pub change_again : (fields : List ℕ) (at : ℕ) (c : RowChange) (rest : List ℕ) → ChangeIsAllowed c → Left fields at (change_bytes c ++ rest) → Reads (change_at fields at) c fields rest
unfolding change_at
change_again fields at c rest h l =
    let states = state_bytes c.before ++ (state_bytes c.after ++ rest) in
    let regrouped : change_bytes c ++ rest ≡ row_bytes c ++ states = append_assoc (row_bytes c ++ state_bytes c.before) (state_bytes c.after) rest ∙ append_assoc (row_bytes c) (state_bytes c.before) (state_bytes c.after ++ rest) in
    let first : bytes_high_first 1 c.table ++ (bytes_high_first 8 c.key ++ (bytes_high_first 4 c.place.page ++ (bytes_high_first 2 c.place.slot ++ states))) ≡ row_bytes c ++ states = ap (λ (t : List ℕ). t ++ (bytes_high_first 8 c.key ++ (bytes_high_first 4 c.place.page ++ (bytes_high_first 2 c.place.slot ++ states)))) (one_byte c.table (omega (arith, h.table_in))) in
    let left = Left-as fields at _ _ (regrouped ∙ sym first) l in
    let in_range = and_from (nat_le 1 c.table) (nat_le c.table 64) (le-leb _ _ h.table_in.0) (le-leb _ _ h.table_in.1) in
    let table = number_again 1 (λ n. nat_le 1 n && nat_le n 64) fields at c.table (bytes_high_first 8 c.key ++ (bytes_high_first 4 c.place.page ++ (bytes_high_first 2 c.place.slot ++ states))) (omega (arith, h.table_in)) in_range left in
    let key = number_again 8 (λ n. true) fields table.next c.key (bytes_high_first 4 c.place.page ++ (bytes_high_first 2 c.place.slot ++ states)) h.key_in refl table.left in
    let place = place_again fields key.next c.place states (record { page_some = h.page_some; page_in = h.page_in; slot_in = h.slot_in }) key.left in
    let before = state_again fields place.next c.before (state_bytes c.after ++ rest) h.before_is place.left in
    let after = state_again fields before.next c.after rest h.after_is before.left in
    record { next = after.next; is = rw (table.is, key.is, place.is, before.is, after.is) refl; left = after.left }
