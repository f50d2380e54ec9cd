-- What is decided at the front of bytes stays so, whatever follows.
use Rattle.std.proofs.Common.{◌≡◌, ℕ, ◌+◌, ◌-◌, ◌≤◌, Bool, true, false, cond, List, [], length, take, drop, Result, Ok, Err, refl, sym, ap, subst, ◌∙◌, arith}
use Rattle.std.specs.Prelude.{◌≢◌, not, nat_lt, nat_le, ◌==◌, ◌&&◌, if◌then◌else◌}
use Rattle.std.proofs.lemmas.Bool.{ltb-false, le-ltb, leb-true, eqb-true}
use Rattle.std.proofs.lemmas.List.{length-take, take-take, drop-take}
use Rattle.byteorder.specs.Endian.{big_number}
use Rattle.byteorder.specs.Numbers.{big_from-take}
use Rattle.log_record.specs.Given.{LogRecord}
use Rattle.log_record.specs.Given.{record_limit}
use Rattle.log_record.specs.declared.fault.RecordFault.{RecordFault}
use Rattle.log_record.specs.declared.fault.RecordFault.TheVariants as fault
use Rattle.log_record.specs.Fields.{◌>>=◌}
use Rattle.log_record.specs.Reading.{fields_in, ends_at, whole_in, is_size, record_in}

abbrev Found : Type 0
Found = Result (LogRecord × ℕ) RecordFault

-- ---- a record of so many bytes

-- the record whose fields were read, where it ends as it should
abbrev ended : Found → ℕ → ℕ → Found
ended fields last size = fields >>= λ found. if found.1 == size - 4 && last == size then Ok (found.0, size) else Err (fault.Bad found.1)

whole_is : (bytes : List ℕ) (size : ℕ) → whole_in bytes size ≡ ended (fields_in (take (size - 4) bytes)) (big_number 4 (drop (size - 4) bytes)) size
unfolding whole_in
whole_is bytes size = refl

-- the length stands again in the last four bytes, which a front of so many bytes has
last_again : (k size : ℕ) (bytes : List ℕ) → 4 ≤ size → size ≤ k → big_number 4 (drop (size - 4) (take k bytes)) ≡ big_number 4 (drop (size - 4) bytes)
last_again k size bytes few le =
    let m : ℕ = k - (size - 4) in
    let split : k ≡ (size - 4) + m = omega arith in
    let moved : drop (size - 4) (take k bytes) ≡ take m (drop (size - 4) bytes) = ap (λ (n : ℕ). drop (size - 4) (take n bytes)) split ∙ drop-take (size - 4) m bytes in
    ap (big_number 4) moved ∙ big_from-take 0 4 m (drop (size - 4) bytes) (omega arith)

whole_front : (k size : ℕ) (bytes : List ℕ) → 4 ≤ size → size ≤ k → whole_in (take k bytes) size ≡ whole_in bytes size
whole_front k size bytes few le =
    whole_is (take k bytes) size
    ∙ ap (λ (t : List ℕ). ended (fields_in t) (big_number 4 (drop (size - 4) (take k bytes))) size) (take-take (size - 4) k bytes (omega arith))
    ∙ ap (λ (n : ℕ). ended (fields_in (take (size - 4) bytes)) n size) (last_again k size bytes few le)
    ∙ sym (whole_is bytes size)

abbrev size_of : Found → ℕ
size_of (Ok found) = found.1
size_of (Err d) = 0

ended_when : (b : Bool) (x : LogRecord) (at size : ℕ) (r : LogRecord) (n : ℕ) → cond {A = Found} b (Ok (x, size)) (Err (fault.Bad at)) ≡ Ok (r, n) → n ≡ size
ended_when true x at size r n e = sym (ap size_of e)
ended_when false x at size r n e = absurd cc

ended_size : (fields : Found) (last size : ℕ) (r : LogRecord) (n : ℕ) → ended fields last size ≡ Ok (r, n) → n ≡ size
ended_size (Ok found) last size r n e = ended_when (found.1 == size - 4 && last == size) found.0 found.1 size r n e
ended_size (Err d) last size r n e = absurd cc

whole_size : (bytes : List ℕ) (size : ℕ) (r : LogRecord) (n : ℕ) → whole_in bytes size ≡ Ok (r, n) → n ≡ size
whole_size bytes size r n e = ended_size (fields_in (take (size - 4) bytes)) (big_number 4 (drop (size - 4) bytes)) size r n (sym (whole_is bytes size) ∙ e)

-- ---- the record at the front

-- by its tests: too few bytes for a length, a length that isn't allowed, too few bytes for the record
abbrev tested : Bool → Bool → Bool → Found → Found
tested few sized cut found = cond few (Err fault.NotWhole) (cond (not sized) (Err (fault.Bad 0)) (cond cut (Err fault.NotWhole) found))

read_is : (bytes : List ℕ) → record_in bytes ≡ tested (nat_lt (length bytes) 4) (is_size (big_number 4 bytes)) (nat_lt (length bytes) (big_number 4 bytes)) (whole_in bytes (big_number 4 bytes))
unfolding record_in
read_is bytes = refl

and_left : (a b : Bool) → (a && b) ≡ true → a ≡ true
and_left true b e = refl
and_left false b e = absurd cc

and_right : (a b : Bool) → (a && b) ≡ true → b ≡ true
and_right true b e = e
and_right false b e = absurd cc

-- a length that is allowed is neither so small nor so large
long : (n : ℕ) → is_size n ≡ true → 4 ≤ n
long n e = let le : 22 ≤ n = leb-true _ _ (and_left (nat_le 22 n) (nat_le n 16384) e) in omega arith

short : (n : ℕ) → is_size n ≡ true → n ≤ record_limit
short n e = leb-true _ _ (and_right (nat_le 22 n) (nat_le n 16384) e)

-- which tests were passed where a record was read
tested_ok : (few sized cut : Bool) (found : Found) (x : LogRecord × ℕ) → tested few sized cut found ≡ Ok x → (sized ≡ true) × (cut ≡ false) × (found ≡ Ok x)
tested_ok true sized cut found x e = absurd cc
tested_ok false false cut found x e = absurd cc
tested_ok false true true found x e = absurd cc
tested_ok false true false found x e = (refl, refl, e)

-- a record that was read has bytes, and they are there
pub record_size : (bytes : List ℕ) (r : LogRecord) (n : ℕ) → record_in bytes ≡ Ok (r, n) → (1 ≤ n) × (n ≤ length bytes)
record_size bytes r n e =
    let size : ℕ = big_number 4 bytes in
    let t = tested_ok (nat_lt (length bytes) 4) (is_size size) (nat_lt (length bytes) size) (whole_in bytes size) (r, n) (sym (read_is bytes) ∙ e) in
    let is : n ≡ size = whole_size bytes size r n t.2 in
    let many : 4 ≤ size = long size t.0 in
    let within : size ≤ length bytes = ltb-false _ _ t.1 in
    (omega arith, omega arith)

ended_last : (fields : Found) (last size : ℕ) (r : LogRecord) (n : ℕ) → ended fields last size ≡ Ok (r, n) → last ≡ size
ended_last (Ok found) last size r n e = eqb-true _ _ (and_right (found.1 == size - 4) (last == size) (passed (found.1 == size - 4 && last == size) e))
  where
    passed : (b : Bool) → cond {A = Found} b (Ok (found.0, size)) (Err (fault.Bad found.1)) ≡ Ok (r, n) → b ≡ true
    passed true e = refl
    passed false e = absurd cc
ended_last (Err d) last size r n e = absurd cc

-- its length stands at its end again
pub record_framed : (bytes : List ℕ) (r : LogRecord) (n : ℕ) → record_in bytes ≡ Ok (r, n) → (4 ≤ n) × (n ≤ record_limit) × (big_number 4 (drop (n - 4) bytes) ≡ n)
record_framed bytes r n e =
    let size : ℕ = big_number 4 bytes in
    let t = tested_ok (nat_lt (length bytes) 4) (is_size size) (nat_lt (length bytes) size) (whole_in bytes size) (r, n) (sym (read_is bytes) ∙ e) in
    let is : n ≡ size = whole_size bytes size r n t.2 in
    let last : big_number 4 (drop (size - 4) bytes) ≡ size = ended_last (fields_in (take (size - 4) bytes)) (big_number 4 (drop (size - 4) bytes)) size r n (sym (whole_is bytes size) ∙ t.2) in
    let many : 4 ≤ size = long size t.0 in
    let few : size ≤ record_limit = short size t.0 in
    (omega arith, omega arith, subst (λ (m : ℕ). big_number 4 (drop (m - 4) bytes) ≡ m) (sym is) last)

front_by : (k : ℕ) (bytes : List ℕ) (few sized cut : Bool) → nat_lt (length (take k bytes)) 4 ≡ few → is_size (big_number 4 (take k bytes)) ≡ sized → nat_lt (length (take k bytes)) (big_number 4 (take k bytes)) ≡ cut
    → tested few sized cut (whole_in (take k bytes) (big_number 4 (take k bytes))) ≢ Err fault.NotWhole → record_in bytes ≡ tested few sized cut (whole_in (take k bytes) (big_number 4 (take k bytes)))
front_by k bytes true sized cut p q s ne = absurd (ne refl)
front_by k bytes false false cut p q s ne =
    let many : 4 ≤ length (take k bytes) = ltb-false _ _ p in
    let len = length-take k bytes in
    let size : big_number 4 (take k bytes) ≡ big_number 4 bytes = big_from-take 0 4 k bytes (omega (arith, len)) in
    let enough : nat_lt (length bytes) 4 ≡ false = le-ltb _ _ (omega (arith, len)) in
    let none : is_size (big_number 4 bytes) ≡ false = ap is_size (sym size) ∙ q in
    read_is bytes ∙ ap (λ (b : Bool). tested b (is_size (big_number 4 bytes)) (nat_lt (length bytes) (big_number 4 bytes)) (whole_in bytes (big_number 4 bytes))) enough
    ∙ ap (λ (b : Bool). tested false b (nat_lt (length bytes) (big_number 4 bytes)) (whole_in bytes (big_number 4 bytes))) none
front_by k bytes false true true p q s ne = absurd (ne refl)
front_by k bytes false true false p q s ne =
    let t : List ℕ = take k bytes in
    let n : ℕ = big_number 4 bytes in
    let many : 4 ≤ length t = ltb-false _ _ p in
    let len = length-take k bytes in
    let size : big_number 4 t ≡ n = big_from-take 0 4 k bytes (omega (arith, len)) in
    let enough : nat_lt (length bytes) 4 ≡ false = le-ltb _ _ (omega (arith, len)) in
    let sized : is_size n ≡ true = ap is_size (sym size) ∙ q in
    let within : big_number 4 t ≤ length t = ltb-false _ _ s in
    let uncut : nat_lt (length bytes) n ≡ false = le-ltb _ _ (omega (arith, len, size, within)) in
    read_is bytes ∙ ap (λ (b : Bool). tested b (is_size n) (nat_lt (length bytes) n) (whole_in bytes n)) enough
    ∙ ap (λ (b : Bool). tested false b (nat_lt (length bytes) n) (whole_in bytes n)) sized
    ∙ ap (λ (b : Bool). tested false true b (whole_in bytes n)) uncut
    ∙ sym (whole_front k n bytes (long n sized) (omega (arith, len, size, within)))
    ∙ ap (λ (m : ℕ). whole_in t m) (sym size)

-- what isn't short at a front of bytes is the same of all of them
pub record_front : (k : ℕ) (bytes : List ℕ) → record_in (take k bytes) ≢ Err fault.NotWhole → record_in bytes ≡ record_in (take k bytes)
record_front k bytes ne =
    let t : List ℕ = take k bytes in
    let is = read_is t in
    front_by k bytes (nat_lt (length t) 4) (is_size (big_number 4 t)) (nat_lt (length t) (big_number 4 t)) refl refl refl (λ e. ne (is ∙ e)) ∙ sym is

-- the record at the front is read of its own bytes
pub record_own : (k : ℕ) (bytes : List ℕ) (r : LogRecord) (n : ℕ) → record_in bytes ≡ Ok (r, n) → n ≤ k → record_in (take k bytes) ≡ Ok (r, n)
record_own k bytes r n e le =
    let size : ℕ = big_number 4 bytes in
    let t : List ℕ = take k bytes in
    let passed = tested_ok (nat_lt (length bytes) 4) (is_size size) (nat_lt (length bytes) size) (whole_in bytes size) (r, n) (sym (read_is bytes) ∙ e) in
    let is : n ≡ size = whole_size bytes size r n passed.2 in
    let many : 4 ≤ size = long size passed.0 in
    let within : size ≤ length bytes = ltb-false _ _ passed.1 in
    let len = length-take k bytes in
    let same : big_number 4 t ≡ size = big_from-take 0 4 k bytes (omega arith) in
    let enough : nat_lt (length t) 4 ≡ false = le-ltb _ _ (omega (arith, len)) in
    let sized : is_size (big_number 4 t) ≡ true = ap is_size same ∙ passed.0 in
    let uncut : nat_lt (length t) (big_number 4 t) ≡ false = le-ltb _ _ (omega (arith, len, same)) in
    read_is t ∙ ap (λ (b : Bool). tested b (is_size (big_number 4 t)) (nat_lt (length t) (big_number 4 t)) (whole_in t (big_number 4 t))) enough
    ∙ ap (λ (b : Bool). tested false b (nat_lt (length t) (big_number 4 t)) (whole_in t (big_number 4 t))) sized
    ∙ ap (λ (b : Bool). tested false true b (whole_in t (big_number 4 t))) uncut
    ∙ ap (λ (m : ℕ). whole_in t m) same
    ∙ whole_front k size bytes many (omega arith)
    ∙ passed.2

-- no bytes are no record
pub none_read : record_in [] ≡ Err fault.NotWhole
unfolding record_in
none_read = refl
