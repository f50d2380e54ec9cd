-- The whole records of bytes, one after the other.
use Rattle.std.proofs.Common.{◌≡◌, ℕ, zero, suc, ◌+◌, ◌-◌, ◌<◌, ◌≤◌, List, [], ◌∷◌, ◌++◌, length, take, drop, Result, Ok, Err, refl, sym, ap, subst, ◌∙◌, arith}
use Rattle.std.proofs.lemmas.List.{length-drop, nil_from_length, length-take, drop-take}
use Rattle.log_record.specs.Given.{LogRecord}
use Rattle.log_record.specs.declared.fault.RecordFault.{RecordFault}
use Rattle.log_record.specs.declared.fault.RecordFault.TheVariants.{NotWhole, Bad, NoMemory}
use Rattle.log_record.specs.Reading.{record_in}
use Rattle.log_record.specs.Logs.{Parts, behind, parts_from, parts_up_to, parts_in}
use Rattle.log_head.specs.Heads.{IsShort}
use Rattle.log_head.specs.Whole.{records_from, records_up_to, whole_records}
use Rattle.log_head.proofs.Fronts.{record_size, record_own, none_read}

abbrev Found : Type 0
Found = Result (LogRecord × ℕ) RecordFault

-- ---- a count that is large enough

more_is : (count : ℕ) (bytes : List ℕ) → records_up_to (suc count) bytes ≡ records_from (λ rest. records_up_to count rest) bytes (record_in bytes)
unfolding records_up_to
more_is count bytes = refl

none_is : (bytes : List ℕ) → records_up_to zero bytes ≡ []
unfolding records_up_to
none_is bytes = refl

of_none : (count : ℕ) → records_up_to count [] ≡ []
of_none zero = none_is []
of_none (suc count) = more_is count [] ∙ ap (λ (f : Found). records_from (λ rest. records_up_to count rest) [] f) none_read

same_behind : (f : Found) (bytes : List ℕ) (go on : List ℕ → List LogRecord) → record_in bytes ≡ f → ((n : ℕ) → 1 ≤ n → n ≤ length bytes → go (drop n bytes) ≡ on (drop n bytes)) → records_from go bytes f ≡ records_from on bytes f
same_behind (Ok (r, n)) bytes go on e h = let s = record_size bytes r n e in ap (λ (rs : List LogRecord). r ∷ rs) (h n s.0 s.1)
same_behind (Err d) bytes go on e h = refl

pub enough : (m n : ℕ) (bytes : List ℕ) → length bytes ≤ m → length bytes ≤ n → records_up_to m bytes ≡ records_up_to n bytes
enough zero n bytes p q =
    let none : bytes ≡ [] = nil_from_length bytes (omega arith) in
    none_is bytes ∙ sym (ap (records_up_to n) none ∙ of_none n)
enough (suc m) zero bytes p q =
    let none : bytes ≡ [] = nil_from_length bytes (omega arith) in
    ap (records_up_to (suc m)) none ∙ of_none (suc m) ∙ sym (none_is bytes)
enough (suc m) (suc n) bytes p q =
    more_is m bytes
    ∙ same_behind (record_in bytes) bytes (λ rest. records_up_to m rest) (λ rest. records_up_to n rest) refl
    (λ k one within. enough m n (drop k bytes) (omega (arith, length-drop k bytes)) (omega (arith, length-drop k bytes)))
    ∙ sym (more_is n bytes)

whole_is : (bytes : List ℕ) → whole_records bytes ≡ records_up_to (length bytes) bytes
unfolding whole_records
whole_is bytes = refl

-- ---- the first record

pub whole_first : (bytes : List ℕ) (r : LogRecord) (n : ℕ) → record_in bytes ≡ Ok (r, n) → whole_records bytes ≡ r ∷ whole_records (drop n bytes)
whole_first bytes r n e =
    let s = record_size bytes r n e in
    let left = length-drop n bytes in
    whole_is bytes ∙ enough (length bytes) (suc (length bytes)) bytes (omega arith) (omega arith)
    ∙ more_is (length bytes) bytes
    ∙ ap (λ (f : Found). records_from (λ rest. records_up_to (length bytes) rest) bytes f) e
    ∙ ap (λ (rs : List LogRecord). r ∷ rs) (enough (length bytes) (length (drop n bytes)) (drop n bytes) (omega (arith, left)) (omega arith) ∙ sym (whole_is (drop n bytes)))

pub whole_none : (bytes : List ℕ) (fault : RecordFault) → record_in bytes ≡ Err fault → whole_records bytes ≡ []
whole_none bytes fault e =
    whole_is bytes ∙ enough (length bytes) (suc (length bytes)) bytes (omega arith) (omega arith)
    ∙ more_is (length bytes) bytes
    ∙ ap (λ (f : Found). records_from (λ rest. records_up_to (length bytes) rest) bytes f) e

-- ---- the parts of a log

-- the whole records of a log's parts, and how many bytes they have, which are read alone
abbrev pub AreParts : List ℕ → Parts → Type 0
AreParts bytes p = (p.size ≤ length bytes) × (whole_records (take p.size bytes) ≡ p.records)

no_parts : (bytes : List ℕ) (p : Parts) → p ≡ record { records = []; size = 0; tail = length bytes } → AreParts bytes p
no_parts bytes p e = subst (AreParts bytes) (sym e) (omega arith, whole_none [] NotWhole none_read)

abbrev GoesOn : (List ℕ → Result Parts ℕ) → Type 0
GoesOn read_on = (rest : List ℕ) (p : Parts) → read_on rest ≡ Ok p → AreParts rest p

parts_behind : (bytes : List ℕ) (r : LogRecord) (n : ℕ) (q : Result Parts ℕ) (p : Parts) → record_in bytes ≡ Ok (r, n) → behind r n q ≡ Ok p → ((s : Parts) → q ≡ Ok s → AreParts (drop n bytes) s) → AreParts bytes p
parts_behind bytes r n (Err at) p is e h = absurd cc
parts_behind bytes r n (Ok s) p is e h =
    let a = h s refl in
    let z = record_size bytes r n is in
    let left = length-drop n bytes in
    let own : record_in (take (n + s.size) bytes) ≡ Ok (r, n) = record_own (n + s.size) bytes r n is (omega arith) in
    let rest : drop n (take (n + s.size) bytes) ≡ take s.size (drop n bytes) = drop-take n s.size bytes in
    let whole : Parts = record { records = r ∷ s.records; size = n + s.size; tail = s.tail } in
    let same : whole ≡ p = cc in
    subst (AreParts bytes) same (
      omega (arith, a.0, left, z.1),
      whole_first (take (n + s.size) bytes) r n own ∙ ap (λ (t : List ℕ). r ∷ whole_records t) rest ∙ ap (λ (rs : List LogRecord). r ∷ rs) a.1,
    )

parts_when : (bytes : List ℕ) (read_on : List ℕ → Result Parts ℕ) (f : Found) (p : Parts) → record_in bytes ≡ f → parts_from read_on bytes f ≡ Ok p → GoesOn read_on → AreParts bytes p
parts_when bytes read_on (Ok (r, n)) p is e h = parts_behind bytes r n (read_on (drop n bytes)) p is e (λ s. h (drop n bytes) s)
parts_when bytes read_on (Err NotWhole) p is e h = no_parts bytes p cc
parts_when bytes read_on (Err (Bad at)) p is e h = absurd cc
parts_when bytes read_on (Err NoMemory) p is e h = no_parts bytes p cc

parts_up : (count : ℕ) → GoesOn (λ rest. parts_up_to count rest)
unfolding parts_up_to
parts_up zero = λ rest p e. no_parts rest p cc
parts_up (suc count) = λ rest p e. parts_when rest (λ more. parts_up_to count more) (record_in rest) p refl e (parts_up count)

pub parts_whole : (bytes : List ℕ) (p : Parts) → parts_in bytes ≡ Ok p → AreParts bytes p
unfolding parts_in
parts_whole bytes p e = parts_up (suc (length bytes)) bytes p e

-- ---- the parts behind the first record

up_to_more : (count : ℕ) (bytes : List ℕ) → parts_up_to (suc count) bytes ≡ parts_from (λ rest. parts_up_to count rest) bytes (record_in bytes)
unfolding parts_up_to
up_to_more count bytes = refl

in_is : (bytes : List ℕ) → parts_in bytes ≡ parts_up_to (suc (length bytes)) bytes
unfolding parts_in
in_is bytes = refl

same_from : (f : Found) (bytes : List ℕ) (go on : List ℕ → Result Parts ℕ) → record_in bytes ≡ f → ((n : ℕ) → 1 ≤ n → n ≤ length bytes → go (drop n bytes) ≡ on (drop n bytes)) → parts_from go bytes f ≡ parts_from on bytes f
same_from (Ok (r, n)) bytes go on e h = let s = record_size bytes r n e in ap (behind r n) (h n s.0 s.1)
same_from (Err NotWhole) bytes go on e h = refl
same_from (Err (Bad at)) bytes go on e h = refl
same_from (Err NoMemory) bytes go on e h = refl

up_to_enough : (m n : ℕ) (bytes : List ℕ) → length bytes < m → length bytes < n → parts_up_to m bytes ≡ parts_up_to n bytes
up_to_enough zero n bytes p q = absurd (omega (arith, p))
up_to_enough (suc m) zero bytes p q = absurd (omega (arith, q))
up_to_enough (suc m) (suc n) bytes p q =
    up_to_more m bytes
    ∙ same_from (record_in bytes) bytes (λ rest. parts_up_to m rest) (λ rest. parts_up_to n rest) refl
    (λ k one within. up_to_enough m n (drop k bytes) (omega (arith, length-drop k bytes, p)) (omega (arith, length-drop k bytes, q)))
    ∙ sym (up_to_more n bytes)

in_from : (bytes : List ℕ) (f : Found) → record_in bytes ≡ f → parts_in bytes ≡ parts_from (λ rest. parts_up_to (length bytes) rest) bytes f
in_from bytes f e = in_is bytes ∙ up_to_more (length bytes) bytes ∙ ap (parts_from (λ rest. parts_up_to (length bytes) rest) bytes) e

pub parts_go_on : (bytes : List ℕ) (r : LogRecord) (n : ℕ) → record_in bytes ≡ Ok (r, n) → parts_in bytes ≡ behind r n (parts_in (drop n bytes))
parts_go_on bytes r n e =
    let s = record_size bytes r n e in
    in_from bytes (Ok (r, n)) e
    ∙ ap (behind r n) (up_to_enough (length bytes) (suc (length (drop n bytes))) (drop n bytes) (omega (arith, length-drop n bytes, s.0, s.1)) (omega arith) ∙ sym (in_is (drop n bytes)))

end_when : (bytes : List ℕ) (f : Found) → record_in bytes ≡ f → IsShort f → parts_in bytes ≡ Ok (record { records = []; size = 0; tail = length bytes })
end_when bytes (Ok found) e short = absurd short
end_when bytes (Err NotWhole) e short = in_from bytes (Err NotWhole) e
end_when bytes (Err (Bad at)) e short = absurd short
end_when bytes (Err NoMemory) e short = in_from bytes (Err NoMemory) e

pub parts_end : (bytes : List ℕ) → IsShort (record_in bytes) → parts_in bytes ≡ Ok (record { records = []; size = 0; tail = length bytes })
parts_end bytes short = end_when bytes (record_in bytes) refl short

pub parts_bad : (bytes : List ℕ) (field : ℕ) → record_in bytes ≡ Err (Bad field) → parts_in bytes ≡ Err field
parts_bad bytes field e = in_from bytes (Err (Bad field)) e
