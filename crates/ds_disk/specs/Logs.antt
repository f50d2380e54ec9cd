-- Whether all logs are of bytes, and of lengths that 64 bits can count.
use Rattle.std.specs.Prelude.{◌≡◌, ◌-◌, ◌≤◌, ◌<◌, ◌^◌, ℕ, nat_lt, Bool, true, ◌&&◌, List, [], ◌∷◌, length, replicate, take, slice_index, slice_index_or, slice_set}
use Rattle.std.specs.List.{list_all}
use Rattle.std.proofs.Common.{zero, suc, refl, ap, ◌∙◌, arith}
use Rattle.std.proofs.lemmas.Bool.{and_parts, and_from, lt-ltb, ltb-true}
use Rattle.ds_disk.specs.Contents.{log_of}
use Rattle.ds_disk.specs.Pages.{AreBytes}
use Rattle.ds_disk.specs.Written.{is_byte, all_bytes, byte_at}

-- each is a byte, and there are fewer than 2^64
pub record IsLogOfBytes (log : List ℕ) : Type 0 where
  pub are : AreBytes log
  pub short : length log < 2 ^ 64

-- each log is of bytes, as an empty one is
abbrev pub LogsAreBytes : List (List ℕ) → Type 0
LogsAreBytes logs = (member : ℕ) → IsLogOfBytes (log_of logs member)

abbrev pub is_log : List ℕ → Bool
is_log log = list_all is_byte log && nat_lt (length log) (2 ^ 64)

pub logs_have_bytes : List (List ℕ) → Bool
logs_have_bytes logs = list_all is_log logs

-- ---- a log

holds : (log : List ℕ) → IsLogOfBytes log → is_log log ≡ true
holds log is = and_from (list_all is_byte log) (nat_lt (length log) (2 ^ 64)) (all_bytes log is.are) (lt-ltb (length log) (2 ^ 64) is.short)

held : (log : List ℕ) → is_log log ≡ true → IsLogOfBytes log
held log h =
    let both = and_parts (list_all is_byte log) (nat_lt (length log) (2 ^ 64)) h in
    record { are = λ i. byte_at log i both.0; short = ltb-true (length log) (2 ^ 64) both.1 }

empty_at : (i : ℕ) → slice_index [] i < 256
empty_at zero = omega arith
empty_at (suc i) = omega arith

empty_is : IsLogOfBytes []
empty_is = record { are = empty_at; short = omega arith }

cut_bytes : (n : ℕ) (bytes : List ℕ) → list_all is_byte bytes ≡ true → list_all is_byte (take n bytes) ≡ true
cut_bytes zero bytes h = refl
cut_bytes (suc n) [] h = refl
cut_bytes (suc n) (b ∷ bs) h =
    let both = and_parts (is_byte b) (list_all is_byte bs) h in
    and_from (is_byte b) (list_all is_byte (take n bs)) both.0 (cut_bytes n bs both.1)

cut_short : (n : ℕ) (bytes : List ℕ) → length (take n bytes) ≤ length bytes
cut_short zero bytes = omega arith
cut_short (suc n) [] = omega arith
cut_short (suc n) (b ∷ bs) = let less = cut_short n bs in omega (arith, less)

cut_is : (n : ℕ) (log : List ℕ) → is_log log ≡ true → is_log (take n log) ≡ true
cut_is n log h =
    let both = and_parts (list_all is_byte log) (nat_lt (length log) (2 ^ 64)) h in
    let short : length log < 2 ^ 64 = ltb-true (length log) (2 ^ 64) both.1 in
    let less = cut_short n log in
    and_from (list_all is_byte (take n log)) (nat_lt (length (take n log)) (2 ^ 64)) (cut_bytes n log both.0) (lt-ltb (length (take n log)) (2 ^ 64) (omega (arith, short, less)))

-- ---- logs

found_is : (logs : List (List ℕ)) (i : ℕ) → list_all is_log logs ≡ true → IsLogOfBytes (slice_index_or logs i [])
found_is [] zero h = empty_is
found_is [] (suc i) h = empty_is
found_is (b ∷ bs) zero h = held b (and_parts (is_log b) (list_all is_log bs) h).0
found_is (b ∷ bs) (suc i) h = found_is bs i (and_parts (is_log b) (list_all is_log bs) h).1

set_has : (logs : List (List ℕ)) (i : ℕ) (log : List ℕ) → IsLogOfBytes log → list_all is_log logs ≡ true → list_all is_log (slice_set logs i log) ≡ true
set_has [] zero log is h = refl
set_has [] (suc i) log is h = refl
set_has (b ∷ bs) zero log is h = and_from (is_log log) (list_all is_log bs) (holds log is) (and_parts (is_log b) (list_all is_log bs) h).1
set_has (b ∷ bs) (suc i) log is h =
    let both = and_parts (is_log b) (list_all is_log bs) h in
    and_from (is_log b) (list_all is_log (slice_set bs i log)) both.0 (set_has bs i log is both.1)

cut_has : (logs : List (List ℕ)) (i n : ℕ) → list_all is_log logs ≡ true → list_all is_log (slice_set logs i (take n (slice_index_or logs i []))) ≡ true
cut_has [] zero n h = refl
cut_has [] (suc i) n h = refl
cut_has (b ∷ bs) zero n h =
    let both = and_parts (is_log b) (list_all is_log bs) h in
    and_from (is_log (take n b)) (list_all is_log bs) (cut_is n b both.0) both.1
cut_has (b ∷ bs) (suc i) n h =
    let both = and_parts (is_log b) (list_all is_log bs) h in
    and_from (is_log b) (list_all is_log (slice_set bs i (take n (slice_index_or bs i [])))) both.0 (cut_has bs i n both.1)

none_has : (n : ℕ) → list_all is_log (replicate n []) ≡ true
none_has zero = refl
none_has (suc n) = and_from (is_log []) (list_all is_log (replicate n [])) (holds [] empty_is) (none_has n)

-- ---- laws

pub empty_logs_have : logs_have_bytes (replicate 32 []) ≡ true
unfolding logs_have_bytes
empty_logs_have = none_has 32

pub set_logs_have : (logs : List (List ℕ)) (i : ℕ) (log : List ℕ) → IsLogOfBytes log → logs_have_bytes logs ≡ true → logs_have_bytes (slice_set logs i log) ≡ true
unfolding logs_have_bytes
set_logs_have logs i log is h = set_has logs i log is h

pub cut_logs_have : (logs new : List (List ℕ)) (member n : ℕ) → new ≡ slice_set logs (member - 1) (take n (log_of logs member)) → logs_have_bytes logs ≡ true → logs_have_bytes new ≡ true
unfolding logs_have_bytes
cut_logs_have logs new member n is h = ap (list_all is_log) is ∙ cut_has logs (member - 1) n h

pub logs_are : (logs : List (List ℕ)) → logs_have_bytes logs ≡ true → LogsAreBytes logs
unfolding logs_have_bytes
logs_are logs h = λ member. found_is logs (member - 1) h
