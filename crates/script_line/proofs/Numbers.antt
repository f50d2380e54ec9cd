-- What the decimal digits of a number are read as.
use Rattle.std.proofs.Common.{◌≡◌, ℕ, ◌<◌, ◌≤◌, ◌^◌, ◌-◌, true, List, Some, Ok, length, refl, ap, ◌∙◌, arith, rules}
use Rattle.std.specs.Fmt.{decimal}
use Rattle.std.specs.Str.{all_ascii_digits}
use Rattle.std.proofs.lemmas.Bool.{le-leb, lt-ltb}
use Rattle.std.proofs.lemmas.Fmt.{digits_decimal, digits_value-decimal, decimal_nonempty, length-decimal-le}
use Rattle.std.proofs.lemmas.Str.Parse.{IsNumeralModel, numerals_by_fold}
use Rattle.number_text.specs.Numbers.{spelled, spelled_after, number_of}
use Rattle.ds_base.specs.Ids.{IsTable}
use Rattle.ds_model.specs.Scripts.{IsFlag, IsKey, IsCount}
use Rattle.ds_model.specs.declared.script.FaultKind.{FaultKind}
use Rattle.ds_model.specs.declared.script.FaultKind.TheVariants as fault
use Rattle.script_line.specs.Words.{is_between, between, member_in}
use Rattle.script_line.specs.Lines.{table_in, key_in, flag_in, count_in}

numerals : IsNumeralModel (λ ds. all_ascii_digits ds ≡ true) spelled
numerals = numerals_by_fold _ (search rules) spelled_after (search rules)

pub digits_of_number : (n : ℕ) → n < 2 ^ 64 → all_ascii_digits (decimal n) ≡ true
digits_of_number n h = digits_decimal numerals n h

some_number : (word : List ℕ) (n : ℕ) → 1 ≤ length word → length word ≤ 20 → all_ascii_digits word ≡ true → spelled word ≡ n → n < 2 ^ 64 → number_of word ≡ Some n
some_number word n low high digits value h = rw (le-leb 1 (length word) low, le-leb (length word) 20 high, digits, value, lt-ltb n (2 ^ 64) h) refl

pub number_of_decimal : (n : ℕ) → n < 2 ^ 64 → number_of (decimal n) ≡ Some n
number_of_decimal n h = some_number (decimal n) n (omega (arith, decimal_nonempty n h)) (length-decimal-le 20 n (omega arith) (omega arith) h) (digits_of_number n h) (digits_value-decimal numerals n h) h

between_is : (n least greatest : ℕ) → least ≤ n → n ≤ greatest → is_between least greatest n ≡ true
between_is n least greatest low high = rw (le-leb least n low, le-leb n greatest high) refl

-- a number from the least to the greatest is read from its digits
read_between : (kind : FaultKind) (least greatest n : ℕ) → n < 2 ^ 64 → least ≤ n → n ≤ greatest → between kind least greatest (number_of (decimal n)) ≡ Ok n
read_between kind least greatest n h low high = ap (between kind least greatest) (number_of_decimal n h) ∙ rw (between_is n least greatest low high) refl

pub member_is : (members n : ℕ) → members ≤ 32 → 1 ≤ n → n ≤ members → member_in members (decimal n) ≡ Ok n
member_is members n few low high = read_between fault.Member 1 members n (omega arith) low high

pub table_is : (n : ℕ) → IsTable n → table_in (decimal n) ≡ Ok n
table_is n h = read_between fault.Number 1 64 n (omega arith) h.0 h.1

pub key_is : (n : ℕ) → IsKey n → key_in (decimal n) ≡ Ok n
key_is n h = read_between fault.Number 0 (2 ^ 64 - 1) n h (omega arith) (omega arith)

pub flag_is : (n : ℕ) → IsFlag n → flag_in (decimal n) ≡ Ok n
flag_is n h = read_between fault.Number 1 64 n (omega arith) h.0 h.1

pub count_is : (n : ℕ) → IsCount n → count_in (decimal n) ≡ Ok n
count_is n h = read_between fault.Number 1 (2 ^ 32 - 1) n (omega arith) h.0 (omega arith)
