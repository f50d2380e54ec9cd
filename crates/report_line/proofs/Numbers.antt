-- Numbers in digits, read again.
use Rattle.std.proofs.Common.{◌≡◌, ℕ, ◌+◌, ◌-◌, ◌*◌, ◌/◌, ◌%◌, ◌^◌, ◌<◌, ◌≤◌, Bool, true, false, ◌&&◌, nat_lt, nat_le, if◌then◌else◌, List, [], ◌∷◌, ◌++◌, length, Some, None, refl, ◌∙◌, arith, decimal}
use Rattle.std.proofs.lemmas.Bool.Decides.{nat_tests}
use Rattle.std.proofs.lemmas.Fmt.{decimal_by_steps_wide, decimal_nonempty, length-decimal-le, length-decimal-le_wide, decimal_is_IsNumeral_wide}
use Rattle.std.specs.Option.{unwrap_or}
use Rattle.std.specs.List.{list_all}
use Rattle.std.specs.Str.{all_ascii_digits}
use Rattle.std.specs.Char.{is_ascii_digit}
use Rattle.number_text.specs.Numbers.{spelled, spelled_after, is_number, is_wide_number}
use Rattle.report_line.specs.Reading.{number, wide_number}
use Rattle.report_line.proofs.Tests.{and_left, and_right, and_true}

-- above the blank and the line feed
abbrev pub is_plain_byte : ℕ → Bool
is_plain_byte b = nat_lt 32 b

abbrev pub is_plain : List ℕ → Bool
is_plain word = list_all is_plain_byte word

pub plain_append : (a b : List ℕ) → is_plain a ≡ true → is_plain b ≡ true → is_plain (a ++ b) ≡ true
plain_append [] b h k = k
plain_append (x ∷ a) b h k = and_true (is_plain_byte x) (is_plain (a ++ b)) (and_left (is_plain_byte x) (is_plain a) h) (plain_append a b (and_right (is_plain_byte x) (is_plain a) h) k)

digits_append : (a b : List ℕ) → all_ascii_digits a ≡ true → all_ascii_digits b ≡ true → all_ascii_digits (a ++ b) ≡ true
digits_append [] b h k = k
digits_append (x ∷ a) b h k = and_true (is_ascii_digit x) (all_ascii_digits (a ++ b)) (and_left (is_ascii_digit x) (all_ascii_digits a) h) (digits_append a b (and_right (is_ascii_digit x) (all_ascii_digits a) h) k)

spelled_push : (n : ℕ) (ds : List ℕ) (d : ℕ) → spelled_after n (ds ++ d ∷ []) ≡ spelled_after n ds * 10 + (d - 48)
spelled_push n [] d = refl
spelled_push n (a ∷ ds) d = spelled_push (n * 10 + (a - 48)) ds d

pub record Digits (n : ℕ) (ds : List ℕ) : Type 0 where
  pub value : spelled ds ≡ n
  pub digits : all_ascii_digits ds ≡ true
  pub plain : is_plain ds ≡ true

digit_is : (d : ℕ) → d < 10 → is_ascii_digit (48 + d) ≡ true
digit_is d h = grind (arith, nat_tests)

one_digit : (n : ℕ) → n < 10 → Digits n ((48 + n) ∷ [])
one_digit n h = record {
  value = omega arith;
  digits = and_true (is_ascii_digit (48 + n)) true (digit_is n h) refl;
  plain = and_true (is_plain_byte (48 + n)) true (grind (arith, nat_tests)) refl;
}

more_digits : (n : ℕ) (ds : List ℕ) → 10 ≤ n → Digits (n / 10) ds → Digits n (ds ++ ((48 + n % 10) ∷ []))
more_digits n ds h k =
    let last : n % 10 < 10 = omega arith in
    record {
      value = (let push = spelled_push 0 ds (48 + n % 10) in let front = k.value in omega (arith, push, front));
      digits = digits_append ds ((48 + n % 10) ∷ []) k.digits (and_true (is_ascii_digit (48 + n % 10)) true (digit_is (n % 10) last) refl);
      plain = plain_append ds ((48 + n % 10) ∷ []) k.plain (and_true (is_plain_byte (48 + n % 10)) true (grind (arith, nat_tests)) refl);
    }

pub decimal_digits : (n : ℕ) → n < 10 ^ 64 → Digits n (decimal n)
decimal_digits n h = decimal_by_steps_wide Digits one_digit more_digits n h

some_of : (b : Bool) (n : ℕ) → b ≡ true → unwrap_or (if b then Some n else None) 0 ≡ n
some_of true n h = refl
some_of false n h = cc

pub number_again : (n : ℕ) → n < 2 ^ 64 → number (decimal n) ≡ n
unfolding number
number_again n h =
    let d = decimal_digits n (omega arith) in
    let value = d.value in
    let some : 0 < length (decimal n) = decimal_nonempty n h in
    let few : length (decimal n) ≤ 20 = length-decimal-le 20 n (omega arith) (omega arith) h in
    let test = and_true (nat_le 1 (length (decimal n))) (nat_le (length (decimal n)) 20 && (all_ascii_digits (decimal n) && nat_lt (spelled (decimal n)) (2 ^ 64))) (grind (arith, nat_tests))
    (and_true (nat_le (length (decimal n)) 20) (all_ascii_digits (decimal n) && nat_lt (spelled (decimal n)) (2 ^ 64)) (grind (arith, nat_tests))
    (and_true (all_ascii_digits (decimal n)) (nat_lt (spelled (decimal n)) (2 ^ 64)) d.digits (grind (arith, nat_tests)))) in
    some_of (is_number (decimal n)) (spelled (decimal n)) test ∙ value

pub wide_number_again : (n : ℕ) → n < 2 ^ 80 → wide_number (decimal n) ≡ n
unfolding wide_number
wide_number_again n h =
    let d = decimal_digits n (omega arith) in
    let value = d.value in
    let some : 0 < length (decimal n) = (decimal_is_IsNumeral_wide n (omega arith)).0.0 in
    let few : length (decimal n) ≤ 25 = length-decimal-le_wide 25 n (omega arith) (omega arith) (omega arith) in
    let test = and_true (nat_le 1 (length (decimal n))) (nat_le (length (decimal n)) 25 && (all_ascii_digits (decimal n) && nat_lt (spelled (decimal n)) (2 ^ 80))) (grind (arith, nat_tests))
    (and_true (nat_le (length (decimal n)) 25) (all_ascii_digits (decimal n) && nat_lt (spelled (decimal n)) (2 ^ 80)) (grind (arith, nat_tests))
    (and_true (all_ascii_digits (decimal n)) (nat_lt (spelled (decimal n)) (2 ^ 80)) d.digits (grind (arith, nat_tests)))) in
    some_of (is_wide_number (decimal n)) (spelled (decimal n)) test ∙ value
