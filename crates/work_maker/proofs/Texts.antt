-- The texts of values and names.
use Rattle.std.proofs.Common.{ℕ, ◌+◌, ◌%◌, ◌^◌, ◌<◌, ◌≤◌, List, [], All, arith}
use Rattle.std.specs.Fmt.{decimal}
use Rattle.std.proofs.lemmas.Fmt.{decimal_by_steps, length-decimal-le}
use Rattle.std.proofs.lemmas.List.Elements.{All-nil, All-cons, All-push, All-weaker}
use Rattle.ds_base.specs.Values.{IsValue, IsValueByte}
use Rattle.work_maker.specs.Made.{value_of}

-- a digit
abbrev pub IsDigit : ℕ → Type 0
IsDigit b = (0x30 ≤ b) × (b ≤ 0x39)

pub digits_are : (n : ℕ) → n < 2 ^ 64 → All IsDigit (decimal n)
digits_are n h = decimal_by_steps (λ (m : ℕ) (ds : List ℕ). All IsDigit ds)
    (λ m l. All-cons IsDigit (48 + m) [] (omega arith, omega arith) (All-nil IsDigit))
    (λ m ds l k. All-push IsDigit ds (48 + m % 10) k (omega arith, omega arith))
    n h

pub value_allowed : (n : ℕ) → n < 1000000 → IsValue (value_of n)
value_allowed n h =
    let small : n < 2 ^ 64 = omega arith in
    let short = length-decimal-le 6 n (omega arith) (omega arith) small in
    let digits = All-weaker IsDigit IsValueByte (λ b d. (omega arith, omega arith)) (decimal n) (digits_are n small) in
    (omega (arith, short), All-cons IsValueByte 118 (decimal n) (omega arith, omega arith) digits)
