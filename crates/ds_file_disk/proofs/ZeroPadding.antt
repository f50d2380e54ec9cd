-- What `{:03}` and `{:02}` write of a number.
use Rattle.std.proofs.Common.{◌≡◌, ℕ, ◌-◌, ◌^◌, List, [], ◌++◌, length, replicate, ap, ◌∙◌, arith, append-nil}
use Rattle.std.specs.Fmt.{decimal, format_spec, styled_decimal, padded_integral, char_count}
use Rattle.ds_file_disk.specs.Names.{padded}

pub three_digits : (n : ℕ) → styled_decimal (format_spec 32 0 4 3 (2 ^ 64 - 1)) n ≡ padded 3 n
unfolding padded_integral char_count
three_digits n =
    let gap : 3 - length (decimal n) - 0 - 0 ≡ 3 - length (decimal n) = omega arith in
    ap (λ k. replicate k 48 ++ (decimal n ++ [])) gap ∙ ap (λ (tail : List ℕ). replicate (3 - length (decimal n)) 48 ++ tail) (append-nil (decimal n))

pub two_digits : (n : ℕ) → styled_decimal (format_spec 32 0 4 2 (2 ^ 64 - 1)) n ≡ padded 2 n
unfolding padded_integral char_count
two_digits n =
    let gap : 2 - length (decimal n) - 0 - 0 ≡ 2 - length (decimal n) = omega arith in
    ap (λ k. replicate k 48 ++ (decimal n ++ [])) gap ∙ ap (λ (tail : List ℕ). replicate (2 - length (decimal n)) 48 ++ tail) (append-nil (decimal n))
