-- How many phases may end before no more may begin.
use Rattle.std.proofs.Common.{◌≡◌, ℕ, ◌+◌, leb, arith}
use Rattle.std.proofs.lemmas.Bool.Decides.{nat_tests}

pub with_open : (n : ℕ) → leb 1024 (n + 1) ≡ leb 1023 n
with_open n = grind (arith, nat_tests)
