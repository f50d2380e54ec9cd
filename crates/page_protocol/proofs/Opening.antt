-- The opening over a sound disk is good.
use Rattle.std.proofs.Common.{ℕ, arith}
use Rattle.page_protocol.specs.Down.{Grounded}
use Rattle.page_protocol.specs.Opening.{Disk, IsSound, opening, OpensGood}

grounded : (d : Disk) (n : ℕ) → IsSound d → Grounded (opening d).group ((opening d).pages n)
grounded d n s = let a = s.versions n in let b = s.logs n in grind (arith, a, b)

pub opens : OpensGood
opens d s = record {
  stands = λ n. grounded d n s;
  ordered = λ n. s.order n;
  numbered = λ n. record { rise = s.rise n; drawn = s.drawn n; positive = s.positive n };
}
