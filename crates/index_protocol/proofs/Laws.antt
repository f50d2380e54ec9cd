-- What a copy covers.
use Rattle.std.proofs.Common.{◌≡◌, ℕ, ◌<◌, ◌≤◌, arith, refl, true, false, Option, Some, None}
use Rattle.std.specs.Prelude.{leb}
use Rattle.index_protocol.specs.Index.{Link, beyond}

pub below : (o : Option Link) (k m : ℕ) → beyond o m ≡ false → k ≤ m → beyond o k ≡ false
unfolding beyond
below None k m h le = refl
below (Some l) k m h le = grind arith

pub below_high : (l : Link) (k : ℕ) → beyond (Some l) k ≡ false → k < l.high
unfolding beyond
below_high l k h = grind arith

pub beyond_some : (h r k : ℕ) → beyond (Some (record { high = h; right = r })) k ≡ leb h k
unfolding beyond
beyond_some h r k = refl

pub apart : (o : Option Link) (a b : ℕ) → beyond o a ≡ false → beyond o b ≡ true → a < b
unfolding beyond
apart None a b x y = cc
apart (Some l) a b x y = grind arith
