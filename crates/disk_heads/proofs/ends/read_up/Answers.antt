use Rattle.std.proofs.Common.{◌≡◌, ℕ, ◌≤◌, length, sym, subst, arith}
use Rattle.disk_heads.proofs.Ending.{brings_nearer}
use Rattle.disk_heads.proofs.ends.read_up.Goals as goal

pub loop-at-smaller : goal.loop-at-smaller
loop-at-smaller g c =
    let some : 1 ≤ c.loop-at.end.block = subst (λ (n : ℕ). 1 ≤ n) (sym c.loop-at.invariant.0) c.requires.some in
    let long : c.loop-at.end.block ≡ length c.loop-at.block = omega (arith, c.loop-at.invariant.0, c.requires.block) in
    brings_nearer c.loop-at.end c.read_on.new.end c.loop-at.block c.in-Some.at c.in-Some.count some long (cc) c.in_ok-read_on.ensures.read
