use Rattle.std.proofs.Common.{◌≡◌, ◌++◌, map, take}
use Rattle.lock_sights.proofs.roster.put_part.Given as goal

abbrev pub invariant-loop-tran : goal.invariant-loop-tran
invariant-loop-tran l = map (λ t. t.now) l.out.items ≡ map (λ t. t.now) l.fn.out.items ++ take l.tran-index l.part.trans
