use Rattle.std.proofs.Common.{◌≡◌, ◌++◌, map, take}
use Rattle.std.specs.List.{flat_map}
use Rattle.claim_sights.specs.Seen.{sights_for}
use Rattle.claim_sights.proofs.looks.put_others.Given as goal

abbrev pub invariant-loop-tran : goal.invariant-loop-tran
invariant-loop-tran l = l.sights.items ≡ l.fn.sights.items ++ flat_map (sights_for (map (λ m. m.now) l.all) (map (λ t. t.now) l.roster) l.place l.name) (take l.tran-index l.others)
