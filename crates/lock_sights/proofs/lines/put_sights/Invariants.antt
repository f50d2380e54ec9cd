use Rattle.std.proofs.Common.{◌≡◌, ◌++◌, map, take}
use Rattle.lock_sights.specs.Lines.{sights_text}
use Rattle.lock_sights.proofs.lines.put_sights.Given as goal

abbrev pub invariant-loop-sight : goal.invariant-loop-sight
invariant-loop-sight l = l.out ≡ l.fn.out ++ sights_text (map (λ t. t.now) l.all) (take l.sight-index l.sights)
