use Rattle.std.proofs.Common.{◌≡◌, take, map}
use Rattle.report_check.proofs.Onces.{placed_seen, played_seen}
use Rattle.report_check.proofs.once.same_trans.Given as goal

abbrev pub invariant-loop-i : goal.invariant-loop-i
invariant-loop-i l = map played_seen (take l.i l.entries) ≡ map placed_seen (take l.i l.trans)
