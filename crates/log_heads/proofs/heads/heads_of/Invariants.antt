use Rattle.std.proofs.Common.{◌≡◌, ◌++◌, drop}
use Rattle.log_heads.specs.Heads.{AreStarts, heads_of}
use Rattle.log_heads.proofs.heads.heads_of.Given as goal

-- the heads so far, and those of what is left, are those of all
abbrev pub invariant-loop-i : goal.invariant-loop-i
invariant-loop-i l = (l.heads.items ++ heads_of (drop l.i l.starts) (drop l.i l.lengths) ≡ heads_of l.starts l.lengths) × AreStarts (drop l.i l.starts) (drop l.i l.lengths)
