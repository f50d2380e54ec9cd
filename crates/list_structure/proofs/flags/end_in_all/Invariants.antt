use Rattle.std.proofs.Common.{◌≡◌, ◌++◌, map, take, drop}
use Rattle.list_structure.specs.Flags.{raised_by}
use Rattle.list_structure.proofs.flags.end_in_all.Given as goal

abbrev pub invariant-loop-flag : goal.invariant-loop-flag
invariant-loop-flag l = l.flags ≡ map (raised_by l.tran) (take l.flag-index l.fn.flags) ++ drop l.flag-index l.fn.flags
