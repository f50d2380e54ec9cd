use Rattle.std.proofs.Common.{◌≡◌, map, take}
use Rattle.run_replay.specs.Seen.{marks_of}
use Rattle.run_replay.proofs.held.marks_of.Given as goal

abbrev pub invariant-loop-part : goal.invariant-loop-part
invariant-loop-part g l = map (λ m. m.now) l.all.items ≡ marks_of (take l.part-index l.parts)
