use Rattle.std.proofs.Common.{◌≡◌, ◌-◌}
use Rattle.member_marks.specs.Frames.{first_changed}
use Rattle.member_marks.proofs.frames.first_changed.Given as goal

abbrev pub invariant-loop-set : goal.invariant-loop-set
invariant-loop-set l = first_changed l.heads l.trans l.owner l.set (129 - l.set) ≡ first_changed l.heads l.trans l.owner 1 128
