use Rattle.std.proofs.Common.{◌≡◌, drop}
use Rattle.member_marks.specs.Records.{sets_noted}
use Rattle.member_marks.proofs.records.note_sets.Given as goal

abbrev pub invariant-loop-patch : goal.invariant-loop-patch
invariant-loop-patch l = sets_noted l.trans l.slot (drop l.patch-index l.patches) ≡ sets_noted l.fn.trans l.slot l.patches
