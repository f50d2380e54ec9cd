use Rattle.std.proofs.Common.{◌≡◌, take}
use Rattle.std.specs.List.{fold}
use Rattle.run_picture.specs.Matches.{caused}
use Rattle.run_picture.specs.Names.{no_number}
use Rattle.run_picture.proofs.matching.place_of_cause.Given as goal

abbrev pub invariant-loop-cause : goal.invariant-loop-cause
invariant-loop-cause l = l.place ≡ fold caused no_number (take l.cause-index l.causes) l.name
