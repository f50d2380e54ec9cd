use Rattle.std.proofs.Common.{◌≡◌, take}
use Rattle.std.specs.List.{fold}
use Rattle.run_picture.specs.Matches.{caused}
use Rattle.run_picture.specs.Names.{no_number, number_of}
use Rattle.run_picture.proofs.matching.cause_places.Given as goal

abbrev pub invariant-loop-cause : goal.invariant-loop-cause
invariant-loop-cause l = number_of l.names ≡ fold caused no_number (take l.cause-index l.causes)
