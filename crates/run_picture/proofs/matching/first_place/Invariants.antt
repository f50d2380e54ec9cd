use Rattle.std.proofs.Common.{◌≡◌, drop}
use Rattle.std.specs.List.{position_from}
use Rattle.run_picture.specs.Matches.{first_place, may_be}
use Rattle.run_picture.proofs.matching.first_place.Given as goal

abbrev pub invariant-loop-place : goal.invariant-loop-place
invariant-loop-place l = position_from (may_be l.spans l.told l.cause) l.place (drop l.place l.queue.items) ≡ first_place l.spans l.told l.cause l.queue.items
