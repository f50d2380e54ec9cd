use Rattle.std.proofs.Common.{◌≡◌, drop}
use Rattle.disk_spots.specs.Spots.{place_from}
use Rattle.disk_spots.proofs.search.place_in.Given as goal

abbrev pub invariant-loop-record : goal.invariant-loop-record
invariant-loop-record l = place_from l.number l.at (drop l.record-index l.records) ≡ place_from l.number 0 l.records
