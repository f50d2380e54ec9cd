use Rattle.std.proofs.Common.{◌≡◌, drop}
use Rattle.std.specs.FinMap as finite
use Rattle.page_records.specs.Places.{places_from}
use Rattle.page_records.proofs.places.places_of.Given as goal

abbrev pub invariant-loop-place : goal.invariant-loop-place
invariant-loop-place l = places_from l.place l.places (drop l.place l.records) ≡ places_from 0 finite.empty l.records
