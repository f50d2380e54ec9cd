use Rattle.std.proofs.Common.{◌≡◌, map}
use Rattle.page_records.specs.Places.{page_records}
use Rattle.page_records.proofs.places.listed.Given as goal

abbrev pub invariant-loop-page : goal.invariant-loop-page
invariant-loop-page l = l.pages ≡ map page_records l.yielded
