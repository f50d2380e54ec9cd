use Rattle.std.proofs.Common.{◌≡◌, drop}
use Rattle.page_records.specs.Places.{with_places}
use Rattle.page_records.proofs.places.add_places.Given as goal

abbrev pub invariant-loop-id : goal.invariant-loop-id
invariant-loop-id l = with_places l.place l.places (drop l.id-index l.pages) ≡ with_places l.place l.fn.places l.pages
