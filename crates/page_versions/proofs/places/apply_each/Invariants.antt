use Rattle.std.proofs.Common.{◌≡◌, drop}
use Rattle.page_versions.specs.Own.{version_at}
use Rattle.page_versions.proofs.places.apply_each.Given as goal

abbrev pub invariant-loop-place : goal.invariant-loop-place
invariant-loop-place l = version_at l.id l.records l.page (drop l.place-index l.places) ≡ version_at l.id l.records l.fn.page l.places
