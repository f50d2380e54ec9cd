use Rattle.std.proofs.Common.{◌≡◌, drop}
use Rattle.page_versions.specs.Own.{is_later_at}
use Rattle.page_versions.proofs.front.is_later.Given as goal

abbrev pub invariant-loop-place : goal.invariant-loop-place
invariant-loop-place l = is_later_at l.id l.records l.page l.image (drop l.place-index l.places) ≡ is_later_at l.id l.records l.page l.fn.image l.places
