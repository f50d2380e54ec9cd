use Rattle.std.proofs.Common.{◌≡◌, drop}
use Rattle.page_versions.specs.Own.{places_at}
use Rattle.copy_recover.proofs.names.places_at.Given as goal

abbrev pub invariant-loop-own : goal.invariant-loop-own
invariant-loop-own l = places_at l.id (drop l.own-index l.pages) ≡ places_at l.id l.pages
