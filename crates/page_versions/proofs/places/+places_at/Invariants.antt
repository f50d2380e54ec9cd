use Rattle.std.proofs.Common.{length}
use Rattle.page_versions.proofs.places.+places_at.Given as goal

abbrev pub decreases-places_at : goal.decreases-places_at
decreases-places_at l = length l.pages.now
