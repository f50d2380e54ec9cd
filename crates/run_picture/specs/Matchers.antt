-- What a matcher holds.
use Rattle.std.specs.Prelude.{map}
use Rattle.run_picture.specs.declared.matching.Matcher.{Matcher}
use Rattle.run_picture.specs.Matches.{Matching}

unfoldable pub matching_of : Matcher → Matching
matching_of m = record { left = map (λ q. q.items) m.queues.items; numbers = m.numbers.items }
