-- The latest event of a kind by others than a member and a choice, for each of these.
use Rattle.std.specs.Prelude.{ℕ, Bool, ◌==◌, ◌&&◌, if◌then◌else◌}
use Rattle.run_spans.specs.declared.latest.At.{At}
use Rattle.run_spans.specs.declared.latest.Latest.{Latest}

abbrev pub none : At
none = record { place = 0; member = 0; choice = 0 }

abbrev pub is_by : At → ℕ → ℕ → Bool
is_by at member choice = (at.member == member) && (at.choice == choice)

-- before there was one
unfoldable pub never : ℕ → ℕ → At
never member choice = none

-- behind one more: it is the latest for all but its own
unfoldable pub with_event : At → (ℕ → ℕ → At) → ℕ → ℕ → At
with_event at others member choice = if is_by at member choice then others member choice else at

-- what is kept of them
unfoldable pub by_others : Latest → ℕ → ℕ → At
by_others kept member choice = if is_by kept.last member choice then kept.other else kept.last
