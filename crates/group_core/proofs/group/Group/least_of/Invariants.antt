use Rattle.std.proofs.Common.{◌≡◌, ℕ, ◌/◌, ◌<◌, ◌≤◌, false}
use Rattle.group_core.specs.Events.{takes}
use Rattle.group_core.proofs.group.Group.least_of.Given as goal

abbrev pub invariant-loop-event : goal.invariant-loop-event
invariant-loop-event g l = (e : ℕ) → l.least ≤ e → e / 64 ≡ l.choice → e < l.event → takes l.self e ≡ false
