use Rattle.std.proofs.Common.{◌≡◌, ℕ, ◌/◌, ◌<◌, ◌≤◌, false}
use Rattle.group_core.specs.Events.{takes}
use Rattle.group_core.proofs.group.Group.ready.Given as goal

abbrev pub invariant-loop-choice : goal.invariant-loop-choice
invariant-loop-choice g l = (e : ℕ) → l.least ≤ e → e / 64 < l.choice → takes l.self e ≡ false
