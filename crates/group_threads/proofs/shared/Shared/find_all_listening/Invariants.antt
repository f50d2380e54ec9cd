use Rattle.std.proofs.Common.{◌≡◌}
use Rattle.group_threads.proofs.shared.Shared.find_all_listening.Given as goal

abbrev pub invariant-loop-hand : goal.invariant-loop-hand
invariant-loop-hand g l = l.self ≡ record l.fn.self { listening = l.self.listening }
