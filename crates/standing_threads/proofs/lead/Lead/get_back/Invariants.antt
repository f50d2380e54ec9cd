use Rattle.standing_threads.specs.Ends.{IsAway}
use Rattle.standing_threads.proofs.lead.Lead.get_back.Given as goal

abbrev pub invariant-loop : goal.invariant-loop
invariant-loop g l = ((x : g.row.T.Denot) × IsAway l.self x) × ((x : g.row.T.Denot) → IsAway l.fn.self x → IsAway l.self x)
