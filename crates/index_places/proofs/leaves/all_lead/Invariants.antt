use Rattle.std.proofs.Common.{◌≡◌, drop}
use Rattle.std.specs.List.{list_all}
use Rattle.index_places.specs.Placing.{leads}
use Rattle.index_places.proofs.leaves.all_lead.Given as goal

abbrev pub invariant-loop-entry : goal.invariant-loop-entry
invariant-loop-entry l = list_all (leads l.places l.table) (drop l.entry-index l.entries) ≡ list_all (leads l.places l.table) l.entries
