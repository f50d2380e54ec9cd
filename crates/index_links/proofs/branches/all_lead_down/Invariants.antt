use Rattle.std.proofs.Common.{◌≡◌, drop}
use Rattle.std.specs.List.{list_all}
use Rattle.index_links.specs.Links.{leads_down}
use Rattle.index_links.proofs.branches.all_lead_down.Given as goal

abbrev pub invariant-loop-entry : goal.invariant-loop-entry
invariant-loop-entry l = list_all (leads_down l.nodes) (drop l.entry-index l.entries) ≡ list_all (leads_down l.nodes) l.entries
