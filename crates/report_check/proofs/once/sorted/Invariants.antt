use Rattle.std.proofs.Common.{◌≡◌, take, map}
use Rattle.report_check.proofs.Onces.{entry_seen, numbered_entry}
use Rattle.report_check.proofs.once.sorted.Given as goal

abbrev pub invariant-loop-entry : goal.invariant-loop-entry
invariant-loop-entry l = map entry_seen l.items.items ≡ map numbered_entry (take l.entry-index l.entries)
