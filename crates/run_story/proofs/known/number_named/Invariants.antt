use Rattle.std.proofs.Common.{◌≡◌, false, drop, take}
use Rattle.std.specs.List.{position_from}
use Rattle.run_story.specs.Names.{has_name, is_named, number_named}
use Rattle.run_story.proofs.known.number_named.Given as goal

abbrev pub invariant-loop-entry : goal.invariant-loop-entry
invariant-loop-entry l = record {
  number : l.number ≡ l.entry-index;
  missing : has_name l.name (take l.entry-index l.entries) ≡ false;
  exact : position_from (is_named l.name) l.number (drop l.entry-index l.entries) ≡ number_named l.name l.entries;
}
