use Rattle.std.proofs.Common.{◌≡◌, take, vec_len}
use Rattle.std.specs.List.{fold}
use Rattle.run_picture.specs.Matchers.{matching_of}
use Rattle.run_picture.specs.Matches.{unmatched, with_entry}
use Rattle.run_picture.proofs.matching.match_all.Given as goal

abbrev pub invariant-loop-entry : goal.invariant-loop-entry
invariant-loop-entry l = record {
  exact : matching_of l.matcher ≡ fold (with_entry l.read.spans.items l.causes) (unmatched l.read.spans.items l.read.commits.items) (take l.entry-index l.entries);
  count : vec_len l.matcher.numbers ≡ l.entry-index;
}
