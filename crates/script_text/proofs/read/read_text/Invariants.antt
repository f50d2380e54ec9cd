use Rattle.std.proofs.Common.{◌≡◌, ◌+◌, ◌≤◌, length}
use Rattle.script_text.specs.Indexes.{IsIndexed}
use Rattle.script_text.specs.Reading.{read_lines, script_of}
use Rattle.script_text.specs.TextLines.{lines_behind, pieces}
use Rattle.script_text.proofs.read.read_text.Given as goal

abbrev pub invariant-loop-rest : goal.invariant-loop-rest
invariant-loop-rest l = record {
  same : read_lines l.members l.number l.reader.draft (lines_behind l.end (pieces l.rest)) ≡ script_of l.members l.bytes;
  indexed : IsIndexed l.reader;
  within : l.end ≤ 4194304;
  numbered : l.number ≤ l.end + 1;
  groupfails : l.reader.draft.groupfails ≤ l.end;
  counted : l.reader.draft.count ≤ l.end;
  whole : l.end + length l.rest ≡ length l.bytes;
}

abbrev pub decreases-loop-rest : goal.decreases-loop-rest
decreases-loop-rest l = length l.rest
