use Rattle.index_protocol.proofs.guards_are_needed.Goals as goal
use Rattle.index_protocol.proofs.Needed.{both_sides, child_first, failure_possible, goes_on, left_before, one_writer, reached, right_first, written_before}

pub returns : goal.returns
returns c = record { run = goes_on; failure = failure_possible; right_first = right_first; child_first = child_first; left_before = left_before; reached = reached; written = written_before; both_sides = both_sides; one_writer = one_writer }
