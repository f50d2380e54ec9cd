use Rattle.std.proofs.Common.{◌≡◌, take}
use Rattle.std.specs.List.{fold}
use Rattle.run_spans.specs.Readings.{known_of}
use Rattle.run_spans.specs.Runs.{start, step}
use Rattle.run_spans.proofs.reader.read_all.Given as goal

abbrev pub invariant-loop-event : goal.invariant-loop-event
invariant-loop-event l = known_of l.reading ≡ fold step start (take l.event-index l.events)
