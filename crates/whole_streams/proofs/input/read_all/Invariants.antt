use Rattle.std.proofs.Common.{◌≤◌, length}
use Rattle.std.specs.Io.KnownBytes.{Consumes}
use Rattle.whole_streams.proofs.input.read_all.Given as goal

abbrev pub invariant-loop : goal.invariant-loop
invariant-loop g l = Consumes (g.S.Source.left l.fn.source) (g.S.Source.left l.source) l.out.items × (l.counter ≤ length l.out.items) × (length l.out.items ≤ l.fn.limit) × (g.S.Source.faults l.fn.source ≤ g.S.Source.faults l.source)
