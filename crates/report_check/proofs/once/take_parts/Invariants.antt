use Rattle.std.proofs.Common.{◌≡◌, ◌++◌, take, map}
use Rattle.std.specs.List.{flat_map}
use Rattle.ds_model.specs.Transactions.{placed_part}
use Rattle.report_check.proofs.Onces.{placed_seen}
use Rattle.report_check.proofs.once.take_parts.Given as goal

abbrev pub invariant-loop-part : goal.invariant-loop-part
invariant-loop-part l = map placed_seen l.out.items ≡ map placed_seen l.fn.out.items ++ flat_map placed_part (take l.part-index l.parts)
