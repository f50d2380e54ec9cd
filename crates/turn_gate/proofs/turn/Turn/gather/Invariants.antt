use Rattle.std.proofs.Common.{◌≡◌, List, [], ◌++◌, map, length}
use Rattle.turn_gate.specs.Ruled.{sits}
use Rattle.turn_gate.specs.Seated.{Sat, AreOf, knowledge_of}
use Rattle.turn_gate.proofs.turn.Turn.gather.Given as goal

abbrev pub invariant-loop-seat : goal.invariant-loop-seat
invariant-loop-seat g l =
    (gone : List (Sat g.row.M-Start.Denot g.row.M-Entry.Denot)) × (l.fn.seats.items ≡ l.seats.items ++ gone) × (l.place.me ≡ (sits (map knowledge_of gone), [])) × (l.place.table_id ≡ l.fn.table.table_id) × AreOf l.fn.table.table_id l.seats.items

abbrev pub decreases-loop-seat : goal.decreases-loop-seat
decreases-loop-seat g l = length l.seats.items
