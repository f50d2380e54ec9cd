use Rattle.std.proofs.Common.{◌≤◌, ◌<◌, length, arith}
use Rattle.run_picture.proofs.Rooms.{ends_given, no_row}
use Rattle.run_picture.proofs.rows.Rows.take_room.Goals as goal

pub returns-else-lane-len-clause-row : goal.returns-else-lane-len-clause-row
returns-else-lane-len-clause-row c =
    let high : length c.args.self.now.ends.items ≤ c.from-lane.result = omega (arith, c.len.ensures, c.args.self.now.ends.ok) in
    no_row c.args.self.now.ends.items c.from-lane.result c.args.member c.args.from c.from-lane.ensures high

pub returns-in_ok-row-clause-ends : goal.returns-in_ok-row-clause-ends
returns-in_ok-row-clause-ends c =
    let low : c.from-lane.result < length c.args.self.now.ends.items = omega (arith, c.if-lane-len.true, c.len.ensures, c.args.self.now.ends.ok) in
    ends_given c.args.self.now.ends.items c.from-lane.result c.args.member c.args.from c.args.to c.index_mut.result.now c.take_row.new.ends c.from-lane.ensures low c.index_mut.ensures.value c.in_ok-row.ensures.ends
