-- What a member holds may go to another thread.
use denote.Param.Send.{IsSend, sendable}
use Rattle.std.proofs.Crossing.{crosses}
use Rattle.std.proofs.MapsCrossing.{crosses as maps}
use Rattle.member_marks.specs.contracts.marks.Marks as Marks
use Rattle.member_pool.proofs.heads.Heads.TheSendSync as heads
use Rattle.member_log.proofs.buffer.MemberLog.TheSendSync as log
use Rattle.member_marks.proofs.kept.KeptNames.TheSendSync as kept
use Rattle.group_crossing.proofs.Claimed.{manager_send}

pub marks_send : IsSend Marks.the_row
marks_send = search (manager_send, heads.the_send, log.the_send, kept.the_send, sendable, crosses, maps) depth 400 fits 200000
