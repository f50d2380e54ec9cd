-- What a thread of a phase holds, and what the threads share, may cross threads.
use denote.RattleType.{RattleType}
use denote.Param.Send.{IsSend, sendable}
use Rattle.std.proofs.Crossing.{crosses}
use Rattle.group_crossing.proofs.Crossing.{group, part_field}
use Rattle.group_threads.specs.contracts.hand.Hand as Hand
use Rattle.group_threads.specs.contracts.shared.Shared as Shared

pub hand : (P : RattleType) → IsSend P → IsSend (Hand.the_row P)
hand P p = search (part_field, sendable, crosses) depth 400 fits 200000

pub shared : (D C P : RattleType) → IsSend D → IsSend C → IsSend P → IsSend (Shared.the_row D C P)
shared D C P d c p = search (group, sendable, crosses) depth 400 fits 200000
