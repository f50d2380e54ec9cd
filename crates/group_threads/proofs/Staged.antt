-- What the threads of a phase share, and their workers, may cross threads.
use denote.RattleType.{RattleType}
use denote.Ref.{NamedLft}
use denote.Param.Send.{IsSend, IsSync, sendable, recorded_send, struct_send, shr_send}
use denote.Struct.Declared.{shape}
use Rattle.std.proofs.alloc.Global.TheSendSync as heap
use Rattle.std.proofs.Crossing.{crosses, Arc-send}
use Rattle.atomic_table.proofs.shared.Seat.TheSendSync.{the_send as place_send}
use Rattle.atomic_table.proofs.shared.Shared.TheSendSync.{the_send as table_send, the_sync as table_sync}
use Rattle.atomic_table.proofs.send_lease.SendLease.TheSendSync.{the_send as lease_send, the_sync as lease_sync}
use Rattle.past_items.proofs.past.Past.TheSendSync.{the_send as history_send}
use Rattle.turn_story.specs.declared.stepping.Stepping.{Ghosts}
use Rattle.group_threads.specs.contracts.errand.Errand as Errand
use Rattle.group_threads.specs.contracts.errand.Stage as Stage
use Rattle.group_threads.specs.contracts.worker.Worker as Worker

pub stage_send : (M P : RattleType) (told : Ghosts M.Denot P.Denot) → IsSend M → IsSend P → IsSend (Stage.the_row M P told)
unfolding types.Keyed.entry denote.Memory.part_of
stage_send M P told m p = search (sendable, crosses, table_send, lease_send, history_send) depth 400 fits 200000

pub stage_sync : (M P : RattleType) (told : Ghosts M.Denot P.Denot) → IsSend M → IsSend P → IsSync (Stage.the_row M P told)
unfolding types.Keyed.entry denote.Memory.part_of
stage_sync M P told m p = search (sendable, crosses, table_sync, lease_sync, history_send) depth 400 fits 200000

pub worker_send : (M P : RattleType) (told : Ghosts M.Denot P.Denot) → IsSend M → IsSend P → IsSend (Worker.the_field M P told).row
unfolding types.Keyed.entry denote.Memory.part_of
worker_send M P told m p = search (sendable, crosses, place_send, history_send) depth 400 fits 200000

pub errand_send : (κ : NamedLft) (M G P : RattleType) (told : Ghosts M.Denot P.Denot) → IsSend M → IsSend P → IsSync G → IsSend (Errand.the_row κ M G P told)
unfolding types.Keyed.entry denote.Memory.part_of
errand_send κ M G P told m p g =
    recorded_send (Errand.the_field κ M G P told).row _ _ (Errand.the_type κ M G P told).to_one
    (struct_send (shape (Errand.the_type κ M G P told))
    (worker_send M P told m p, (Arc-send (Stage.the_row M P told) (stage_send M P told m p) (stage_sync M P told m p), (shr_send _ _ _ g, (heap.the_field_send, (search sendable, tt))))))
