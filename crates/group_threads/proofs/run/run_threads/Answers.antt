use denote.Param.Send.{sendable}
use Rattle.group_threads.proofs.Crossing.{hand, shared}
use Rattle.group_threads.proofs.Staged.{errand_send}
use Rattle.group_threads.proofs.run.run_threads.Goals as goal

pub with_threads-requires-send-T : goal.with_threads-requires-send-T
with_threads-requires-send-T g c κs within =
    let d = c.type_bounds.send-D in
    let e = c.type_bounds.send-C in
    let p = c.type_bounds.send-P in
    let h = c.type_bounds.sync-G in
    search (errand_send, shared, hand, sendable) depth 400 fits 200000
