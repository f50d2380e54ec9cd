use Rattle.rested_logs.proofs.rests_count.Goals as goal
use Rattle.rested_logs.proofs.Below.{Facts, Runs, rests_below, runs_end}

pub returns : goal.returns
returns c =
    let facts : Facts = record { sound = c.log_laws.ensures.sound; spell = c.appends_tell.ensures.spell; allowed = c.rests_tell.ensures.allowed } in
    let laws : Runs = record { begin = c.disk_laws.ensures.begin; begins = c.soundness_laws.ensures.begins; run = c.soundness_laws.ensures.run } in
    record { below = rests_below facts; ends = runs_end laws }
