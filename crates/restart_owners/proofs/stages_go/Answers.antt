use Rattle.restart_owners.proofs.stages_go.Goals as goal
use Rattle.restart_owners.proofs.Going.{Known}
use Rattle.restart_owners.proofs.Stages.{Facts, stage_begins, stage_casts, stage_ends, stage_stays, stages_go}

pub returns : goal.returns
returns c =
    let known : Known = record {
      pages = c.pages_have_numbers.ensures;
      lawful = c.sends_lawfully.ensures;
      spare = c.commands_retain.ensures.spare;
      retain = c.restarts_list.ensures.retain;
      run = c.keeps_sound.ensures.run;
      others = c.moves_leave_others.ensures.others;
      locks = c.restarts_go.ensures;
    } in
    let read = c.readings_go.ensures in
    let facts : Facts = record { known = known; reading = read.event; still = read.owns; read = c.events_go.ensures } in
    record { begin = stage_begins read.begin c.failures_retain.ensures.begin; event = stages_go facts; still = stage_stays c.coherent_pages.ensures.run c.owners_go.ensures.stay; casts = stage_casts c.own_still_restarts.ensures; over = stage_ends c.ends_go.ensures.over }
