use Rattle.page_owners.proofs.resting_members_cast.Goals as goal
use Rattle.page_owners.proofs.Casting.{Facts, casts_go}
use Rattle.page_owners.proofs.Keeping.{down_casts_none, rests_keep_cast}

pub returns : goal.returns
returns c =
    let kept = c.keeps_entries_apart.ensures in
    let casts = c.castouts_go.ensures in
    let facts : Facts = record {
      good = c.coherent_pages.ensures.run;
      read_sound = kept.castout_read;
      done_sound = kept.castout_done;
      any_read = casts.any_read;
      any_write = casts.any_write;
      any_done = casts.any_done;
      show = c.writes_show.ensures;
      lawful = c.sends_lawfully.ensures;
    } in
    record { down = down_casts_none; keep = rests_keep_cast c.sends_lawfully.ensures; cast = casts_go facts }
