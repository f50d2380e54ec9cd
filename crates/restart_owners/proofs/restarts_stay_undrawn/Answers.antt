use Rattle.restart_owners.proofs.restarts_stay_undrawn.Goals as goal
use Rattle.restart_owners.proofs.Undrawn.{undrawn_begins, undrawn_casts, undrawn_goes, undrawn_stays, undrawn_tells}

pub returns : goal.returns
returns c =
    let named = c.pages_have_numbers.ensures.named in
    let spare = c.commands_retain.ensures.spare in
    record {
      begin = undrawn_begins;
      event = undrawn_goes named spare c.sends_lawfully.ensures;
      other = undrawn_stays;
      casts = undrawn_casts;
      quiet = undrawn_tells named spare c.sends_lawfully.ensures;
    }
