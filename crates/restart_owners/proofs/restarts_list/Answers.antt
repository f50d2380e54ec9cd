use Rattle.restart_owners.proofs.restarts_list.Goals as goal
use Rattle.restart_owners.proofs.Going.{listing_goes, restarts_retain}
use Rattle.restart_owners.proofs.Listing.{listing_begins, listing_stays}

pub returns : goal.returns
returns c = record {
  retain = restarts_retain c.commands_retain.ensures.command;
  begin = listing_begins;
  event = listing_goes c.pages_have_numbers.ensures.named c.commands_retain.ensures.spare c.sends_lawfully.ensures;
  other = listing_stays;
}
