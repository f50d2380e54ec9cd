use Rattle.page_world.proofs.copies_are_newest.Goals as goal
use Rattle.page_world.proofs.Newest.{valid_newest, clean_on_disk}

pub returns : goal.returns
returns c = record { valid = valid_newest; clean = clean_on_disk }
