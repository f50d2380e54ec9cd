use Rattle.group_pages.proofs.pages_are_sound.Goals as goal
use Rattle.group_pages.proofs.Newest.{sound}

pub returns : goal.returns
returns c = sound (record {
  valid = c.copies_are_newest.ensures.valid;
  clean = c.copies_are_newest.ensures.clean;
  numbers = c.pages_have_numbers.ensures;
})
