use Rattle.page_numbers.proofs.numbers_are_recorded.Goals as goal
use Rattle.page_numbers.proofs.Recorded.{numbers_recorded}

pub returns : goal.returns
returns c = numbers_recorded (record {
  lawful = c.sends_lawfully.ensures;
  numbers = c.pages_have_numbers.ensures;
  row = c.rows_show.ensures.row;
  back = c.rows_show.ensures.back;
  patches = c.patches_show.ensures;
})
