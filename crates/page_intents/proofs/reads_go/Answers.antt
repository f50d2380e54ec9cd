use Rattle.page_intents.proofs.reads_go.Goals as goal
use Rattle.page_intents.proofs.Reading.{read_goes, fill_goes}

pub returns : goal.returns
returns c =
    let numbers = c.pages_have_numbers.ensures in
    record {
      read = read_goes numbers c.reads_are_moves.ensures.found c.reads_are_moves.ensures.empty c.refusals_stay.ensures.read;
      fill = fill_goes numbers c.frames_are_moves.ensures.fills;
    }
