use Rattle.page_intents.proofs.locals_stay.Goals as goal
use Rattle.page_intents.proofs.Placing.{place_goes, pin_goes, unpin_goes, stale_goes}

pub returns : goal.returns
returns c =
    let numbers = c.pages_have_numbers.ensures in
    record { place = place_goes numbers c.frames_are_moves.ensures.places; pin = pin_goes; unpin = unpin_goes; stale = stale_goes numbers }
