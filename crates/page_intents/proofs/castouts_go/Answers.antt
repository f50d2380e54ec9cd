use Rattle.page_intents.proofs.castouts_go.Goals as goal
use Rattle.page_intents.proofs.Casting.{any_done_goes, any_read_goes, any_write_goes, cast_read_goes, cast_write_goes, cast_done_goes}

pub returns : goal.returns
returns c =
    let numbers = c.pages_have_numbers.ensures in
    let moves = c.castouts_are_moves.ensures in
    record {
      read = cast_read_goes numbers moves.begins;
      write = cast_write_goes numbers moves.casts;
      done = cast_done_goes numbers moves.ends;
      any_read = any_read_goes numbers moves.begins;
      any_write = any_write_goes numbers moves.casts;
      any_done = any_done_goes numbers moves.ends;
    }
