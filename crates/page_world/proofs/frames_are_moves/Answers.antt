use Rattle.page_world.proofs.frames_are_moves.Goals as goal
use Rattle.page_world.proofs.Placing.{places, fills, redoes, leaves, puts_aside, unregisters}

pub returns : goal.returns
returns c = record { places = places; fills = fills; redoes = redoes; leaves = leaves; aside = puts_aside; unregisters = unregisters }
