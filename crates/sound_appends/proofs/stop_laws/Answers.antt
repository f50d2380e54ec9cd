use Rattle.sound_appends.proofs.Stops.{append_stops}
use Rattle.sound_appends.proofs.stop_laws.Goals as goal

pub returns : goal.returns
returns c =
    append_stops c.whole_laws.ensures.append c.whole_laws.ensures.torn c.transaction_laws.ensures.transactions c.turn_laws.ensures.turns c.transaction_laws.ensures.numbers c.append_laws.ensures.same
