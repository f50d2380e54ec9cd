use Rattle.index_protocol.proofs.opens_on_sound_disk.Goals as goal
use Rattle.index_protocol.proofs.Opening.{opens, always_from, leaves_sound}

pub returns : goal.returns
returns c = record { opens = opens; always = always_from; leaves = leaves_sound }
