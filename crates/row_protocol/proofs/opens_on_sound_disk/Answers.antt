use Rattle.row_protocol.proofs.Opening.{opens, always_from_opening}
use Rattle.row_protocol.proofs.opens_on_sound_disk.Goals as goal

pub returns : goal.returns
returns c = record { opens = opens; always = always_from_opening }
