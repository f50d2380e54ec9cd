use Rattle.sound_disk.proofs.Examples_sound.{empty_is_sound, closed_is_sound}
use Rattle.sound_disk.proofs.sound_examples.Goals as goal

pub returns-clause-empty : goal.returns-clause-empty
returns-clause-empty c = empty_is_sound (record { all = c.header_laws.ensures.zeros.0; bytes = c.header_laws.ensures.zeros.2; numbers = c.header_laws.ensures.zeros.3; header = c.header_laws.ensures.empty })

pub returns-clause-closed : goal.returns-clause-closed
returns-clause-closed c = closed_is_sound (record { all = c.header_laws.ensures.zeros.0; bytes = c.header_laws.ensures.zeros.2; numbers = c.header_laws.ensures.zeros.3; header = c.header_laws.ensures.empty })
