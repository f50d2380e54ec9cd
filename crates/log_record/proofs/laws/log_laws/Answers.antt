use Rattle.log_record.proofs.Meanings.{sound_log, parts_are, damaged_is, damage_is}
use Rattle.log_record.proofs.laws.log_laws.Goals as goal

pub returns-clause-sound : goal.returns-clause-sound
returns-clause-sound c = λ bytes records h. sound_log c.reading_laws.ensures.again c.reading_laws.ensures.cut bytes records h

pub returns-clause-whole : goal.returns-clause-whole
returns-clause-whole c = λ bytes p h. parts_are c.reading_laws.ensures.again bytes p h

pub returns-clause-damaged : goal.returns-clause-damaged
returns-clause-damaged c = λ bytes at h. damaged_is c.reading_laws.ensures.again bytes at h

pub returns-clause-damage : goal.returns-clause-damage
returns-clause-damage c = λ bytes at fits e. damage_is c.reading_laws.ensures.found bytes at fits e
