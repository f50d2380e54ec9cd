use Rattle.sound_disk.proofs.Unsound.{falling_is_not, twice_is_not, stray_is_not, lost_row_is_not, two_writers_are_not, last_number_is_not, lost_start_is_not}
use Rattle.sound_disk.proofs.unsound_examples.Goals as goal

pub returns-clause-falling : goal.returns-clause-falling
returns-clause-falling c = λ s. falling_is_not c.log_laws.ensures.sound s

pub returns-clause-twice : goal.returns-clause-twice
returns-clause-twice c = λ s. twice_is_not c.log_laws.ensures.sound s

pub returns-clause-stray : goal.returns-clause-stray
returns-clause-stray c = λ s. stray_is_not c.log_laws.ensures.sound s

pub returns-clause-lost_row : goal.returns-clause-lost_row
returns-clause-lost_row c = λ s. lost_row_is_not c.log_laws.ensures.sound
    (record { all = c.header_laws.ensures.zeros.0; bytes = c.header_laws.ensures.zeros.2; numbers = c.header_laws.ensures.zeros.3; header = c.header_laws.ensures.empty }) s

pub returns-clause-two_writers : goal.returns-clause-two_writers
returns-clause-two_writers c = λ s. two_writers_are_not c.log_laws.ensures.sound s

pub returns-clause-last_number : goal.returns-clause-last_number
returns-clause-last_number c = λ s. last_number_is_not c.log_laws.ensures.sound s

pub returns-clause-lost_start : goal.returns-clause-lost_start
returns-clause-lost_start c = λ s. lost_start_is_not c.log_laws.ensures.sound s
