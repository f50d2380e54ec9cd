use Rattle.sound_disk.proofs.Logs.{are_read, are_told, append_keeps, torn_keeps}
use Rattle.sound_disk.proofs.log_laws.Goals as goal

pub returns-clause-read : goal.returns-clause-read
returns-clause-read c = λ member bytes log h. are_read c.log_laws.ensures.sound member bytes log h

pub returns-clause-told : goal.returns-clause-told
returns-clause-told c = λ member bytes a b h k. are_told c.log_laws.ensures.sound member bytes a b h k

pub returns-clause-append : goal.returns-clause-append
returns-clause-append c = λ member bytes log r h none allowed low. append_keeps member bytes log r h none allowed low

pub returns-clause-torn : goal.returns-clause-torn
returns-clause-torn c = λ member bytes log r n h none allowed few. torn_keeps member bytes log r n h none allowed few
