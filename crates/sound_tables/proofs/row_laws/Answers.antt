use Rattle.sound_tables.proofs.Last_rows.{merged_follows, last_stands}
use Rattle.sound_tables.proofs.row_laws.Goals as goal

pub returns-clause-follow : goal.returns-clause-follow
returns-clause-follow c = λ bytes logs w t. merged_follows c.page_laws.ensures.merged bytes logs w t

pub returns-clause-stands : goal.returns-clause-stands
returns-clause-stands c = λ bytes front log back tran change s some l. last_stands c.page_laws.ensures.merged bytes front log back tran change s some l
