use Rattle.disk_versions.proofs.Versions.{is_told, none_unplaced}
use Rattle.disk_versions.proofs.laws.placing_laws.Goals as goal

pub returns-clause-told : goal.returns-clause-told
returns-clause-told c = is_told (record { header = c.header_laws.ensures.empty; bytes = c.header_laws.ensures.zeros.2; stand = c.version_laws.ensures })

pub returns-clause-none : goal.returns-clause-none
returns-clause-none c = none_unplaced
