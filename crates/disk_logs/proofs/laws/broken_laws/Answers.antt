use Rattle.disk_logs.proofs.Breaking.{broken_apart}
use Rattle.disk_logs.proofs.laws.broken_laws.Goals as goal

pub returns : goal.returns
returns c = broken_apart c.reading_laws.ensures.again c.reading_laws.ensures.cut
