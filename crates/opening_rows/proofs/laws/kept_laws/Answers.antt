use Rattle.opening_rows.proofs.Enough.{enough}
use Rattle.opening_rows.proofs.laws.kept_laws.Goals as goal

pub returns : goal.returns
returns c = record { enough = enough }
