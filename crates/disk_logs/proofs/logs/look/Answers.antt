use Rattle.disk_logs.proofs.Members.{looked_some}
use Rattle.disk_logs.proofs.logs.look.Goals as goal

pub returns-clause-some : goal.returns-clause-some
returns-clause-some g c = looked_some c.args.member _ c.in_ok-looked.looked c.in_ok-looked.ensures
