use Rattle.work_maker.proofs.Scripts.{is_script}
use Rattle.work_maker.proofs.laws.making_laws.Goals as goal

pub returns : goal.returns
returns c = is_script
