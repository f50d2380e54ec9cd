use Rattle.page_versions.proofs.Fronts.{may_stand}
use Rattle.page_versions.proofs.front.version_laws.Goals as goal

pub returns : goal.returns
returns c = λ logs id page. may_stand logs id page
