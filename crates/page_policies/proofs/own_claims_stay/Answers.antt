use Rattle.page_policies.proofs.own_claims_stay.Goals as goal
use Rattle.page_policies.proofs.Staying.{own_stay}

pub returns : goal.returns
returns c = own_stay
