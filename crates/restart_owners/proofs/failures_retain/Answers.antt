use Rattle.restart_owners.proofs.failures_retain.Goals as goal
use Rattle.restart_owners.proofs.Owners.{others_own, owners_fail, restarts_begin}

pub returns : goal.returns
returns c = record { failure = owners_fail c.names_have_numbers.ensures c.claims_give.ensures.gives c.commands_retain.ensures.failure; begin = restarts_begin; other = others_own }
