use Rattle.page_protocol.proofs.logs_have_prefixes.Goals as goal
use Rattle.page_protocol.proofs.Possible.{failure, rebuild, group_failure}

pub returns : goal.returns
returns c = record { failure = failure; rebuild = rebuild; group_failure = group_failure }
