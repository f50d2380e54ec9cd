use Rattle.log_tells.specs.Leads.{GroupRestartLeads}
use Rattle.log_tells.proofs.group_restarts_follow.Goals as goal
use Rattle.log_tells.proofs.Leading.{group_brings, group_restarts, numbers_stand, tops_fit}
use Rattle.log_tells.proofs.Merging.{merged_are}

pub returns : goal.returns
returns c =
    let lead : GroupRestartLeads = group_restarts c.chain_laws.ensures.others c.versions_show.ensures.redo merged_are in
    record { leads = lead; brought = group_brings c.forward_laws.ensures.redo merged_are lead; numbers = numbers_stand; tops = tops_fit }
