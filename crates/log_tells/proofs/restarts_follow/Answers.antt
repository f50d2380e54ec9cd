use Rattle.std.specs.Prelude.{◌≡◌}
use Rattle.page_format.specs.Fields.{lrsn_of, width_in}
use Rattle.page_images.specs.Images.{zeros}
use Rattle.log_tells.specs.Leads.{RestartLeads}
use Rattle.log_tells.proofs.restarts_follow.Goals as goal
use Rattle.log_tells.proofs.Leading.{restart_brings, restarts, shows_written}
use Rattle.log_tells.proofs.Later.{later}

pub returns : goal.returns
returns c =
    let none : lrsn_of zeros ≡ 0 = c.header_laws.ensures.zeros.3 16 (width_in zeros) in
    let lead : RestartLeads = restarts c.chain_laws.ensures.others c.versions_show.ensures.redo in
    record { leads = lead; brought = restart_brings c.forward_laws.ensures.redo lead; written = shows_written c.redo_laws.ensures.number none; later = later }
