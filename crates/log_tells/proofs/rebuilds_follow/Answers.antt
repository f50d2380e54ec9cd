use Rattle.log_tells.specs.Leads.{RebuildBrings, RebuildLeads}
use Rattle.log_tells.proofs.rebuilds_follow.Goals as goal
use Rattle.log_tells.proofs.Merging.{merged_are}
use Rattle.log_tells.proofs.Leading.{brings, rebuilds}
use Rattle.log_tells.proofs.Settling.{unchanged, untouched}

pub returns : goal.returns
returns c =
    let lead : RebuildLeads = rebuilds c.chain_laws.ensures.others c.versions_show.ensures.redo merged_are in
    let bring : RebuildBrings = brings c.forward_laws.ensures.redo merged_are lead in
    record {
      merged = merged_are;
      leads = lead;
      brought = bring;
      untouched = untouched c.chain_laws.ensures.others c.logs_have_prefixes.ensures.rebuild c.versions_show.ensures.differ lead;
      unchanged = unchanged c.logs_have_prefixes.ensures.rebuild c.versions_show.ensures.differ bring;
    }
