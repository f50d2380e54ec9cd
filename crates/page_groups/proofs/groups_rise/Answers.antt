use Rattle.page_groups.proofs.groups_rise.Goals as goal
use Rattle.page_groups.proofs.Rising.{groups_rise}

pub returns : goal.returns
returns c = groups_rise c.coherent_pages.ensures.run c.groups_begin.ensures.rises c.groups_start.ensures.members c.keeps_entries_apart.ensures.empty
