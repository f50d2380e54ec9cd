use Rattle.page_groups.proofs.groups_start.Goals as goal
use Rattle.page_groups.proofs.Starting.{groups_start, members_begin}

pub returns : goal.returns
returns c = record { members = members_begin; group = groups_start c.groups_begin.ensures.starts c.coherent_pages.ensures.start c.keeps_entries_apart.ensures.empty }
