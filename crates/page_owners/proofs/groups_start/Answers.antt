use Rattle.page_owners.proofs.groups_start.Goals as goal
use Rattle.page_owners.proofs.Starting.{groups_begin, groups_start}

pub returns : goal.returns
returns c =
    let begin = groups_begin c.groups_begin.ensures.starts c.keeps_sound.ensures.start c.slots_stay.ensures.begin c.pages_in_x.ensures.begin in
    record { begin = begin; start = groups_start begin c.groups_start.ensures.group }
