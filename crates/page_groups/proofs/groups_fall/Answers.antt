use Rattle.page_groups.proofs.groups_fall.Goals as goal
use Rattle.page_groups.proofs.Falling.{falls, falls_again}

pub returns : goal.returns
returns c =
    let good = c.coherent_pages.ensures.run in
    let possible = c.logs_have_prefixes.ensures.group_failure in
    record { falls = falls good possible; again = falls_again good possible }
