use Rattle.page_numbers.proofs.versions_are_whole.Goals as goal
use Rattle.page_numbers.proofs.Stamps.{Laws}
use Rattle.page_numbers.proofs.Whole.{told_whole}

pub returns : goal.returns
returns c =
    let laws : Laws = record { whole = c.part_laws.ensures.whole; stamp = c.part_laws.ensures.stamp } in
    told_whole laws
