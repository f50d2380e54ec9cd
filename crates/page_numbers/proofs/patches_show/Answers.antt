use Rattle.page_numbers.proofs.patches_show.Goals as goal
use Rattle.page_numbers.proofs.Stamps.{Laws}
use Rattle.page_numbers.proofs.Systems.{patches_show}

pub returns : goal.returns
returns c =
    let laws : Laws = record { whole = c.part_laws.ensures.whole; stamp = c.part_laws.ensures.stamp } in
    patches_show laws
