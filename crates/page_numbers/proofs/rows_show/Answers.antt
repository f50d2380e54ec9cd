use Rattle.page_numbers.proofs.rows_show.Goals as goal
use Rattle.page_numbers.proofs.Stamps.{Laws}
use Rattle.page_numbers.proofs.Rows.{back_shows, row_shows}

pub returns : goal.returns
returns c =
    let laws : Laws = record { whole = c.part_laws.ensures.whole; stamp = c.part_laws.ensures.stamp } in
    record { row = row_shows laws; back = back_shows laws }
