use Rattle.page_protocol.proofs.rows_in_pages.Goals as goal
use Rattle.page_protocol.proofs.Rows.{reads_last, keeps}

pub returns : goal.returns
returns c = record { reads = reads_last; claimed = keeps }
