use Rattle.row_protocol.proofs.ordered_records.Goals as goal
use Rattle.row_protocol.proofs.Ordered.{keeps_start, keeps_step, always_ordered, one_is_open, undo_sets_back, logs_by_lrsn}

pub returns : goal.returns
returns c = record { start = keeps_start; step = keeps_step; always = always_ordered; one_is_open = one_is_open; sets_back = undo_sets_back; by_lrsn = logs_by_lrsn }
