use Rattle.page_protocol.proofs.redo_laws.Goals as goal
use Rattle.page_protocol.proofs.Redo.{own, merged, once}

pub returns : goal.returns
returns c = record { own_log = own; merged_logs = merged; once = once }
