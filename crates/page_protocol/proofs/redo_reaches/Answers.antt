use Rattle.page_protocol.proofs.redo_reaches.Goals as goal
use Rattle.page_protocol.proofs.Bytes.{restart, rebuild, group_restart}

pub returns : goal.returns
returns c = record { restart = restart; rebuild = rebuild; group_restart = group_restart }
