use Rattle.page_protocol.proofs.newest_copies.Goals as goal
use Rattle.page_protocol.proofs.Words.{gives, fallen_gives}
use Rattle.page_protocol.proofs.Later.{never_back, no_earlier_copy}
use Rattle.page_protocol.proofs.Recovered.{after_rebuild, after_group_restart}

pub returns : goal.returns
returns c = record { gives = gives; fallen = fallen_gives; never_back = never_back; no_earlier_copy = no_earlier_copy; rebuild = after_rebuild; group_restart = after_group_restart }
