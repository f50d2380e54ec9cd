use Rattle.index_protocol.proofs.sound_search.Goals as goal
use Rattle.index_protocol.proofs.Later.{moves_keep}
use Rattle.index_protocol.proofs.Search.{answers, begins, known_begins, leads}
use Rattle.index_protocol.proofs.Whole_search.{claim_finds, ends, finds}

pub returns : goal.returns
returns c = record { begins = begins; known = known_begins; leads = leads; answers = answers; later = moves_keep; ends = ends; finds = finds; claims = claim_finds }
