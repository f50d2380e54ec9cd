use Rattle.index_protocol.proofs.one_place.Goals as goal
use Rattle.index_protocol.proofs.Partition.{partitions}

pub returns : goal.returns
returns c = partitions
