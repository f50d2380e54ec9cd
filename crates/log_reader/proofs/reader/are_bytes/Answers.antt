use Rattle.std.proofs.Common.{arith}
use Rattle.log_reader.proofs.reader.are_bytes.Goals as goal

pub returns : goal.returns
returns c = λ i. omega (arith, c.type_inv.block i)
