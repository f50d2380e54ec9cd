-- How the block of a reader is lent.
use Rattle.std.specs.Prelude.{ℕ, List}
use Rattle.std.specs.Borrow.{Lends, MutBor, Fml, Array, u8}
use Rattle.log_reader.specs.Readers.{block_size}
use Rattle.checkpoint_reader.specs.contracts.reader.CheckpointReader.{the_row}
use Rattle.checkpoint_reader.specs.Readers.{ReaderState}

abbrev pub with_block : ReaderState → List ℕ → ReaderState
with_block r block = record r { block = block }

-- the reader ends with the bytes that are left behind the reference as its block
abbrev pub LendsBlock : MutBor ReaderState → MutBor (List ℕ) → Fml
LendsBlock reader block = Lends the_row (Array u8 block_size) reader block (λ last. with_block reader.now last)
