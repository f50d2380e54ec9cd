-- Given out again: what the crates above take from those below this one.
pub use Rattle.checkpoint_reader.specs.Readers.{ReaderState, after_reply, is_whole, parts_read, IsRead}
