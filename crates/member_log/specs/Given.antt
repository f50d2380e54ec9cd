-- Given out again: what the crates above take from those below this one.
pub use Rattle.log_record.specs.Changes.{inverse}
