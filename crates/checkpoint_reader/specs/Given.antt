-- Given out again: what the crates above take from those below this one.
pub use Rattle.log_reader.specs.declared.calls.LogCall.{LogCall}
