-- Given out again: what the crates above take from those below this one.
pub use Rattle.ds_model.specs.declared.log.LogRecord.{LogRecord}
pub use Rattle.ds_model.specs.RecordBytes.{record_limit, record_bytes, IsAllowed, Fits}
