-- Given out again: what the crates above take from those below this one.
pub use Rattle.restart_records.specs.Own.{own_with}
pub use Rattle.restart_records.specs.Own as own_module
pub use Rattle.restart_records.specs.Maps.{places_at}
pub use Rattle.restart_records.specs.declared.trans.Newest.{Newest}
pub use Rattle.restart_records.specs.Trans.{newest, page_of}
