-- Given out again: what the crates above take from those below this one.
pub use Rattle.page_records.specs.declared.places.PageRecords.{PageRecords}
pub use Rattle.log_merge.specs.Merging.{all_records, in_order, RisesFrom, is_merged, kept}
