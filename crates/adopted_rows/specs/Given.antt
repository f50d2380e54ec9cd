-- Given out again: what the crates above take from those below this one.
pub use Rattle.row_claims.specs.Rows.{RowsLocked}
