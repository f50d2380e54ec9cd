-- Given out again: what the crates above take from those below this one.
pub use Rattle.row_claims.specs.Rows.{AllClosed, RowsLocked}
pub use Rattle.row_claims.specs.Given.{SlotsStand, HasLocked, IsTaken, name_of, IsUnfailed}
