-- Given out again: what the crates above take from those below this one.
pub use Rattle.page_owners.proofs.Given.{is_found}
pub use Rattle.restart_owners.proofs.Given.{others_facility, standings_of, ups, after_first, after_tests, when_first, when_rest}
pub use Rattle.group_locks.proofs.Whole.{within}
pub use Rattle.group_locks.proofs.Idle.{no_page}
