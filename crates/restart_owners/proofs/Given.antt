-- Given out again: what the crates above take from those below this one.
pub use Rattle.page_restarts.proofs.Leading.{others_facility, standings_of}
pub use Rattle.page_restarts.proofs.Ending.{ups}
pub use Rattle.page_restarts.proofs.Needs.{after_first, after_tests, when_first, when_rest}
