-- Given out again: what the crates above take from those below this one.
pub use Rattle.lock_events.specs.Quiet.{CommandsStay, Quiet, is_quiet}
pub use Rattle.lock_events.specs.Events.{ToldGoes}
