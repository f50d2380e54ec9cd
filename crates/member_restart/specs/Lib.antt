-- given out again: what a restart holds, and its events
pub use Rattle.restart_resources.specs.Held
pub use Rattle.restart_resources.specs.Events
