-- Given out again: what the crates above take from those below this one.
pub use Rattle.group_restart.specs.Machine.{Restart}
pub use Rattle.group_restart.specs.declared.calls.State.{State}
pub use Rattle.group_restart.specs.declared.calls.State.TheVariants as state_variants
