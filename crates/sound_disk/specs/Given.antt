-- Given out again: what the crates above take from those below this one.
pub use Rattle.restart_plan.specs.Renewal.{must_renew}
