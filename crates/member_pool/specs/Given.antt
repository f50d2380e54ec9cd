-- Given out again: what the crates above take from those below this one.
pub use Rattle.write_order.specs.declared.rank.Rank.{Rank}
