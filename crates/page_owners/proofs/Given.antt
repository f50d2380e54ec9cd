-- Given out again: what the crates above take from those below this one.
pub use Rattle.page_intents.proofs.Heads.{is_found}
