-- Given out again: what the crates above take from those below this one.
pub use Rattle.page_intents.specs.Numbers.{AreNumbered}
pub use Rattle.page_intents.specs.Plain.{ArePlain, is_plain, none_waits}
