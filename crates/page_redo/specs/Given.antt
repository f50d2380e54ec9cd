-- Given out again: what the crates above take from those below this one.
pub use Rattle.page_chain.specs.Chains.{changes_of, touches, AreRecords, redo, images_of, IsVersion, Follows, AreInOrder, RedoReaches, version_of}
