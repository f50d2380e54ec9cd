-- Given out again: what the crates above take from those below this one.
pub use Rattle.member_resources.specs.Held.{Held, begun, with_marks, with_spare}
pub use Rattle.member_resources.specs.Events.{Happens, World, holder_in, Runs}
pub use Rattle.member_resources.specs.Prepared.{setting_of, Reserves, needed}
pub use Rattle.member_resources.specs.declared.prepared.Prepared.{Prepared}
