-- Given out again: what the crates above take from those below this one.
pub use Rattle.heap_space.specs.Layout.{slot_at}
pub use Rattle.heap_space.specs.Slots.{image, head}
pub use Rattle.heap_space.specs.Written.{written}
pub use Rattle.page_format.specs.Fields.{lrsn_of, width_in}
pub use Rattle.page_format.specs.declared.patch.Patch.{Patch}
