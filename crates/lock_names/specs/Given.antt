-- Given out again: what the crates above take from those below this one.
pub use Rattle.ds_model.specs.declared.lock.Name.{Name}
pub use Rattle.ds_model.specs.declared.lock.Name.TheVariants as name_variants
